use Rattle.std.proofs.Common.{◌≡◌, ℕ, ◌<◌, get_or}
use Rattle.laws.specs.Integers.{at}
use Rattle.laws.specs.Words.{word_of}
use Rattle.spec_trellis.specs.Trellis.{Softs}
use Rattle.spec_trellis.specs.Program.{takes_at, Running}
use Rattle.fec_viterbi.proofs.forward.Given as goal

abbrev pub invariant-loop-k : goal.invariant-loop-k
invariant-loop-k l =
    record {
      softs : Softs l.soft l.k;
      running : Running l.soft l.k (at l.scores);
      words_are : (j : ℕ) → j < l.k → get_or l.words j 0 ≡ word_of (takes_at l.soft j) 64;
    }
