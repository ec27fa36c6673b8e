use Rattle.std.proofs.Common.{◌≡◌, ℕ, ◌<◌, length}
use Rattle.laws.specs.Integers.{at}
use Rattle.laws.specs.Words.{word_of}
use Rattle.spec_trellis.specs.Trellis.{branch}
use Rattle.spec_trellis.specs.Program.{takes, acs}
use Rattle.fec_viterbi.proofs.step.Given as goal

abbrev pub invariant-loop-t : goal.invariant-loop-t
invariant-loop-t l =
    record {
      size : length l.score-items ≡ 64;
      word_is : l.word ≡ word_of (takes (at l.fn.scores) (branch l.fn.soft 0)) l.t;
      each : (k : ℕ) → k < l.t → at l.score-items k ≡ acs (at l.fn.scores) (branch l.fn.soft 0) k;
    }
