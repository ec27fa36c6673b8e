use Rattle.std.proofs.Common.{◌≡◌, ℕ, ◌<◌, ◌≤◌, ◌-ℤ◌, length}
use Rattle.laws.specs.Integers.{at}
use Rattle.fec_viterbi.proofs.renormalised.Given as goal

abbrev pub invariant-loop-score : goal.invariant-loop-score
invariant-loop-score l =
    record {
      size : length l.score-items ≡ 64;
      each : (t : ℕ) → t < l.score-index → at l.score-items t ≡ at l.fn.scores t -ℤ l.best;
      rest : (t : ℕ) → l.score-index ≤ t → at l.score-items t ≡ at l.fn.scores t;
    }
