use Rattle.std.proofs.Common.{◌≡◌, ℕ, ◌<◌, ◌≤◌, length, nat_abs}
use Rattle.laws.specs.Integers.{at}
use Rattle.fec_viterbi.specs.Code.{correlation_of}
use Rattle.fec_viterbi.proofs.correlations.Given as goal

abbrev pub invariant-loop-pattern : goal.invariant-loop-pattern
invariant-loop-pattern l =
    record {
      size : length l.value-items ≡ 16;
      each : (p : ℕ) → p < l.pattern → at l.value-items p ≡ correlation_of l.fn.soft p;
      small : (p : ℕ) → p < l.pattern → nat_abs (at l.value-items p) ≤ 512;
    }
