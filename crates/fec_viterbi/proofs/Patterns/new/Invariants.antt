use Rattle.std.proofs.Common.{◌≡◌, ℕ, ◌<◌, ◌/◌, ◌%◌, length, get_or}
use Rattle.fec_viterbi.specs.Code.{pattern_of}
use Rattle.fec_viterbi.proofs.Patterns.new.Given as goal

abbrev pub invariant-loop-register : goal.invariant-loop-register
invariant-loop-register l =
    record {
      size : length l.value-items ≡ 128;
      each : (r : ℕ) → r < l.register → get_or l.value-items r 0 ≡ pattern_of (r / 2) (r % 2);
    }
