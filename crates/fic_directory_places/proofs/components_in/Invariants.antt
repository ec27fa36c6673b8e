-- The words so far are the components'.
use Rattle.std.proofs.Common.{◌≡◌, ℕ, ◌<◌, length, get_or}
use Rattle.fic_directory_places.specs.Code.{component_at}
use Rattle.fic_directory_places.proofs.components_in.Given as goal

abbrev pub invariant-loop-k : goal.invariant-loop-k
invariant-loop-k l =
    record {
      size : length l.word-items ≡ l.fn.count;
      each : (p : ℕ) → p < l.k → get_or l.word-items p 0 ≡ component_at l.fn.numbers 0 p;
    }
