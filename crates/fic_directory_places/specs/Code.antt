-- What the private functions of the crate promise: the code's own terms.
use Rattle.std.specs.Prelude.{◌≡◌, true, false, ℕ, ◌+◌, ◌*◌, ◌/◌, ◌%◌, ◌<◌, min, List, get_or, MatchOption, Option}
use Rattle.spec_en300401.specs.Organisation.{primary_audio}
use Rattle.fic_directory_places.specs.Places.{field, most_components}

-- how many components a service's first number says, 12 for more
abbrev pub component_count : ℕ → ℕ
component_count w = min most_components (field w 40 4)

-- component k of the service whose numbers begin at i
abbrev pub component_at : List ℕ → ℕ → ℕ → ℕ
component_at xs i k = field (get_or xs (i + 1 + k / 4) 0) (16 * (k % 4)) 16

-- the first of n components that is primary audio
pub record FirstAudio (word : ℕ → ℕ) (n : ℕ) (r : Option ℕ) : Type 0 where
  pub found : MatchOption r ((k : ℕ) → k < n → primary_audio (word k) ≡ false)
      (λ k. (k < n) × (primary_audio (word k) ≡ true) × ((q : ℕ) → q < k → primary_audio (word q) ≡ false))
