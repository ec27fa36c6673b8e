-- The promise of the two depuncturers admits one answer and one output. Proved in proofs/Unique.antt.
use Rattle.std.specs.Prelude.{◌≡◌, List, ℕ, ℤ, Result}
use Rattle.refusal.specs.declared.Refusal.{Refusal}
use Rattle.spec_en300401.specs.Puncturing.{Region}
use Rattle.fec_depuncturing.specs.Promises.{DepuncturePromise}

abbrev pub OneDepuncturing : Type 0
OneDepuncturing =
    (n need : ℕ) (profile : List Region) (soft before after after' : List ℤ) (r s : Result (Unit {0}) Refusal)
    → DepuncturePromise n need profile soft before after r → DepuncturePromise n need profile soft before after' s → (r ≡ s) × (after ≡ after')
