-- Document 01, "eep.rs" and "What the receiver owes": the refusals and the promises of the two depuncturers.
use Rattle.std.specs.Prelude.{◌≡◌, List, [], ◌∷◌, ◌++◌, ℕ, ltb, length, drop, ℤ, Result}
use Rattle.refusal.specs.declared.Refusal.{Refusal}
use Rattle.spec_en300401.specs.Puncturing.{Region, mask, depuncture, fic_profile}
use Rattle.refusal.specs.Outcome.{outcome, unless_refused, check, first_of, told}
use Rattle.fec_protection.specs.declared.Description.{Description}
use Rattle.fec_protection.specs.Refusals.{profile_of, refusal_of, depunctured_length}

-- the first refusal of a description and an output of some length: 1 to 7 of the description, then 8
unfoldable pub msc_refusal_of : Description → ℕ → ℕ
msc_refusal_of d long = first_of (refusal_of d ∷ check 8 (ltb long (depunctured_length d)) ∷ [])

-- 8 of the FIC
abbrev pub fic_refusal_of : ℕ → ℕ
fic_refusal_of long = check 8 (ltb long 3096)

-- what stands in `out` afterwards: the depunctured values and then what was there; all as it was where the call is refused
pub record DepuncturePromise (n need : ℕ) (profile : List Region) (soft before after : List ℤ) (r : Result (Unit {0}) Refusal) : Type 0 where
  pub answer : told r ≡ outcome n tt
  pub places : after ≡ unless_refused n (depuncture (mask profile) soft ++ drop need before) before

abbrev pub DepuncturedMsc : Description → List ℤ → List ℤ → List ℤ → Result (Unit {0}) Refusal → Type 0
DepuncturedMsc d soft before after r = DepuncturePromise (msc_refusal_of d (length before)) (depunctured_length d) (profile_of d) soft before after r

abbrev pub DepuncturedFic : List ℤ → List ℤ → List ℤ → Result (Unit {0}) Refusal → Type 0
DepuncturedFic soft before after r = DepuncturePromise (fic_refusal_of (length before)) 3096 fic_profile soft before after r
