-- Document 01, "eep.rs": what a depuncturing returns and writes.
use Rattle.std.specs.Prelude.{◌≡◌, List, ◌++◌, ℕ, length, drop, ℤ}
use Rattle.spec_en300401.specs.Puncturing.{Region, mask, depuncture, fic_profile}
use Rattle.refusal.specs.Outcome.{unless_refused}
use Rattle.fec_protection.specs.declared.Description.{Description}
use Rattle.fec_protection.specs.Refusals.{profile_of, depunctured_length}
use Rattle.fec_depuncturing.specs.Promises.{msc_refusal_of, fic_refusal_of}

-- refusal n, 0 where it is done; the depunctured values before the rest as it was, or all as it was
pub record Filled (n need : ℕ) (profile : List Region) (soft before after : List ℤ) (number : ℕ) : Type 0 where
  pub answer : number ≡ n
  pub places : after ≡ unless_refused n (depuncture (mask profile) soft ++ drop need before) before

-- a sub-channel: refusals 1 to 7, then 8
abbrev pub FilledMsc : Description → List ℤ → List ℤ → List ℤ → ℕ → Type 0
FilledMsc d soft before after number = Filled (msc_refusal_of d (length before)) (depunctured_length d) (profile_of d) soft before after number

-- a block of the FIC: refusal 8
abbrev pub FilledFic : List ℤ → List ℤ → List ℤ → ℕ → Type 0
FilledFic soft before after number = Filled (fic_refusal_of (length before)) 3096 fic_profile soft before after number
