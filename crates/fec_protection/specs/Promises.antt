-- Document 01, "What the receiver owes": the promises of the public functions.
use Rattle.std.specs.Prelude.{◌≡◌, List, ℕ, length, Result}
use Rattle.spec_en300401.specs.Puncturing.{Region, mask}
use Rattle.refusal.specs.declared.Refusal.{Refusal}
use Rattle.refusal.specs.Outcome.{outcome, told}
use Rattle.fec_protection.specs.declared.Description.{Description}
use Rattle.fec_protection.specs.declared.ProtectionParams.{ProtectionParams}
use Rattle.fec_protection.specs.Params.{params_of}
use Rattle.fec_protection.specs.Refusals.{profile_of, row_refusal_of, judgement}

-- the judgement of a description: its first refusal of 1 to 7, or accepted
pub record JudgePromise (d : Description) (r : Result (Unit {0}) Refusal) : Type 0 where
  pub answer : told r ≡ judgement d

-- a row: refused by n, or the profile's numbers
pub record RowPromise (n : ℕ) (profile : List Region) (r : Result ProtectionParams Refusal) : Type 0 where
  pub answer : told r ≡ outcome n (params_of profile)

-- the mother code word's size
abbrev pub mother_size : List Region → ℕ
mother_size rs = length (mask rs)

-- a size of the description's profile: its first refusal of 1 to 4, or the size
pub record SizePromise (size : List Region → ℕ) (d : Description) (r : Result ℕ Refusal) : Type 0 where
  pub answer : told r ≡ outcome (row_refusal_of d) (size (profile_of d))
