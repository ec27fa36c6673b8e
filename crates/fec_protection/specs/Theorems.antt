-- Each promise of the public functions admits one result (proofs/Unique.antt); document 01, "Twelve cases": needed sizes are multiples of 4 (proofs/Profiles.antt).
use Rattle.std.specs.Prelude.{◌≡◌, List, ℕ, ◌%◌, ◌<◌, ◌^◌, Result}
use Rattle.spec_en300401.specs.Puncturing.{Region, kept_size}
use Rattle.refusal.specs.declared.Refusal.{Refusal}
use Rattle.fec_protection.specs.declared.Description.{Description}
use Rattle.fec_protection.specs.declared.ProtectionParams.{ProtectionParams}
use Rattle.fec_protection.specs.Promises.{JudgePromise, RowPromise, SizePromise}
use Rattle.fec_protection.specs.Refusals.{profile_of, row_refusal_of}

-- `judge`
abbrev pub OneJudgement : Type 0
OneJudgement = (d : Description) (r s : Result (Unit {0}) Refusal) → JudgePromise d r → JudgePromise d s → r ≡ s

-- `protection_params`
abbrev pub OneRow : Type 0
OneRow = (n : ℕ) (profile : List Region) (r s : Result ProtectionParams Refusal) → RowPromise n profile r → RowPromise n profile s → r ≡ s

-- `needed_size` and `depunctured_size`
abbrev pub OneSize : Type 0
OneSize = (size : List Region → ℕ) (d : Description) (r s : Result ℕ Refusal) → SizePromise size d r → SizePromise size d s → r ≡ s

-- what a row needs is a multiple of 4, so that no sub-channel is over by 9
abbrev pub NeededInFours : Type 0
NeededInFours = (d : Description) → d.bitrate < 2 ^ 16 → row_refusal_of d ≡ 0 → kept_size (profile_of d) % 4 ≡ 0
