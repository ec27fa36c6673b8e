-- Laws of the EEP profiles: two regions under two of the vectors, and 96 places for each kbit/s.
-- Assumes nothing.
use mathlib.Core.Path.{◌≡◌, ◌∙◌}
use Prim.Native.Nat.{ℕ, zero, suc, ◌+◌, ◌*◌, ◌%◌, ◌<◌, ◌≤◌}
use native.Mathlib.Omega.{arith}
use lib.ListN.{length}
use Rattle.spec_en300401.specs.Puncturing.{mask}
use Rattle.spec_en300401.specs.Eep.{unit, level_of, first, eep_profile}
use Rattle.spec_en300401.proofs.Puncturing.{Usable, usable_two, blocks_in, length-mask}

module _ (rate : ℕ) (small : rate < 65536) where
  pub eep_usable : (o l : ℕ) → Usable (eep_profile o l rate)
  unfolding eep_profile first level_of unit
  eep_usable zero zero = usable_two _ _ (omega arith) (omega arith) tt tt tt tt
  eep_usable zero (suc zero) = usable_two _ _ (omega arith) (omega arith) tt tt tt tt
  eep_usable zero (suc (suc zero)) = usable_two _ _ (omega arith) (omega arith) tt tt tt tt
  eep_usable zero (suc (suc (suc l))) = usable_two _ _ (omega arith) (omega arith) tt tt tt tt
  eep_usable (suc o) zero = usable_two _ _ (omega arith) (omega arith) tt tt tt tt
  eep_usable (suc o) (suc zero) = usable_two _ _ (omega arith) (omega arith) tt tt tt tt
  eep_usable (suc o) (suc (suc zero)) = usable_two _ _ (omega arith) (omega arith) tt tt tt tt
  eep_usable (suc o) (suc (suc (suc l))) = usable_two _ _ (omega arith) (omega arith) tt tt tt tt

  -- at a whole number of units, 96 places of the mother code word for each kbit/s, and the tail
  pub eep-length : (o l : ℕ) → 3 ≤ first o l rate → rate % unit o ≡ 0 → length (mask (eep_profile o l rate)) ≡ 96 * rate + 24
  unfolding eep_profile first level_of unit blocks_in
  eep-length zero zero h m = length-mask (eep_profile 0 0 rate) ∙ omega arith
  eep-length zero (suc zero) h m = length-mask (eep_profile 0 1 rate) ∙ omega arith
  eep-length zero (suc (suc zero)) h m = length-mask (eep_profile 0 2 rate) ∙ omega arith
  eep-length zero (suc (suc (suc l))) h m = length-mask (eep_profile 0 (suc (suc (suc l))) rate) ∙ omega arith
  eep-length (suc o) zero h m = length-mask (eep_profile (suc o) 0 rate) ∙ omega arith
  eep-length (suc o) (suc zero) h m = length-mask (eep_profile (suc o) 1 rate) ∙ omega arith
  eep-length (suc o) (suc (suc zero)) h m = length-mask (eep_profile (suc o) 2 rate) ∙ omega arith
  eep-length (suc o) (suc (suc (suc l))) h m = length-mask (eep_profile (suc o) (suc (suc (suc l))) rate) ∙ omega arith

-- L1 is never 0
pub first-blocks : (o l rate : ℕ) → 3 ≤ first o l rate → 3 < first o l rate
unfolding first level_of unit
first-blocks zero zero rate h = omega arith
first-blocks zero (suc zero) rate h = omega arith
first-blocks zero (suc (suc zero)) rate h = omega arith
first-blocks zero (suc (suc (suc l))) rate h = omega arith
first-blocks (suc o) zero rate h = omega arith
first-blocks (suc o) (suc zero) rate h = omega arith
first-blocks (suc o) (suc (suc zero)) rate h = omega arith
first-blocks (suc o) (suc (suc (suc l))) rate h = omega arith
