-- Clause 11.3.2, equal error protection: set A (option 0) at multiples of 8 kbit/s, set B (option 1) at multiples of 32.
use Rattle.std.specs.Prelude.{List, [], ◌∷◌, ℕ, zero, suc, ◌+◌, ◌*◌, ◌-◌, ◌/◌}
use Rattle.spec_en300401.specs.Puncturing.{Region}

-- a level's row: L1 = fold1 n - 3 blocks of PI pi1, L2 = fold2 n + 3 blocks of PI pi2
pub record Level : Type 0 where
  pub fold1 : ℕ
  pub fold2 : ℕ
  pub pi1 : ℕ
  pub pi2 : ℕ

-- the bit rate's unit, 8 or 32 kbit/s
unfoldable pub unit : ℕ → ℕ
unit zero = 8
unit (suc o) = 32

-- 1-A to 4-A, 1-B to 4-B; levels count from 0. The standard's row of its own for 2-A at n = 1 is left out, as document 01 and the Rust do: refusal 3 (docs/DIFFERENCES.md)
unfoldable pub level_of : ℕ → ℕ → Level
level_of zero zero = record { fold1 = 6; fold2 = 0; pi1 = 24; pi2 = 23 }
level_of zero (suc zero) = record { fold1 = 2; fold2 = 4; pi1 = 14; pi2 = 13 }
level_of zero (suc (suc zero)) = record { fold1 = 6; fold2 = 0; pi1 = 8; pi2 = 7 }
level_of zero (suc (suc (suc l))) = record { fold1 = 4; fold2 = 2; pi1 = 3; pi2 = 2 }
level_of (suc o) zero = record { fold1 = 24; fold2 = 0; pi1 = 10; pi2 = 9 }
level_of (suc o) (suc zero) = record { fold1 = 24; fold2 = 0; pi1 = 6; pi2 = 5 }
level_of (suc o) (suc (suc zero)) = record { fold1 = 24; fold2 = 0; pi1 = 4; pi2 = 3 }
level_of (suc o) (suc (suc (suc l))) = record { fold1 = 24; fold2 = 0; pi1 = 2; pi2 = 1 }

-- L1 before 3 is taken from it: below 3, L1 is negative
unfoldable pub first : ℕ → ℕ → ℕ → ℕ
first o l rate = (level_of o l).fold1 * (rate / unit o)

-- the two regions of a level at a bit rate, rounded down to whole units
unfoldable pub eep_profile : ℕ → ℕ → ℕ → List Region
eep_profile o l rate =
    record { blocks = first o l rate - 3; pi = (level_of o l).pi1 }
    ∷ record { blocks = (level_of o l).fold2 * (rate / unit o) + 3; pi = (level_of o l).pi2 } ∷ []
