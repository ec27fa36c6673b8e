-- Laws of the places of a ring's slots.
-- Assumes nothing.
use Prim.Native.Nat.{ℕ, ◌+◌, ◌*◌, ◌<◌}
use native.Mathlib.Omega.{arith}
use native.Mathlib.Nat.{suc-mul, mul-le-mul_right}

-- slots of n values: a place of slot s is before slot m ends
pub slot_end : (s m n i : ℕ) → s < m → i < n → s * n + i < m * n
slot_end s m n i h l = omega (arith, suc-mul s n, mul-le-mul_right n h)
