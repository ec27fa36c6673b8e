-- Laws of the CRC register: it stays below 2^16, and goes on over more bits.
-- Assumes nothing.
use mathlib.Core.Path.{◌≡◌, refl}
use mathlib.Core.List.{List, [], ◌∷◌, ◌++◌}
use Prim.Native.Nat.{ℕ, ◌+◌, ◌*◌, ◌/◌, ◌%◌, ◌^◌, ◌<◌}
use native.Mathlib.Omega.{arith}
use lib.Bits.{xor_lt}
use Rattle.spec_en300401.specs.Crc.{generator, crc_step, crc_from}

pub step_lt : (r b : ℕ) → crc_step r b < 2 ^ 16
unfolding crc_step
step_lt r b = xor_lt 16 (2 * r % 2 ^ 16) ((r / 2 ^ 15 + b) % 2 * generator) (omega arith) (small ((r / 2 ^ 15 + b) % 2) (omega arith))
  where
    small : (d : ℕ) → d < 2 → d * generator < 2 ^ 16
    small d h = omega arith

pub from-lt : (r : ℕ) (bs : List ℕ) → r < 2 ^ 16 → crc_from r bs < 2 ^ 16
unfolding crc_from
from-lt r [] h = h
from-lt r (b ∷ bs) h = from-lt (crc_step r b) bs (step_lt r b)

pub from-append : (r : ℕ) (xs bs : List ℕ) → crc_from r (xs ++ bs) ≡ crc_from (crc_from r xs) bs
unfolding crc_from
from-append r [] bs = refl
from-append r (x ∷ xs) bs = from-append (crc_step r x) xs bs
