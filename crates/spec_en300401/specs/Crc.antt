-- Clause 5.2.1 and annex E, the CRC of a FIB: G(x) = x^16 + x^12 + x^5 + 1, the register all ones at the start, the word complemented.
use Rattle.std.specs.Prelude.{Bool, List, [], ◌∷◌, ℕ, ◌+◌, ◌*◌, ◌-◌, ◌/◌, ◌%◌, ◌^◌, eqb, take, drop}
use Rattle.std.specs.Int.Bits.{bit_xor}
use Rattle.laws.specs.Bits.{num_of}
use Rattle.spec_en300401.specs.Bytes.{bits_of_bytes}

-- G(x) without its leading term
abbrev pub generator : ℕ
generator = 2 ^ 12 + 2 ^ 5 + 1

-- the register after one bit more: shifted, and G(x) added where the stage that leaves and the bit differ
unfoldable pub crc_step : ℕ → ℕ → ℕ
crc_step r b = bit_xor (2 * r % 2 ^ 16) ((r / 2 ^ 15 + b) % 2 * generator)

-- the register after some bits
unfoldable pub crc_from : ℕ → List ℕ → ℕ
crc_from r [] = r
crc_from r (b ∷ bs) = crc_from (crc_step r b) bs

-- the CRC word that is sent for some bits
unfoldable pub crc_word : List ℕ → ℕ
crc_word bs = (2 ^ 16 - 1) - crc_from (2 ^ 16 - 1) bs

-- a FIB of 256 bits is valid: its last 16 bits are the CRC word of its first 240
unfoldable pub fib_valid : List ℕ → Bool
fib_valid bs = eqb (crc_word (take 240 bs)) (num_of (drop 240 bs))

-- a FIB of 32 bytes is valid
unfoldable pub fib_bytes_valid : List ℕ → Bool
fib_bytes_valid ys = fib_valid (bits_of_bytes ys)
