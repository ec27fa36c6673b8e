-- Document 01, constants.rs and `check_crc_bits`: the byte test and the bit test, as yes or no.
use Rattle.std.specs.Prelude.{Bool, false, cond, List, ℕ, leb, nat_lt, eqb, length, take}
use Rattle.std.specs.List.{list_all}
use Rattle.spec_en300401.specs.Crc.{fib_valid, fib_bytes_valid}

-- under 32 bytes: no; beyond 32, the first 32 count
unfoldable pub byte_test : List ℕ → Bool
byte_test ys = cond (leb 32 (length ys)) (fib_bytes_valid (take 32 ys)) false

-- each value is 0 or 1
abbrev pub all_bits : List ℕ → Bool
all_bits bs = list_all (λ b. nat_lt b 2) bs

-- 256 zeros and ones; no to any other input
unfoldable pub bit_test : List ℕ → Bool
bit_test bs = cond (eqb (length bs) 256) (cond (all_bits bs) (fib_valid bs) false) false
