-- What the byte test compares: the word of the first 30 bytes, and bytes 30 and 31.
-- Assumes nothing.
use mathlib.Core.Path.{◌≡◌, refl, sym, ap, ap₂, ◌∙◌}
use mathlib.Core.Bool.{Bool, false, cond}
use mathlib.Core.List.{List, [], ◌∷◌}
use Prim.Native.Nat.{ℕ, ◌+◌, ◌*◌, ◌-◌, ◌<◌, ◌≤◌}
use native.Mathlib.Omega.{arith}
use borrow.Author.Tests.{le-leb, lt-leb}
use lib.Dec.{eqb}
use lib.ListN.{length, get_or, take, drop}
use Rattle.laws.specs.Bits.{num_of}
use Rattle.spec_en300401.specs.Bytes.{bits_of_bytes}
use Rattle.spec_en300401.specs.Crc.{crc_from, crc_word, fib_valid, fib_bytes_valid}
use Rattle.spec_en300401.proofs.Bytes.{take-bits, drop_bits, two_bytes}
use Rattle.fec_crc.specs.Tests.{byte_test}

last_two : (sent : List ℕ) → length sent ≡ 2 → sent ≡ get_or sent 0 0 ∷ get_or sent 1 0 ∷ []
last_two [] h = absurd (omega arith)
last_two (a ∷ []) h = absurd (omega arith)
last_two (a ∷ b ∷ []) h = refl
last_two (a ∷ b ∷ c ∷ s) h = absurd (omega arith)

-- of 32 bytes
pub fib_test : (ys sent : List ℕ) (reg : ℕ) → sent ≡ drop 30 ys → length sent ≡ 2 → get_or sent 0 0 < 256 → get_or sent 1 0 < 256 → reg ≡ crc_from 0xffff (bits_of_bytes (take 30 ys))
    → eqb (0xffff - reg) (get_or sent 0 0 * 256 + get_or sent 1 0) ≡ fib_bytes_valid ys
unfolding fib_bytes_valid fib_valid crc_word
fib_test ys sent reg s h ha hb e =
    ap₂ eqb
    (ap (λ (r : ℕ). 0xffff - r) (e ∙ ap (crc_from 0xffff) (sym (take-bits 30 ys))))
    (sym (ap num_of (drop_bits 30 ys ∙ ap bits_of_bytes (sym s ∙ last_two sent h)) ∙ two_bytes (get_or sent 0 0) (get_or sent 1 0) ha hb))

-- of the first 32 bytes, where there are as many
pub byte_test_lem : (ys : List ℕ) → 32 ≤ length ys → byte_test ys ≡ fib_bytes_valid (take 32 ys)
unfolding byte_test
byte_test_lem ys h = ap (λ (t : Bool). cond t (fib_bytes_valid (take 32 ys)) false) (le-leb 32 (length ys) h)

pub too_short : (ys : List ℕ) → length ys < 32 → false ≡ byte_test ys
unfolding byte_test
too_short ys h = sym (ap (λ (t : Bool). cond t (fib_bytes_valid (take 32 ys)) false) (lt-leb 32 (length ys) h))
