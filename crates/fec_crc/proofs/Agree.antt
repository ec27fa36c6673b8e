-- On 256 zeros and ones the bit test and the byte test of the packed bytes are the same yes or no.
-- Assumes nothing.
use mathlib.Core.Path.{◌≡◌, refl, sym, ap, ◌∙◌}
use mathlib.Core.Bool.{Bool, true, false, cond}
use mathlib.Core.List.{List}
use Prim.Native.Nat.{ℕ}
use native.Mathlib.Omega.{arith}
use borrow.Author.Tests.{le-leb, eq-eqb, ne_eqb}
use lib.Dec.{eqb}
use lib.ListN.{length, take}
use lib.Seq.{take_all}
use Rattle.laws.specs.Bits.{AreBits}
use Rattle.spec_en300401.specs.Bytes.{bytes_of_bits}
use Rattle.spec_en300401.specs.Crc.{fib_valid, fib_bytes_valid}
use Rattle.spec_en300401.proofs.Bytes.{packed, Packed}
use Rattle.fec_crc.specs.Tests.{byte_test, bit_test, all_bits}
use Rattle.fec_crc.specs.Theorems.{TestsAgree}
use Rattle.fec_crc.proofs.Bits.{are_all}

-- the bit test of 256 zeros and ones
pub bit_is : (bs : List ℕ) → length bs ≡ 256 → AreBits bs → bit_test bs ≡ fib_valid bs
unfolding bit_test
bit_is bs e h = ap (λ (t : Bool). cond t (cond (all_bits bs) (fib_valid bs) false) false) (eq-eqb (length bs) 256 e) ∙ ap (λ (t : Bool). cond t (fib_valid bs) false) (are_all bs h)

-- the byte test of 32 bytes
pub byte_is : (ys : List ℕ) → length ys ≡ 32 → byte_test ys ≡ fib_bytes_valid ys
unfolding byte_test
byte_is ys e = ap (λ (t : Bool). cond t (fib_bytes_valid (take 32 ys)) false) (le-leb 32 (length ys) (omega arith)) ∙ ap fib_bytes_valid (take_all 32 ys (omega arith))

pub tests_agree : TestsAgree
unfolding fib_bytes_valid
tests_agree bs e h = bit_is bs e h ∙ sym (byte_is (bytes_of_bits bs) p.long ∙ ap fib_valid p.back)
  where
    p : Packed bs 32
    p = packed bs 32 e h

-- the bit test where a value is no bit, or there are not 256
pub no_bits : (bs : List ℕ) → false ≡ all_bits bs → false ≡ bit_test bs
unfolding bit_test
no_bits bs e = go (eqb (length bs) 256) ∙ ap (λ (t : Bool). cond (eqb (length bs) 256) (cond t (fib_valid bs) false) false) e
  where
    go : (t : Bool) → false ≡ cond t false false
    go true = refl
    go false = refl

pub not_256 : (bs : List ℕ) → (length bs ≡ 256 → ⊥) → false ≡ bit_test bs
unfolding bit_test
not_256 bs h = sym (ap (λ (t : Bool). cond t (cond (all_bits bs) (fib_valid bs) false) false) (ne_eqb (length bs) 256 h))
