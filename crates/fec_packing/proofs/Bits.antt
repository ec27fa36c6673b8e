-- Laws of values taken as bits.
-- Assumes nothing.
use Prim.Native.Nat.{ℕ, zero, suc, ◌+◌, ◌*◌, ◌/◌, ◌^◌, ◌<◌, ◌≤◌}
use borrow.Author.Tests.{ne_eqb}
use lib.Dec.{eqb}
use lib.ListN.{length, get_or, take, drop, length-map, get_or-map}
use lib.Pow.{pow_mono}
use mathlib.Core.Bool.{Bool, not}
use mathlib.Core.List.{List, [], ◌∷◌, map}
use mathlib.Core.Path.{◌≡◌, refl, sym, ap, ◌∙◌, subst}
use mir.Val.{bool_byte}
use native.Mathlib.Omega.{arith}
use Rattle.fec_packing.specs.Bytes.{as_bit, bytes_of}
use Rattle.laws.proofs.Bits.{num_snoc, num_lt, below-head, below_tail}
use Rattle.laws.specs.Bits.{num_of, AreBits}
use Rattle.spec_en300401.proofs.Bytes.{bytes-length, byte_at}
use Rattle.spec_en300401.specs.Bytes.{bytes_of_bits}
use Rattle.std.proofs.lemmas.List.{take-map, drop-map, map_more}

pub as_bit-lt : (v : ℕ) → as_bit v < 2
unfolding as_bit
as_bit-lt zero = omega arith
as_bit-lt (suc v) = omega arith

pub bits_mapped : (xs : List ℕ) → AreBits (map as_bit xs)
unfolding as_bit
bits_mapped xs = record { each = λ i l. subst (λ (v : ℕ). v < 2) (sym (get_or-map as_bit xs i 0)) (as_bit-lt (get_or xs i 0)) }

-- zeros and ones are themselves
pub as_bits : (xs : List ℕ) → AreBits xs → map as_bit xs ≡ xs
unfolding as_bit
as_bits [] h = refl
as_bits (zero ∷ xs) h = ap (λ (r : List ℕ). 0 ∷ r) (as_bits xs (below_tail h))
as_bits (suc zero ∷ xs) h = ap (λ (r : List ℕ). 1 ∷ r) (as_bits xs (below_tail h))
as_bits (suc (suc x) ∷ xs) h = absurd (omega (arith, below-head h))

-- so the packer's bytes of them are the standard's
pub bytes_of-bits : (xs : List ℕ) → AreBits xs → bytes_of xs ≡ bytes_of_bits xs
unfolding bytes_of
bytes_of-bits xs h = ap bytes_of_bits (as_bits xs h)

abbrev pub number : List ℕ → ℕ
number xs = num_of (map as_bit xs)

pub number_more : (xs : List ℕ) (i : ℕ) → i < length xs → number (take (i + 1) xs) ≡ 2 * number (take i xs) + as_bit (get_or xs i 0)
number_more xs i h = ap num_of (map_more as_bit xs i 0 h) ∙ num_snoc (map as_bit (take i xs)) (as_bit (get_or xs i 0))

-- fewer than eight values
pub number_small : (xs : List ℕ) → length xs < 8 → number xs < 2 ^ 7
number_small xs h =
    let a = num_lt (map as_bit xs) (bits_mapped xs) in
    let b : 2 ^ length (map as_bit xs) ≤ 2 ^ 7 = pow_mono {j = 7} (omega (arith, length-map xs as_bit)) in
    omega arith

-- a value's bit as the code has it
pub flag_is : (v : ℕ) → bool_byte (not (eqb v 0)) ≡ as_bit v
unfolding as_bit
flag_is zero = refl
flag_is (suc v) = ap (λ (t : Bool). bool_byte (not t)) (ne_eqb (suc v) 0 (λ e. omega (arith, e)))

pub bytes_of-length : (xs : List ℕ) → length (bytes_of xs) ≡ length xs / 8
unfolding bytes_of
bytes_of-length xs = bytes-length (map as_bit xs) ∙ ap (λ (n : ℕ). n / 8) (length-map xs as_bit)

pub bytes_of-at : (xs : List ℕ) (n : ℕ) → n < length xs / 8 → get_or (bytes_of xs) n 0 ≡ number (take 8 (drop (8 * n) xs))
unfolding bytes_of
bytes_of-at xs n h =
    byte_at (map as_bit xs) n (subst (λ (m : ℕ). n < m / 8) (sym (length-map xs as_bit)) h) ∙ ap (λ (ys : List ℕ). num_of (take 8 ys)) (drop-map as_bit (8 * n) xs) ∙ ap num_of (take-map as_bit 8 (drop (8 * n) xs))
