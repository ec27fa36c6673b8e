-- Laws of energy dispersal: the register's view of the sequence, places, lengths, and dispersal twice.
-- Assumes nothing.
use mathlib.Core.Path.{◌≡◌, refl, sym, ap, ap₂, ◌∙◌, subst}
use mathlib.Core.List.{List, [], ◌∷◌}
use Prim.Native.Nat.{ℕ, zero, suc, ◌+◌, ◌*◌, ◌-◌, ◌/◌, ◌%◌, ◌<◌}
use native.Mathlib.Omega.{arith}
use native.Mathlib.Nat.{zero-add}
use lib.Bits.{bit_xor, differ, xor_step, xor_zero_r, xor_lt}
use lib.ListN.{length, get_or, replicate}
use lib.Seq.{ext_get_or}
use Rattle.laws.specs.Bits.{AreBits, map_from}
use Rattle.laws.proofs.Bits.{length-map_from, map_from-at}
use Rattle.spec_en300401.specs.Dispersal.{stage, prbs, disperse}
use Rattle.spec_en300401.specs.Theorems.{DisperseTwice}

pub stage-lt : (n : ℕ) → stage n < 2
unfolding stage
stage-lt zero = omega arith
stage-lt (suc zero) = omega arith
stage-lt (suc (suc zero)) = omega arith
stage-lt (suc (suc (suc zero))) = omega arith
stage-lt (suc (suc (suc (suc zero)))) = omega arith
stage-lt (suc (suc (suc (suc (suc zero))))) = omega arith
stage-lt (suc (suc (suc (suc (suc (suc zero)))))) = omega arith
stage-lt (suc (suc (suc (suc (suc (suc (suc zero))))))) = omega arith
stage-lt (suc (suc (suc (suc (suc (suc (suc (suc zero)))))))) = omega arith
stage-lt (suc (suc (suc (suc (suc (suc (suc (suc (suc n))))))))) = omega arith

stage_next : (n : ℕ) → stage (n + 9) ≡ (stage n + stage (n + 4)) % 2
unfolding stage
stage_next n =
    let nine : n + 9 ≡ suc (suc (suc (suc (suc (suc (suc (suc (suc n)))))))) = omega arith in
    let four : suc (suc (suc (suc n))) ≡ n + 4 = omega arith in
    ap stage nine ∙ ap (λ (m : ℕ). (stage n + stage m) % 2) four

-- the nine stages of the register before bit n of the sequence, the oldest highest
unfoldable pub register_at : ℕ → ℕ
register_at n = stage n * 256 + stage (n + 1) * 128 + stage (n + 2) * 64 + stage (n + 3) * 32 + stage (n + 4) * 16 + stage (n + 5) * 8 + stage (n + 6) * 4 + stage (n + 7) * 2 + stage (n + 8)

pub register-start : 511 ≡ register_at 0
unfolding register_at stage
register-start = refl

pub register-lt : (n : ℕ) → register_at n < 512
unfolding register_at
register-lt n = omega (arith, stage-lt n, stage-lt (n + 1), stage-lt (n + 2), stage-lt (n + 3), stage-lt (n + 4), stage-lt (n + 5), stage-lt (n + 6), stage-lt (n + 7), stage-lt (n + 8))

-- the next bit is the sum of the register's bits 8 and 4
pub register_bit : (n : ℕ) → (register_at n / 256 + register_at n / 16) % 2 ≡ prbs n
unfolding register_at
register_bit n =
    let r : ℕ = stage n * 256 + stage (n + 1) * 128 + stage (n + 2) * 64 + stage (n + 3) * 32 + stage (n + 4) * 16 + stage (n + 5) * 8 + stage (n + 6) * 4 + stage (n + 7) * 2 + stage (n + 8) in
    let l1 = stage-lt (n + 1) in
    let l2 = stage-lt (n + 2) in
    let l3 = stage-lt (n + 3) in
    let l4 = stage-lt (n + 4) in
    let l5 = stage-lt (n + 5) in
    let l6 = stage-lt (n + 6) in
    let l7 = stage-lt (n + 7) in
    let l8 = stage-lt (n + 8) in
    let high : r / 256 ≡ stage n = omega arith in
    let low : r / 16 ≡ stage n * 16 + stage (n + 1) * 8 + stage (n + 2) * 4 + stage (n + 3) * 2 + stage (n + 4) = omega arith in
    ap₂ (λ (a b : ℕ). (a + b) % 2) high low ∙ go (stage n) (stage (n + 1)) (stage (n + 2)) (stage (n + 3)) (stage (n + 4)) ∙ sym (stage_next n)
  where
    go : (a b c d e : ℕ) → (a + (a * 16 + b * 8 + c * 4 + d * 2 + e)) % 2 ≡ (a + e) % 2
    go a b c d e = omega arith

-- the register moves on by one bit
pub register_next : (n : ℕ) → (2 * register_at n + prbs n) % 512 ≡ register_at (n + 1)
unfolding register_at
register_next n =
    go (stage n) (stage (n + 1)) (stage (n + 2)) (stage (n + 3)) (stage (n + 4)) (stage (n + 5)) (stage (n + 6)) (stage (n + 7)) (stage (n + 8)) (stage (n + 9))
    (shift (stage-lt (n + 1)) (stage-lt (n + 2)) (stage-lt (n + 3)) (stage-lt (n + 4)) (stage-lt (n + 5)) (stage-lt (n + 6)) (stage-lt (n + 7)) (stage-lt (n + 8)) (stage-lt (n + 9)))
    ∙ (λ i. stage (n + 1) * 256 + stage (e 1 i) * 128 + stage (e 2 i) * 64 + stage (e 3 i) * 32 + stage (e 4 i) * 16 + stage (e 5 i) * 8 + stage (e 6 i) * 4 + stage (e 7 i) * 2 + stage (e 8 i))
  where
    e : (k : ℕ) → n + (1 + k) ≡ n + 1 + k
    e k = omega arith

    shift : stage (n + 1) < 2 → stage (n + 2) < 2 → stage (n + 3) < 2 → stage (n + 4) < 2 → stage (n + 5) < 2 → stage (n + 6) < 2 → stage (n + 7) < 2 → stage (n + 8) < 2 → stage (n + 9) < 2
        → stage (n + 1) * 256 + stage (n + 2) * 128 + stage (n + 3) * 64 + stage (n + 4) * 32 + stage (n + 5) * 16 + stage (n + 6) * 8 + stage (n + 7) * 4 + stage (n + 8) * 2 + stage (n + 9) < 512
    shift = omega arith

    go : (s0 s1 s2 s3 s4 s5 s6 s7 s8 s9 : ℕ) → s1 * 256 + s2 * 128 + s3 * 64 + s4 * 32 + s5 * 16 + s6 * 8 + s7 * 4 + s8 * 2 + s9 < 512
        → (2 * (s0 * 256 + s1 * 128 + s2 * 64 + s3 * 32 + s4 * 16 + s5 * 8 + s6 * 4 + s7 * 2 + s8) + s9) % 512 ≡ s1 * 256 + s2 * 128 + s3 * 64 + s4 * 32 + s5 * 16 + s6 * 8 + s7 * 4 + s8 * 2 + s9
    go s0 s1 s2 s3 s4 s5 s6 s7 s8 s9 h = omega arith

pub prbs-lt : (n : ℕ) → prbs n < 2
prbs-lt n = stage-lt (n + 9)

pub disperse-length : (xs : List ℕ) → length (disperse xs) ≡ length xs
unfolding disperse
disperse-length xs = length-map_from (λ (n x : ℕ). bit_xor x (prbs n)) 0 xs

pub disperse-at : (xs : List ℕ) (i : ℕ) → i < length xs → get_or (disperse xs) i 0 ≡ bit_xor (get_or xs i 0) (prbs i)
unfolding disperse
disperse-at xs i h = map_from-at (λ (n x : ℕ). bit_xor x (prbs n)) 0 xs i h ∙ ap (λ (m : ℕ). bit_xor (get_or xs i 0) (prbs m)) (zero-add i)

-- zeros and ones stay zeros and ones
pub disperse-bits : {xs : List ℕ} → AreBits xs → AreBits (disperse xs)
disperse-bits {xs} h = record { each = λ i l. rw (disperse-at xs i (inside i l)) (xor_lt 1 (get_or xs i 0) (prbs i) (h.each i (inside i l)) (prbs-lt i)) }
  where
    inside : (i : ℕ) → i < length (disperse xs) → i < length xs
    inside i l = subst (λ (m : ℕ). i < m) (disperse-length xs) l

-- a value with its lowest bit inverted
flipped : (a : ℕ) → bit_xor a 1 ≡ a / 2 * 2 + (1 - a % 2)
flipped a = xor_step a 1 ∙ ap₂ (λ (h l : ℕ). h * 2 + l) (xor_zero_r (a / 2)) (other (a % 2) (omega arith))
  where
    other : (r : ℕ) → r < 2 → differ r 1 ≡ 1 - r
    other zero h = refl
    other (suc zero) h = refl
    other (suc (suc r)) h = absurd (omega arith)

-- one bit xored twice
pub xor_twice : (a p : ℕ) → p < 2 → bit_xor (bit_xor a p) p ≡ a
xor_twice a zero h = xor_zero_r (bit_xor a 0) ∙ xor_zero_r a
xor_twice a (suc zero) h = flipped (bit_xor a 1) ∙ ap (λ (x : ℕ). x / 2 * 2 + (1 - x % 2)) (flipped a) ∙ back (a / 2) (a % 2) (omega arith) ∙ whole
  where
    back : (q r : ℕ) → r < 2 → (q * 2 + (1 - r)) / 2 * 2 + (1 - (q * 2 + (1 - r)) % 2) ≡ q * 2 + r
    back q r l =
        let up : (q * 2 + (1 - r)) / 2 ≡ q = omega arith in
        let down : (q * 2 + (1 - r)) % 2 ≡ 1 - r = omega arith in
        ap₂ (λ (x y : ℕ). x * 2 + (1 - y)) up down ∙ omega arith

    whole : a / 2 * 2 + a % 2 ≡ a
    whole = omega arith
xor_twice a (suc (suc p)) h = absurd (omega arith)

-- dispersal twice is the identity
pub disperse_twice : DisperseTwice
disperse_twice xs =
    ext_get_or 0 (disperse (disperse xs)) xs (disperse-length (disperse xs) ∙ disperse-length xs)
    (λ i l. go i (subst (λ (m : ℕ). i < m) (disperse-length (disperse xs) ∙ disperse-length xs) l))
  where
    go : (i : ℕ) → i < length xs → get_or (disperse (disperse xs)) i 0 ≡ get_or xs i 0
    go i l = disperse-at (disperse xs) i (subst (λ (m : ℕ). i < m) (sym (disperse-length xs)) l) ∙ ap (λ (v : ℕ). bit_xor v (prbs i)) (disperse-at xs i l) ∙ xor_twice (get_or xs i 0) (prbs i) (prbs-lt i)

-- the sequence begins 0000 0111 1011 1110
pub sixteen_zeros : disperse (replicate 16 0) ≡ 0 ∷ 0 ∷ 0 ∷ 0 ∷ 0 ∷ 1 ∷ 1 ∷ 1 ∷ 1 ∷ 0 ∷ 1 ∷ 1 ∷ 1 ∷ 1 ∷ 1 ∷ 0 ∷ []
unfolding disperse map_from stage
sixteen_zeros = refl
