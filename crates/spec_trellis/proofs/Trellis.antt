-- Steps through the trellis: which state a step leads to, what it adds to a score, and how large that can be.
-- Assumes nothing.
use mathlib.Core.Path.{◌≡◌, refl, sym, ap, ◌∙◌, subst}
use mathlib.Core.Bool.{Bool, true, false}
use mathlib.Core.List.{List, [], ◌∷◌}
use mathlib.Core.Logic.{◌⊎◌, inl, inr}
use Prim.Native.Nat.{ℕ, zero, suc, ◌+◌, ◌*◌, ◌/◌, ◌%◌, ◌<◌, ◌≤◌}
use native.Mathlib.Omega.{arith}
use native.Mathlib.Decide.{ℕ_discrete, dec_lt}
use lib.Count.{ones, ones_in}
use lib.Dec.{eqb, eqb→eq}
use lib.ListN.{get_or}
use lib.IntN.{ℤ, neg_ℤ, nat_abs, ◌+ℤ◌, neg_ℤ-+ℤ, neg_ℤ-neg_ℤ}
use Rattle.laws.specs.Integers.{at}
use Rattle.laws.specs.Lists.{list_from, list_of}
use Rattle.laws.proofs.Integers.{abs_sum, abs_neg}
use Rattle.laws.proofs.Lists.{list_of-at}
use Rattle.laws.proofs.Tables.{rule_at}
use Rattle.laws.proofs.Words.{bit_lt}
use Rattle.spec_trellis.specs.Trellis.{bit_n, is_odd, parity, out_bit, sign_by, soft, Softs, branch, next_state, end_of}
use Rattle.spec_trellis.specs.Program.{Soft}

-- a soft value, signed by an output
pub sign_zero : (o : ℕ) (v : ℤ) → o ≡ 0 → sign_by o v ≡ neg_ℤ v
unfolding sign_by
sign_zero o v e = subst (λ (n : ℕ). sign_by n v ≡ neg_ℤ v) (sym e) refl

pub sign_one : (o : ℕ) (v : ℤ) → (o ≡ 0 → ⊥) → sign_by o v ≡ v
unfolding sign_by
sign_one zero v h = absurd (h refl)
sign_one (suc n) v h = refl

pub sign_abs : (o : ℕ) (v : ℤ) → nat_abs (sign_by o v) ≡ nat_abs v
unfolding sign_by
sign_abs zero v = abs_neg v
sign_abs (suc n) v = refl

pub sign_opposite : (o p : ℕ) (v : ℤ) → o + p ≡ 1 → sign_by o v ≡ neg_ℤ (sign_by p v)
unfolding sign_by
sign_opposite zero zero v e = absurd (omega arith)
sign_opposite zero (suc p) v e = refl
sign_opposite (suc o) zero v e = sym (neg_ℤ-neg_ℤ v)
sign_opposite (suc o) (suc p) v e = absurd (omega arith)

pub out-lt : (s b g : ℕ) → out_bit s b g < 2
unfolding out_bit parity
out-lt s b g = omega arith

-- from e by bit b to t: e is one of t's predecessors, and b is t's lowest bit
module _ (e : ℕ) (b : Bool) where
  pub next_lt : next_state e (bit_n b) < 64
  unfolding next_state
  next_lt = omega arith

  pub next_bit : next_state e (bit_n b) % 2 ≡ bit_n b
  unfolding next_state
  next_bit = omega (arith, bit_lt b)

  pub next_low : e < 32 → next_state e (bit_n b) / 2 ≡ e
  unfolding next_state
  next_low l = omega (arith, bit_lt b)

  pub next_high : e < 64 → 32 ≤ e → next_state e (bit_n b) / 2 + 32 ≡ e
  unfolding next_state
  next_high h l = omega (arith, bit_lt b)

pub end_lt : (s : ℕ) → s < 64 → (bs : List Bool) → end_of s bs < 64
unfolding end_of
end_lt s h [] = h
end_lt s h (b ∷ bs) = next_lt (end_of s bs) b

pub before_cases : (e t : ℕ) (b : Bool) → e < 64 → next_state e (bit_n b) ≡ t → (e ≡ t / 2) ⊎ (e ≡ t / 2 + 32)
unfolding next_state
before_cases e t b h q = go (dec_lt e 32)
  where
    go : Dec (e < 32) → (e ≡ t / 2) ⊎ (e ≡ t / 2 + 32)
    go (yes l) = inl (omega (arith, bit_lt b))
    go (no l) = inr (omega (arith, bit_lt b))

pub bit_is : (e t : ℕ) (b : Bool) → next_state e (bit_n b) ≡ t → bit_n b ≡ t % 2
bit_is e t b q = sym (next_bit e b) ∙ ap (λ (n : ℕ). n % 2) q

pub odd_is : (n : ℕ) → n < 2 → bit_n (is_odd n) ≡ n
odd_is zero h = refl
odd_is (suc n) h = omega arith

pub odd_bit : (b : Bool) → is_odd (bit_n b) ≡ b
odd_bit true = refl
odd_bit false = refl

pub softs_next : (xs : List ℤ) (n : ℕ) → Softs xs n → Soft (soft xs n 0) (soft xs n 1) (soft xs n 2) (soft xs n 3) → Softs xs (n + 1)
softs_next xs n q h i l = go (dec_lt i (4 * n)) (ℕ_discrete i (4 * n + 0)) (ℕ_discrete i (4 * n + 1)) (ℕ_discrete i (4 * n + 2)) (ℕ_discrete i (4 * n + 3))
  where
    at-is : (j : ℕ) → nat_abs (at xs j) ≤ 128 → i ≡ j → nat_abs (at xs i) ≤ 128
    at-is j b e = subst (λ (m : ℕ). nat_abs (at xs m) ≤ 128) (sym e) b

    go : Dec (i < 4 * n) → Dec (i ≡ 4 * n + 0) → Dec (i ≡ 4 * n + 1) → Dec (i ≡ 4 * n + 2) → Dec (i ≡ 4 * n + 3) → nat_abs (at xs i) ≤ 128
    go (yes a) b c d e = q i a
    go (no a) (yes b) c d e = at-is (4 * n + 0) h.b0 b
    go (no a) (no b) (yes c) d e = at-is (4 * n + 1) h.b1 c
    go (no a) (no b) (no c) (yes d) e = at-is (4 * n + 2) h.b2 d
    go (no a) (no b) (no c) (no d) (yes e) = at-is (4 * n + 3) h.b3 e
    go (no a) (no b) (no c) (no d) (no e) = absurd (omega arith)

pub branch-le : (xs : List ℤ) (n : ℕ) → Softs xs n → (k s b : ℕ) → k < n → nat_abs (branch xs k s b) ≤ 512
unfolding branch
branch-le xs n q k s b l =
    let v0 = soft xs k 0 in
    let v1 = soft xs k 1 in
    let v2 = soft xs k 2 in
    let v3 = soft xs k 3 in
    let a0 = sign_by (out_bit s b 0) v0 in
    let a1 = sign_by (out_bit s b 1) v1 in
    let a2 = sign_by (out_bit s b 2) v2 in
    let a3 = sign_by (out_bit s b 3) v3 in
    omega (arith, abs_sum (a0 +ℤ a1 +ℤ a2) a3, abs_sum (a0 +ℤ a1) a2, abs_sum a0 a1, sign_abs (out_bit s b 0) v0, sign_abs (out_bit s b 1) v1, sign_abs (out_bit s b 2) v2, sign_abs (out_bit s b 3) v3, q (4 * k + 0) (omega arith), q (4 * k + 1) (omega arith), q (4 * k + 2) (omega arith), q (4 * k + 3) (omega arith))

-- the two branches out of a state have all four outputs inverted, since each mask has its lowest bit set
differ : ℕ → ℕ → Bool
differ k x = eqb x 1

sums : List ℕ
sums = list_of 256 (λ (k : ℕ). out_bit (k / 4) 0 (k % 4) + out_bit (k / 4) 1 (k % 4))

pub differ_at : (s g : ℕ) → s < 64 → g < 4 → out_bit s 0 g + out_bit s 1 g ≡ 1
unfolding differ sums out_bit parity ones ones_in list_from
differ_at s g hs hg =
    let k : ℕ = s * 4 + g in
    let e : k / 4 ≡ s = omega arith in
    let f : k % 4 ≡ g = omega arith in
    let h : k < 256 = omega arith in
    let sum_of : ℕ → ℕ = λ (k : ℕ). out_bit (k / 4) 0 (k % 4) + out_bit (k / 4) 1 (k % 4) in
    (λ i. out_bit (sym e i) 0 (sym f i) + out_bit (sym e i) 1 (sym f i))
    ∙ sym (list_of-at 256 sum_of 0 k h)
    ∙ eqb→eq (get_or sums k 0) 1 (rule_at differ 0 sums tt k h)

pub branch_opposite : (xs : List ℤ) (k s : ℕ) → s < 64 → branch xs k s 0 ≡ neg_ℤ (branch xs k s 1)
unfolding branch
branch_opposite xs k s h =
    let v0 = soft xs k 0 in
    let v1 = soft xs k 1 in
    let v2 = soft xs k 2 in
    let v3 = soft xs k 3 in
    let b0 : ℤ = sign_by (out_bit s 1 0) v0 in
    let b1 : ℤ = sign_by (out_bit s 1 1) v1 in
    let b2 : ℤ = sign_by (out_bit s 1 2) v2 in
    let b3 : ℤ = sign_by (out_bit s 1 3) v3 in
    (λ i. sign_opposite (out_bit s 0 0) (out_bit s 1 0) v0 (differ_at s 0 h (omega arith)) i
    +ℤ sign_opposite (out_bit s 0 1) (out_bit s 1 1) v1 (differ_at s 1 h (omega arith)) i
    +ℤ sign_opposite (out_bit s 0 2) (out_bit s 1 2) v2 (differ_at s 2 h (omega arith)) i
    +ℤ sign_opposite (out_bit s 0 3) (out_bit s 1 3) v3 (differ_at s 3 h (omega arith)) i)
    ∙ sym (neg_ℤ-+ℤ (b0 +ℤ b1 +ℤ b2) b3 ∙ ap (λ (z : ℤ). z +ℤ neg_ℤ b3) (neg_ℤ-+ℤ (b0 +ℤ b1) b2 ∙ ap (λ (z : ℤ). z +ℤ neg_ℤ b2) (neg_ℤ-+ℤ b0 b1)))
