-- Laws of one step's values: a pattern is one of 16, and the correlation that it names is what the step adds.
-- Assumes nothing.
use mathlib.Core.Path.{◌≡◌, refl, sym, ap, ◌∙◌}
use mathlib.Core.Bool.{Bool, true, false, cond}
use mathlib.Core.List.{List, [], ◌∷◌}
use mathlib.Core.Logic.{inl, inr}
use Prim.Native.Nat.{ℕ, zero, suc, ◌+◌, ◌*◌, ◌/◌, ◌%◌, ◌^◌, ◌<◌, ◌≤◌}
use native.Mathlib.Nat.{pow-le-pow_right}
use native.Mathlib.Omega.{arith}
use lib.ListN.{length, get_or, drop}
use lib.Seq.{get_or-take, get_or-drop}
use Rattle.std.specs.Simd.{first_chunks}
use Rattle.laws.proofs.Chunks.{chunk_at}
use lib.IntN.{ℤ, pos, ◌+ℤ◌}
use lib.Signed.{lt_z, ◌≤ℤ◌}
use lib.Pow.{shl_exact}
use Rattle.std.specs.Int.{int_max, from_bool}
use Rattle.std.specs.List.{fold}
use Rattle.std.proofs.lemmas.Int.{fold-int_max_bounds, fold-int_max_reached}
use Rattle.laws.specs.Integers.{at, pick_z}
use Rattle.laws.specs.Words.{pick_n}
use Rattle.laws.proofs.Words.{bit_lt, pow_next}
use Rattle.laws.proofs.Integers.{parts_le, lt_z_true, lt_z_false, ≤ℤ-antisym}
use Rattle.spec_trellis.specs.Trellis.{out_bit, sign_by, soft, branch}
use Rattle.spec_trellis.specs.Program.{Greatest}
use Rattle.spec_trellis.proofs.Trellis.{out-lt}
use Rattle.fec_viterbi.specs.Code.{pattern_of, correlation_of}

pub pattern_lt : (s b : ℕ) → pattern_of s b < 16
unfolding pattern_of
pattern_lt s b = omega (arith, out-lt s b 0, out-lt s b 1, out-lt s b 2, out-lt s b 3)

-- the correlation with a branch's outputs is what a first step with these values adds on that branch
pub correlation_branch : (v : List ℤ) (s b : ℕ) → correlation_of v (pattern_of s b) ≡ branch v 0 s b
unfolding correlation_of pattern_of branch
correlation_branch v s b =
    let o0 : ℕ = out_bit s b 0 in
    let o1 : ℕ = out_bit s b 1 in
    let o2 : ℕ = out_bit s b 2 in
    let o3 : ℕ = out_bit s b 3 in
    let l0 = out-lt s b 0 in
    let l1 = out-lt s b 1 in
    let l2 = out-lt s b 2 in
    let l3 = out-lt s b 3 in
    let p : ℕ = o0 + 2 * o1 + 4 * o2 + 8 * o3 in
    let e0 : p % 2 ≡ o0 = omega arith in
    let q1 : p / 2 ≡ o1 + 2 * o2 + 4 * o3 = omega arith in
    let q2 : p / 4 ≡ o2 + 2 * o3 = omega arith in
    let q3 : p / 8 ≡ o3 = omega arith in
    let e1 : p / 2 % 2 ≡ o1 = rw q1 (omega arith) in
    let e2 : p / 4 % 2 ≡ o2 = rw q2 (omega arith) in
    let e3 : p / 8 % 2 ≡ o3 = rw q3 (omega arith) in
    (λ i. sign_by (e0 i) (at v 0) +ℤ sign_by (e1 i) (at v 1) +ℤ sign_by (e2 i) (at v 2) +ℤ sign_by (e3 i) (at v 3))

-- what a first step with the values of step k adds is what step k adds
pub branch-is : (v xs : List ℤ) (k : ℕ) → ((g : ℕ) → g < 4 → at v g ≡ soft xs k g) → (s b : ℕ) → branch v 0 s b ≡ branch xs k s b
unfolding branch
branch-is v xs k e s b =
    (λ i. sign_by (out_bit s b 0) (e 0 (omega arith) i) +ℤ sign_by (out_bit s b 1) (e 1 (omega arith) i) +ℤ sign_by (out_bit s b 2) (e 2 (omega arith) i) +ℤ sign_by (out_bit s b 3) (e 3 (omega arith) i))

-- the greater of two
pub max_is : (a b : ℤ) → int_max a b ≡ pick_z (lt_z a b) b a
max_is a b = go (lt_z a b) refl (lt_z b a) refl
  where
    go : (t : Bool) → lt_z a b ≡ t → (u : Bool) → lt_z b a ≡ u → cond u a b ≡ pick_z t b a
    go true e true f = absurd (omega (arith, lt_z_true a b e, lt_z_true b a f))
    go true e false f = refl
    go false e true f = refl
    go false e false f = ≤ℤ-antisym (parts_le b a (omega (arith, lt_z_false a b e))) (parts_le a b (omega (arith, lt_z_false b a f)))

-- and of the values of a list
pub greatest_is : (xs : List ℤ) (n : ℕ) → length xs ≡ n → 0 < n → Greatest (at xs) n (fold int_max (at xs 0) xs)
greatest_is xs n l h =
    elim (fold-int_max_reached (at xs 0) xs top refl) [
      | inl e ↦ record { above = above; place = 0; place_lt = h; is = e }
      | inr w ↦ record { above = above; place = w.0; place_lt = omega (arith, w.1); is = sym (any_default xs w.0 (pos 0) top w.1 ∙ w.2) }
    ]
  where
    top : ℤ
    top = fold int_max (at xs 0) xs

    above : (s : ℕ) → s < n → at xs s ≤ℤ top
    above s k = (fold-int_max_bounds (at xs 0) xs top refl).1 s (pos 0) (omega arith)

    any_default : (ys : List ℤ) (k : ℕ) (d e : ℤ) → k < length ys → get_or ys k d ≡ get_or ys k e
    any_default [] k d e p = absurd (omega arith)
    any_default (y ∷ ys) zero d e p = refl
    any_default (y ∷ ys) (suc k) d e p = any_default ys k d e (omega arith)

-- a flag as a number, and shifted to its place in a word
pub flag_is : (b : Bool) → from_bool b ≡ pick_n b 1 0
flag_is true = refl
flag_is false = refl

pub bit_above : (b : Bool) (t : ℕ) → t < 64 → pick_n b 1 0 * 2 ^ t % 2 ^ 64 ≡ pick_n b 1 0 * 2 ^ t
bit_above b t h = shl_exact {a = pick_n b 1 0} 1 t 64 (bit_lt b) (omega arith)

-- above the bits of a word below t there is room for it
pub bit_fits : (b : Bool) (t w : ℕ) → t < 64 → w < 2 ^ t → w + pick_n b 1 0 * 2 ^ t % 2 ^ 64 < 2 ^ 64
bit_fits b t w h l = let most : 2 ^ (t + 1) ≤ 2 ^ 64 = pow-le-pow_right {n = 2} (omega arith) {i = t + 1} {j = 64} (omega arith) in rw (bit_above b t h) (go b most)
  where
    go : (b : Bool) → 2 ^ (t + 1) ≤ 2 ^ 64 → w + pick_n b 1 0 * 2 ^ t < 2 ^ 64
    go true m = omega (arith, pow_next t)
    go false m = omega (arith, pow_next t)

-- value g of step k of the soft values, cut into steps of four
pub value_of_chunk : (xs : List ℤ) (m k : ℕ) (d : List ℤ) → k < m → (g : ℕ) → g < 4 → at (get_or (first_chunks 4 m xs) k d) g ≡ soft xs k g
value_of_chunk xs m k d h g l = ap (λ (v : List ℤ). at v g) (chunk_at 4 m xs k d h) ∙ get_or-take 4 (drop (4 * k) xs) g (pos 0) l ∙ get_or-drop (4 * k) xs g (pos 0)
