-- A path that all soft values speak for outscores every other: its score is the sum of their sizes; another start costs 63, and at the oldest other bit all four outputs are inverted.
-- Assumes nothing.
use mathlib.Core.Path.{◌≡◌, refl, sym, ap, ap₂, ◌∙◌, subst}
use mathlib.Core.Bool.{Bool, true, false, Bool-discrete}
use mathlib.Core.List.{List, [], ◌∷◌}
use mathlib.Core.Logic.{◌⊎◌, inl, inr}
use Prim.Native.Nat.{ℕ, zero, suc, ◌+◌, ◌*◌, ◌<◌, ◌≤◌}
use native.Mathlib.Omega.{arith}
use lib.ListN.{length}
use lib.IntN.{ℤ, pos, negsuc, neg_ℤ, nat_abs, ◌+ℤ◌}
use lib.Signed.{◌≤ℤ◌, ◌<ℤ◌}
use Rattle.laws.specs.Integers.{up, dn, at}
use Rattle.laws.proofs.Integers.{sum, neg_up, neg_dn, abs_sum, abs_parts, parts_le, parts_lt, lt_parts}
use Rattle.spec_trellis.specs.Clean.{Agrees}
use Rattle.spec_trellis.specs.Trellis.{bit_n, out_bit, sign_by, soft, branch, end_of, start_score, score_of, Wins, Ends, Permits, Best, SamePath}
use Rattle.spec_trellis.proofs.Trellis.{sign_abs, branch_opposite, end_lt}
use Rattle.spec_trellis.proofs.TrellisOrder.{wins-total}

-- ---- one value

-- nothing was sent or received here, or the value agrees with the bit
abbrev pub Fair : ℤ → ℕ → Type 0
Fair v b = (v ≡ pos 0) ⊎ Agrees v b

-- signed by a bit that it agrees with, a value counts in full
fair_sign : (v : ℤ) (b : ℕ) → Fair v b → sign_by b v ≡ pos (nat_abs v)
unfolding sign_by Agrees
fair_sign v b (inl e) = subst (λ (z : ℤ). sign_by b z ≡ pos (nat_abs z)) (sym e) (go b)
  where
    go : (b : ℕ) → sign_by b (pos 0) ≡ pos 0
    go zero = refl
    go (suc b) = refl
fair_sign (pos n) zero (inr a) = absurd (omega (arith, lt_parts a))
fair_sign (negsuc n) zero (inr a) = refl
fair_sign (pos n) (suc b) (inr a) = refl
fair_sign (negsuc n) (suc b) (inr a) = absurd (omega (arith, lt_parts a))

-- and it is not 0
agrees_some : (v : ℤ) (b : ℕ) → Agrees v b → 0 < nat_abs v
unfolding Agrees
agrees_some v zero a = omega (arith, lt_parts a, abs_parts v)
agrees_some v (suc b) a = omega (arith, lt_parts a, abs_parts v)

pub agrees_not_zero : (b : ℕ) → Agrees (pos 0) b → ⊥
agrees_not_zero b a = omega (arith, agrees_some (pos 0) b a)

-- ---- one step

-- the sizes of step k's four values
abbrev pub weight : List ℤ → ℕ → ℕ
weight xs k = nat_abs (soft xs k 0) + nat_abs (soft xs k 1) + nat_abs (soft xs k 2) + nat_abs (soft xs k 3)

-- no branch adds more
branch-most : (xs : List ℤ) (k s b : ℕ) → nat_abs (branch xs k s b) ≤ weight xs k
unfolding branch
branch-most xs k s b =
    let a0 = sign_by (out_bit s b 0) (soft xs k 0) in
    let a1 = sign_by (out_bit s b 1) (soft xs k 1) in
    let a2 = sign_by (out_bit s b 2) (soft xs k 2) in
    let a3 = sign_by (out_bit s b 3) (soft xs k 3) in
    omega (arith, abs_sum (a0 +ℤ a1 +ℤ a2) a3, abs_sum (a0 +ℤ a1) a2, abs_sum a0 a1, sign_abs (out_bit s b 0) (soft xs k 0), sign_abs (out_bit s b 1) (soft xs k 1), sign_abs (out_bit s b 2) (soft xs k 2), sign_abs (out_bit s b 3) (soft xs k 3))

-- step k's values speak for the branch from s with input b: none against it, and one at least for it
pub record Speaks (xs : List ℤ) (k s b : ℕ) : Type 0 where
  pub each : (g : ℕ) → g < 4 → Fair (soft xs k g) (out_bit s b g)
  pub place : ℕ
  pub place_lt : place < 4
  pub heard : Agrees (soft xs k place) (out_bit s b place)

module _ {xs : List ℤ} {k s b : ℕ} (h : Speaks xs k s b) where
  -- that branch adds all there is
  branch_full : branch xs k s b ≡ pos (weight xs k)
  unfolding branch
  branch_full =
      λ i. fair_sign (soft xs k 0) (out_bit s b 0) (h.each 0 (omega arith)) i
      +ℤ fair_sign (soft xs k 1) (out_bit s b 1) (h.each 1 (omega arith)) i
      +ℤ fair_sign (soft xs k 2) (out_bit s b 2) (h.each 2 (omega arith)) i
      +ℤ fair_sign (soft xs k 3) (out_bit s b 3) (h.each 3 (omega arith)) i

  -- and that is something
  weight_some : 0 < weight xs k
  weight_some = go h.place h.place_lt (agrees_some (soft xs k h.place) (out_bit s b h.place) h.heard)
    where
      go : (g : ℕ) → g < 4 → 0 < nat_abs (soft xs k g) → 0 < weight xs k
      go zero l a = omega arith
      go (suc zero) l a = omega arith
      go (suc (suc zero)) l a = omega arith
      go (suc (suc (suc zero))) l a = omega arith
      go (suc (suc (suc (suc g)))) l a = absurd (omega arith)

-- the other branch out of the same state takes it all away
branch_other : {xs : List ℤ} {k s : ℕ} {b b' : Bool} → s < 64 → Speaks xs k s (bit_n b) → (b ≡ b' → ⊥) → branch xs k s (bit_n b') ≡ neg_ℤ (pos (weight xs k))
branch_other {xs} {k} {s} {b = true} {b' = true} l h d = absurd (d refl)
branch_other {xs} {k} {s} {b = true} {b' = false} l h d = branch_opposite xs k s l ∙ ap neg_ℤ (branch_full h)
branch_other {xs} {k} {s} {b = false} {b' = true} l h d = negate (branch_opposite xs k s l ∙ refl) (branch_full h)
  where
    negate : {v w z : ℤ} → v ≡ neg_ℤ w → v ≡ z → w ≡ neg_ℤ z
    negate {v} {w} {z} e f = sym (lib.IntN.neg_ℤ-neg_ℤ w) ∙ ap neg_ℤ (sym e ∙ f)
branch_other {xs} {k} {s} {b = false} {b' = false} l h d = absurd (d refl)

-- ---- a whole path

-- the sizes of the first n steps' values
unfoldable pub weights : List ℤ → ℕ → ℕ
weights xs zero = 0
weights xs (suc n) = weights xs n + weight xs n

-- no path scores more; one from another start than 0 scores 63 less at least
pub score_most : (xs : List ℤ) (s : ℕ) (bs : List Bool) → up (score_of xs s bs) + dn (start_score s) ≤ weights xs (length bs) + dn (score_of xs s bs)
unfolding score_of weights start_score
score_most xs zero [] = omega arith
score_most xs (suc s) [] = omega arith
score_most xs s (b ∷ bs) =
    let B : ℤ = branch xs (length bs) (end_of s bs) (bit_n b) in
    omega (arith, score_most xs s bs, sum (score_of xs s bs) B, abs_parts B, branch-most xs (length bs) (end_of s bs) (bit_n b))

-- every step's values speak for this path from state 0
pub data Clean (xs : List ℤ) : List Bool → Type 0 where
  none : Clean xs []
  step : {b : Bool} {bs : List Bool} → Speaks xs (length bs) (end_of 0 bs) (bit_n b) → Clean xs bs → Clean xs (b ∷ bs)

-- its score is the sum of all sizes
pub clean_score : {xs : List ℤ} {bs : List Bool} → Clean xs bs → score_of xs 0 bs ≡ pos (weights xs (length bs))
unfolding score_of weights start_score
clean_score none = refl
clean_score (step h c) = ap₂ ◌+ℤ◌ (clean_score c) (branch_full h)

-- a step that adds all there is keeps a lead, and makes one over a step that takes it away
module _ {x y B : ℤ} (B' : ℤ) (w : ℕ) (full : B ≡ pos w) where
  keep_lead : y <ℤ x → nat_abs B' ≤ w → (y +ℤ B') <ℤ (x +ℤ B)
  keep_lead r m = parts_lt (y +ℤ B') (x +ℤ B) (omega (arith, lt_parts r, sum x B, sum y B', abs_parts B', ap up full, ap dn full))

  make_lead : x ≡ y → 0 < w → B' ≡ neg_ℤ (pos w) → (y +ℤ B') <ℤ (x +ℤ B)
  make_lead e m f = parts_lt (y +ℤ B') (x +ℤ B) (omega (arith, ap up e, ap dn e, sum x B, sum y B', ap up full, ap dn full, ap up f, ap dn f, neg_up (pos w), neg_dn (pos w)))

-- any path of its length is the same one or scores less
pub same_or_less : {xs : List ℤ} {bs : List Bool} → Clean xs bs → (s : ℕ) (bs' : List Bool) → length bs' ≡ length bs → SamePath 0 bs s bs' ⊎ (score_of xs s bs' <ℤ score_of xs 0 bs)
unfolding score_of start_score
same_or_less none zero [] l = inl (record { start_is = refl; bits_are = refl })
same_or_less none (suc s) [] l = inr (parts_lt (negsuc 62) (pos 0) (omega arith))
same_or_less none s (b' ∷ bs') l = absurd (omega arith)
same_or_less (step h c) s [] l = absurd (omega arith)
same_or_less {xs} (step {b} {bs} h c) s (b' ∷ bs') l = go (same_or_less c s bs' (omega arith)) (Bool-discrete b b')
  where
    long : length bs' ≡ length bs
    long = omega arith

    go : SamePath 0 bs s bs' ⊎ (score_of xs s bs' <ℤ score_of xs 0 bs) → Dec (b ≡ b') → SamePath 0 (b ∷ bs) s (b' ∷ bs') ⊎ (score_of xs s (b' ∷ bs') <ℤ score_of xs 0 (b ∷ bs))
    go (inl e) (yes f) = inl (record { start_is = e.start_is; bits_are = ap₂ (λ (x : Bool) (l : List Bool). x ∷ l) f e.bits_are })
    go (inl e) (no d) =
        inr (make_lead (branch xs (length bs') (end_of s bs') (bit_n b')) (weight xs (length bs)) (branch_full h) (ap₂ (score_of xs) e.start_is e.bits_are) (weight_some h)
        (ap₂ (λ (k t : ℕ). branch xs k t (bit_n b')) long (sym (ap₂ end_of e.start_is e.bits_are)) ∙ branch_other (end_lt 0 (omega arith) bs) h d))
    go (inr r) f = inr (keep_lead (branch xs (length bs') (end_of s bs') (bit_n b')) (weight xs (length bs)) (branch_full h) r (subst (λ (k : ℕ). nat_abs (branch xs (length bs') (end_of s bs') (bit_n b')) ≤ weight xs k) long (branch-most xs (length bs') (end_of s bs') (bit_n b'))))

module _ {xs : List ℤ} {bs : List Bool} (c : Clean xs bs) (s : ℕ) (bs' : List Bool) (long : length bs' ≡ length bs) where
  -- no path of its length scores more
  pub clean_most : score_of xs s bs' ≤ℤ score_of xs 0 bs
  clean_most =
      parts_le (score_of xs s bs') (score_of xs 0 bs)
      (omega (arith, score_most xs s bs', ap (weights xs) long, ap up (clean_score c), ap dn (clean_score c)))

  -- and each other path less
  pub clean_strict : (SamePath 0 bs s bs' → ⊥) → score_of xs s bs' <ℤ score_of xs 0 bs
  clean_strict d = go (same_or_less c s bs' long)
    where
      go : SamePath 0 bs s bs' ⊎ (score_of xs s bs' <ℤ score_of xs 0 bs) → score_of xs s bs' <ℤ score_of xs 0 bs
      go (inl e) = absurd (d e)
      go (inr r) = r

  clean_wins : Wins xs 0 bs s bs'
  unfolding Wins
  clean_wins = go (same_or_less c s bs' long)
    where
      either : {A : Type 0} → A ⊎ A → A
      either (inl a) = a
      either (inr a) = a

      go : SamePath 0 bs s bs' ⊎ (score_of xs s bs' <ℤ score_of xs 0 bs) → Wins xs 0 bs s bs'
      go (inl e) = subst (λ (p : List Bool). Wins xs 0 bs s p) e.bits_are (subst (λ (t : ℕ). Wins xs 0 bs t bs) e.start_is (either (wins-total xs 0 bs 0 bs refl)))
      go (inr r) = inl r

-- so it is the best path, at either end
pub clean_best : {xs : List ℤ} {n : ℕ} {bs : List Bool} → Clean xs bs → length bs ≡ n → (ends : Ends) → Permits ends (end_of 0 bs) → Best xs n ends 0 bs
clean_best {xs} {n} {bs} c l ends p =
    record { start_lt = omega arith; long = l; permitted = p; wins = λ s h bs' l' q. clean_wins c s bs' (l' ∙ sym l) }

-- ---- the sum of all sizes, over the list

-- four values in front are one step more
weights_front : (v0 v1 v2 v3 : ℤ) (xs : List ℤ) (n : ℕ) → weights (v0 ∷ v1 ∷ v2 ∷ v3 ∷ xs) (suc n) ≡ nat_abs v0 + nat_abs v1 + nat_abs v2 + nat_abs v3 + weights xs n
unfolding weights
weights_front v0 v1 v2 v3 xs zero = omega arith
weights_front v0 v1 v2 v3 xs (suc n) = omega (arith, weights_front v0 v1 v2 v3 xs n, back 0, back 1, back 2, back 3)
  where
    back : (g : ℕ) → nat_abs (soft (v0 ∷ v1 ∷ v2 ∷ v3 ∷ xs) (suc n) g) ≡ nat_abs (soft xs n g)
    back g =
        let e : 4 * suc n + g ≡ suc (suc (suc (suc (4 * n + g)))) = omega arith in
        ap (λ (i : ℕ). nat_abs (at (v0 ∷ v1 ∷ v2 ∷ v3 ∷ xs) i)) e

-- of whole steps: the sum over the list, whatever its name
pub weights_are : (sizes : List ℤ → ℕ) → sizes [] ≡ 0 → ((v : ℤ) (vs : List ℤ) → sizes (v ∷ vs) ≡ nat_abs v + sizes vs) → (xs : List ℤ) (n : ℕ) → length xs ≡ 4 * n → weights xs n ≡ sizes xs
unfolding weights
weights_are sizes z c [] zero l = sym z
weights_are sizes z c [] (suc n) l = absurd (omega arith)
weights_are sizes z c (v0 ∷ xs) zero l = absurd (omega arith)
weights_are sizes z c (v0 ∷ []) (suc n) l = absurd (omega arith)
weights_are sizes z c (v0 ∷ v1 ∷ []) (suc n) l = absurd (omega arith)
weights_are sizes z c (v0 ∷ v1 ∷ v2 ∷ []) (suc n) l = absurd (omega arith)
weights_are sizes z c (v0 ∷ v1 ∷ v2 ∷ v3 ∷ xs) (suc n) l =
    omega (arith, weights_front v0 v1 v2 v3 xs n, c v0 (v1 ∷ v2 ∷ v3 ∷ xs), c v1 (v2 ∷ v3 ∷ xs), c v2 (v3 ∷ xs), c v3 xs, weights_are sizes z c xs n (omega arith))
