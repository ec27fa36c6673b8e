-- The dynamic program over the trellis: into each state the better of two ways, the lower predecessor where they are equal.
-- No path beats it, the survivor attains it, and of the paths that attain it the survivor is first: so the survivor is the best path into its state.
-- Assumes nothing.
use mathlib.Core.Path.{◌≡◌, refl, sym, ap, ap₂, ◌∙◌, subst}
use mathlib.Core.Bool.{Bool, true, false}
use mathlib.Core.List.{List, [], ◌∷◌}
use mathlib.Core.Logic.{◌⊎◌, inl, inr}
use Prim.Native.Nat.{ℕ, zero, suc, ◌+◌, ◌*◌, ◌/◌, ◌%◌, ◌<◌, ◌≤◌}
use native.Mathlib.Omega.{arith}
use native.Mathlib.Decide.{ℕ_discrete, dec_lt}
use lib.ListN.{length}
use lib.IntN.{ℤ, neg_ℤ, ◌+ℤ◌, ◌-ℤ◌}
use lib.Signed.{lt_z, ◌≤ℤ◌, ◌<ℤ◌, ≤ℤ_refl}
use Rattle.laws.specs.Integers.{up, dn, pick_z}
use Rattle.laws.specs.Words.{pick_n}
use Rattle.laws.proofs.Integers.{sum, diff, parts_le, le_parts, parts_lt, lt_parts, parts_eq, lt_z_true, lt_z_false, lt_z_shift, ≤ℤ-trans, ≤ℤ-antisym, +ℤ-mono}
use Rattle.spec_trellis.specs.Trellis.{bit_n, branch, next_state, end_of, start_score, score_of, FirstLower, Wins, zero_end, free_end, Permits, Best, BestInto, Top, is_odd}
use Rattle.spec_trellis.specs.Program.{low_way, high_way, takes, acs, survivor, takes_at, pred_of, bits_into, start_into}
use Rattle.spec_trellis.proofs.Trellis.{next_bit, next_low, next_high, end_lt, before_cases, bit_is, odd_is}

-- ---- the new score is at least each way's, and is one of them
module _ (σ : ℕ → ℤ) (β : ℕ → ℕ → ℤ) (t : ℕ) where
  pub acs_low : low_way σ β t ≤ℤ acs σ β t
  unfolding acs takes
  acs_low = go (takes σ β t) refl
    where
      go : (b : Bool) → takes σ β t ≡ b → low_way σ β t ≤ℤ pick_z b (high_way σ β t) (low_way σ β t)
      go true e = parts_le _ _ (omega (arith, lt_z_true (low_way σ β t) (high_way σ β t) e))
      go false e = ≤ℤ_refl _

  pub acs_high : high_way σ β t ≤ℤ acs σ β t
  unfolding acs takes
  acs_high = go (takes σ β t) refl
    where
      go : (b : Bool) → takes σ β t ≡ b → high_way σ β t ≤ℤ pick_z b (high_way σ β t) (low_way σ β t)
      go true e = ≤ℤ_refl _
      go false e = parts_le _ _ (omega (arith, lt_z_false (low_way σ β t) (high_way σ β t) e))

  pub way_is : let p = pick_n (takes σ β t) (t / 2 + 32) (t / 2) in acs σ β t ≡ σ p +ℤ β p (t % 2)
  unfolding acs low_way high_way
  way_is = go (takes σ β t)
    where
      go : (b : Bool) → let p = pick_n b (t / 2 + 32) (t / 2) in pick_z b (high_way σ β t) (low_way σ β t) ≡ σ p +ℤ β p (t % 2)
      go true = refl
      go false = refl

pub pick_lt : (b : Bool) (t : ℕ) → t < 64 → pick_n b (t / 2 + 32) (t / 2) < 64
pick_lt true t h = omega arith
pick_lt false t h = omega arith

-- a step from e is at most the new score of the state it leads to
pub step_ge : (σ : ℕ → ℤ) (β : ℕ → ℕ → ℤ) (e : ℕ) (b : Bool) → e < 64 → (σ e +ℤ β e (bit_n b)) ≤ℤ acs σ β (next_state e (bit_n b))
unfolding low_way high_way
step_ge σ β e b h = go (dec_lt e 32)
  where
    t : ℕ
    t = next_state e (bit_n b)

    go : Dec (e < 32) → (σ e +ℤ β e (bit_n b)) ≤ℤ acs σ β t
    go (yes l) = subst (λ (z : ℤ). z ≤ℤ acs σ β t) (λ i. σ (next_low e b l i) +ℤ β (next_low e b l i) (next_bit e b i)) (acs_low σ β t)
    go (no n) =
        let l : 32 ≤ e = omega arith in
        subst (λ (z : ℤ). z ≤ℤ acs σ β t) (λ i. σ (next_high e b h l i) +ℤ β (next_high e b h l i) (next_bit e b i)) (acs_high σ β t)

-- ---- one number off all scores changes no choice
module _ (σ τ : ℕ → ℤ) (d : ℤ) (shifted : (s : ℕ) → s < 64 → τ s ≡ σ s -ℤ d) (β : ℕ → ℕ → ℤ) (t : ℕ) (h : t < 64) where
  way_shift : (p : ℕ) → p < 64 → τ p +ℤ β p (t % 2) ≡ (σ p +ℤ β p (t % 2)) -ℤ d
  way_shift p l =
      let B : ℤ = β p (t % 2) in
      let x : ℤ = σ p in
      ap (λ (z : ℤ). z +ℤ B) (shifted p l)
      ∙ parts_eq ((x -ℤ d) +ℤ B) ((x +ℤ B) -ℤ d) (omega (arith, sum (x -ℤ d) B, diff x d, diff (x +ℤ B) d, sum x B))

  low_shift : low_way τ β t ≡ low_way σ β t -ℤ d
  unfolding low_way
  low_shift = way_shift (t / 2) (omega arith)

  high_shift : high_way τ β t ≡ high_way σ β t -ℤ d
  unfolding high_way
  high_shift = way_shift (t / 2 + 32) (omega arith)

  pub takes_shift : takes τ β t ≡ takes σ β t
  unfolding takes
  takes_shift = ap₂ lt_z low_shift high_shift ∙ lt_z_shift (low_way σ β t) (high_way σ β t) (neg_ℤ d)

  pub acs_shift : acs τ β t ≡ acs σ β t -ℤ d
  unfolding acs
  acs_shift = (λ i. pick_z (takes_shift i) (high_shift i) (low_shift i)) ∙ go (takes σ β t)
    where
      go : (b : Bool) → pick_z b (high_way σ β t -ℤ d) (low_way σ β t -ℤ d) ≡ pick_z b (high_way σ β t) (low_way σ β t) -ℤ d
      go true = refl
      go false = refl

-- ---- no path has more
pub no_better : (xs : List ℤ) (s : ℕ) → s < 64 → (bs : List Bool) → score_of xs s bs ≤ℤ survivor xs (length bs) (end_of s bs)
unfolding score_of survivor end_of
no_better xs s h [] = ≤ℤ_refl (start_score s)
no_better xs s h (b ∷ bs) =
    ≤ℤ-trans (+ℤ-mono (branch xs (length bs) (end_of s bs) (bit_n b)) (no_better xs s h bs))
    (step_ge (survivor xs (length bs)) (branch xs (length bs)) (end_of s bs) b (end_lt s h bs))

pub at_most : (xs : List ℤ) (n s : ℕ) → s < 64 → (bs : List Bool) → length bs ≡ n → score_of xs s bs ≤ℤ survivor xs n (end_of s bs)
at_most xs n s hs bs l = subst (λ (m : ℕ). score_of xs s bs ≤ℤ survivor xs m (end_of s bs)) l (no_better xs s hs bs)

-- ---- the survivor
pub pred_lt : (xs : List ℤ) (k t : ℕ) → t < 64 → pred_of xs k t < 64
unfolding pred_of
pred_lt xs k t h = pick_lt (takes_at xs k t) t h

pred_next : (xs : List ℤ) (k t : ℕ) → t < 64 → next_state (pred_of xs k t) (bit_n (is_odd (t % 2))) ≡ t
unfolding pred_of next_state
pred_next xs k t h = rw (odd_is (t % 2) (omega arith)) (go (takes_at xs k t))
  where
    go : (b : Bool) → (2 * pick_n b (t / 2 + 32) (t / 2) + t % 2) % 64 ≡ t
    go true = omega arith
    go false = omega arith

pub into-start : (xs : List ℤ) (n t : ℕ) → t < 64 → start_into xs n t < 64
unfolding start_into
into-start xs zero t h = h
into-start xs (suc k) t h = into-start xs k (pred_of xs k t) (pred_lt xs k t h)

pub into-length : (xs : List ℤ) (n t : ℕ) → length (bits_into xs n t) ≡ n
unfolding bits_into
into-length xs zero t = refl
into-length xs (suc k) t = ap suc (into-length xs k (pred_of xs k t))

pub into_end : (xs : List ℤ) (n t : ℕ) → t < 64 → end_of (start_into xs n t) (bits_into xs n t) ≡ t
unfolding end_of bits_into start_into
into_end xs zero t h = refl
into_end xs (suc k) t h =
    ap (λ (e : ℕ). next_state e (bit_n (is_odd (t % 2)))) (into_end xs k (pred_of xs k t) (pred_lt xs k t h)) ∙ pred_next xs k t h

pub into_score : (xs : List ℤ) (n t : ℕ) → t < 64 → score_of xs (start_into xs n t) (bits_into xs n t) ≡ survivor xs n t
unfolding score_of bits_into start_into survivor pred_of takes_at
into_score xs zero t h = refl
into_score xs (suc k) t h =
    let p : ℕ = pred_of xs k t in
    (λ i. into_score xs k p (pred_lt xs k t h) i +ℤ branch xs (into-length xs k p i) (into_end xs k p (pred_lt xs k t h) i) (odd_is (t % 2) (omega arith) i))
    ∙ sym (way_is (survivor xs k) (branch xs k) t)

-- a path that has the best score does not come by the lower predecessor where the higher was taken
pred_first : (xs : List ℤ) (k t e : ℕ) (b : Bool) (q : ℤ) → e < 64 → next_state e (bit_n b) ≡ t → q ≤ℤ survivor xs k e → q +ℤ branch xs k e (bit_n b) ≡ acs (survivor xs k) (branch xs k) t → (pred_of xs k t < e) ⊎ (pred_of xs k t ≡ e)
unfolding pred_of takes_at acs takes low_way high_way
pred_first xs k t e b q h n le eq = go (takes_at xs k t) refl (before_cases e t b h n)
  where
    low : ℤ
    low = low_way (survivor xs k) (branch xs k) t

    high : ℤ
    high = high_way (survivor xs k) (branch xs k) t

    go : (c : Bool) → takes_at xs k t ≡ c → (e ≡ t / 2) ⊎ (e ≡ t / 2 + 32) → (pick_n c (t / 2 + 32) (t / 2) < e) ⊎ (pick_n c (t / 2 + 32) (t / 2) ≡ e)
    go true c (inr p) = inr (sym p)
    go true c (inl p) =
        let B : ℤ = branch xs k e (bit_n b) in
        let d : ℤ = survivor xs k e in
        let el : low ≡ d +ℤ B = (λ i. survivor xs k (sym p i) +ℤ branch xs k (sym p i) (sym (bit_is e t b n) i)) in
        let eh : q +ℤ B ≡ high = eq ∙ ap (λ (x : Bool). pick_z x high low) c in
        absurd (omega (arith, lt_z_true low high c, le_parts le, sum q B, sum d B, ap up el, ap dn el, ap up eh, ap dn eh))
    go false c (inl p) = inr (sym p)
    go false c (inr p) = inl (omega arith)

cancel : (a b c : ℤ) → a +ℤ c ≡ b +ℤ c → a ≡ b
cancel a b c e = parts_eq a b (omega (arith, sum a c, sum b c, ap up e, ap dn e))

-- of the paths that have the best score into t, the survivor is first
pub into-first : (xs : List ℤ) (n t : ℕ) → t < 64 → (s : ℕ) → s < 64 → (bs : List Bool) → length bs ≡ n → end_of s bs ≡ t → score_of xs s bs ≡ survivor xs n t → FirstLower (start_into xs n t) (bits_into xs n t) s bs
unfolding FirstLower start_into bits_into end_of score_of survivor pred_of takes_at
into-first xs zero t ht s hs [] l e q = sym e
into-first xs zero t ht s hs (b ∷ bs) l e q = absurd (omega arith)
into-first xs (suc k) t ht s hs [] l e q = absurd (omega arith)
into-first xs (suc k) t ht s hs (b ∷ bs) l e q =
    go (pred_first xs k t (end_of s bs) b (score_of xs s bs) (end_lt s hs bs) e (at_most xs k s hs bs lb) eq)
    (λ (r : pred_of xs k t ≡ end_of s bs). into-first xs k (pred_of xs k t) (pred_lt xs k t ht) s hs bs lb (sym r) (same r))
  where
    p : ℕ
    p = pred_of xs k t

    lb : length bs ≡ k
    lb = omega arith

    eq : score_of xs s bs +ℤ branch xs k (end_of s bs) (bit_n b) ≡ acs (survivor xs k) (branch xs k) t
    eq = subst (λ (m : ℕ). score_of xs s bs +ℤ branch xs m (end_of s bs) (bit_n b) ≡ acs (survivor xs k) (branch xs k) t) lb q

    same : p ≡ end_of s bs → score_of xs s bs ≡ survivor xs k p
    same r =
        cancel (score_of xs s bs) (survivor xs k p) (branch xs k p (t % 2))
        ((λ i. score_of xs s bs +ℤ branch xs k (r i) (sym (bit_is (end_of s bs) t b e) i))
        ∙ eq ∙ way_is (survivor xs k) (branch xs k) t)

    go : (p < end_of s bs) ⊎ (p ≡ end_of s bs) → (p ≡ end_of s bs → FirstLower (start_into xs k p) (bits_into xs k p) s bs)
        → (end_of (start_into xs k p) (bits_into xs k p) < end_of s bs) ⊎ ((end_of (start_into xs k p) (bits_into xs k p) ≡ end_of s bs) × FirstLower (start_into xs k p) (bits_into xs k p) s bs)
    go (inl r) f = inl (subst (λ (m : ℕ). m < end_of s bs) (sym (into_end xs k p (pred_lt xs k t ht))) r)
    go (inr r) f = inr (into_end xs k p (pred_lt xs k t ht) ∙ r, f r)

-- a path that ends no better than the survivor into e loses to it
module _ (xs : List ℤ) (n e : ℕ) (he : e < 64) where
  wins_over : (s : ℕ) → s < 64 → (bs : List Bool) → length bs ≡ n → (survivor xs n (end_of s bs) <ℤ survivor xs n e) ⊎ ((survivor xs n (end_of s bs) ≤ℤ survivor xs n e) × ((e < end_of s bs) ⊎ (e ≡ end_of s bs))) → Wins xs (start_into xs n e) (bits_into xs n e) s bs
  unfolding Wins
  wins_over s hs bs l f = go f (dec_lt (up q + dn v) (up v + dn q))
    where
      q : ℤ
      q = score_of xs s bs

      v : ℤ
      v = survivor xs n e

      p : ℕ
      p = start_into xs n e

      ps : List Bool
      ps = bits_into xs n e

      less : q <ℤ v → q <ℤ score_of xs p ps
      less h = subst (λ (z : ℤ). q <ℤ z) (sym (into_score xs n e he)) h

      tail : q ≡ v → (e < end_of s bs) ⊎ (e ≡ end_of s bs) → (end_of p ps < end_of s bs) ⊎ ((end_of p ps ≡ end_of s bs) × FirstLower p ps s bs)
      tail h (inl r) = inl (subst (λ (m : ℕ). m < end_of s bs) (sym (into_end xs n e he)) r)
      tail h (inr r) = inr (into_end xs n e he ∙ r, into-first xs n e he s hs bs l (sym r) h)

      most : q ≤ℤ survivor xs n (end_of s bs)
      most = at_most xs n s hs bs l

      go : (survivor xs n (end_of s bs) <ℤ v) ⊎ ((survivor xs n (end_of s bs) ≤ℤ v) × ((e < end_of s bs) ⊎ (e ≡ end_of s bs))) → Dec (up q + dn v < up v + dn q) → (q <ℤ score_of xs p ps) ⊎ ((q ≡ score_of xs p ps) × ((end_of p ps < end_of s bs) ⊎ ((end_of p ps ≡ end_of s bs) × FirstLower p ps s bs)))
      go (inl h) d = inl (less (parts_lt q v (omega (arith, le_parts most, lt_parts h))))
      go (inr h) (yes d) = inl (less (parts_lt q v d))
      go (inr h) (no d) =
          let eq : q ≡ v = ≤ℤ-antisym (≤ℤ-trans most h.0) (parts_le v q (omega arith)) in
          inr (eq ∙ sym (into_score xs n e he), tail eq h.1)

  -- the survivor is the best path into its state
  pub into-best : BestInto xs n e (start_into xs n e) (bits_into xs n e)
  into-best =
      record {
        start_lt = into-start xs n e he;
        long = into-length xs n e;
        into = into_end xs n e he;
        wins = λ s hs bs l r. wins_over s hs bs l (inr (subst (λ (m : ℕ). survivor xs n m ≤ℤ survivor xs n e) (sym r) (≤ℤ_refl (survivor xs n e)), inr (sym r)));
      }

  -- into state 0: the best of the paths that end there
  pub zero-best : e ≡ 0 → Best xs n zero_end (start_into xs n e) (bits_into xs n e)
  unfolding Permits
  zero-best z =
      record {
        start_lt = into-start xs n e he;
        long = into-length xs n e;
        permitted = into_end xs n e he ∙ z;
        wins = λ s hs bs l r. into-best.wins s hs bs l (r ∙ sym z);
      }

  -- into the lowest of the states whose survivors score most: the best of all paths
  pub free_best : ((u : ℕ) → u < 64 → survivor xs n u ≤ℤ survivor xs n e) → ((u : ℕ) → u < e → survivor xs n u <ℤ survivor xs n e) → Best xs n free_end (start_into xs n e) (bits_into xs n e)
  unfolding Permits
  free_best top first =
      record {
        start_lt = into-start xs n e he;
        long = into-length xs n e;
        permitted = tt;
        wins = λ s hs bs l r. wins_over s hs bs l (side (end_of s bs) (end_lt s hs bs) (dec_lt (end_of s bs) e) (ℕ_discrete e (end_of s bs)));
      }
    where
      side : (u : ℕ) → u < 64 → Dec (u < e) → Dec (e ≡ u) → (survivor xs n u <ℤ survivor xs n e) ⊎ ((survivor xs n u ≤ℤ survivor xs n e) × ((e < u) ⊎ (e ≡ u)))
      side u h (yes l) d = inl (first u l)
      side u h (no l) (yes r) = inr (top u h, inr r)
      side u h (no l) (no r) = inr (top u h, inl (omega arith))

  -- where no survivor scores more, its score is the best of any path
  pub survivor_top : ((u : ℕ) → u < 64 → survivor xs n u ≤ℤ survivor xs n e) → Top xs n (survivor xs n e)
  survivor_top top =
      record {
        start = start_into xs n e;
        path = bits_into xs n e;
        start_lt = into-start xs n e he;
        long = into-length xs n e;
        scores = into_score xs n e he;
        most = λ s hs bs l. ≤ℤ-trans (at_most xs n s hs bs l) (top (end_of s bs) (end_lt s hs bs));
      }

-- the best path into a state scores what its survivor does
pub best_score : {xs : List ℤ} {n e s : ℕ} {bs : List Bool} → e < 64 → BestInto xs n e s bs → score_of xs s bs ≡ survivor xs n e
unfolding Wins
best_score {xs} {n} {e} {s} {bs} h f =
    go (f.wins (start_into xs n e) (into-start xs n e h) (bits_into xs n e) (into-length xs n e) (into_end xs n e h))
  where
    v : ℤ
    v = survivor xs n e

    most : score_of xs s bs ≤ℤ v
    most = subst (λ (m : ℕ). score_of xs s bs ≤ℤ survivor xs n m) f.into (at_most xs n s f.start_lt bs f.long)

    go : {L : Type 0} → (score_of xs (start_into xs n e) (bits_into xs n e) <ℤ score_of xs s bs) ⊎ ((score_of xs (start_into xs n e) (bits_into xs n e) ≡ score_of xs s bs) × L) → score_of xs s bs ≡ v
    go (inl l) = ≤ℤ-antisym most (parts_le v (score_of xs s bs) (omega (arith, lt_parts l, ap up (into_score xs n e h), ap dn (into_score xs n e h))))
    go (inr r) = sym r.0 ∙ into_score xs n e h
