-- The order of paths: of two paths one does not lose to the other, and two that do not lose to each other are one. So the best permitted path is one, and the best score.
-- Assumes nothing.
use mathlib.Core.Path.{◌≡◌, refl, sym, ap, ap₂, ◌∙◌, subst}
use mathlib.Core.Bool.{Bool}
use mathlib.Core.List.{List, [], ◌∷◌}
use mathlib.Core.Logic.{◌⊎◌, inl, inr}
use Prim.Native.Nat.{ℕ, ◌+◌, ◌<◌}
use native.Mathlib.Omega.{arith}
use native.Mathlib.Decide.{ℕ_discrete, dec_lt}
use lib.ListN.{length}
use lib.IntN.{ℤ}
use lib.Signed.{◌≤ℤ◌, ◌<ℤ◌}
use Rattle.laws.specs.Integers.{up, dn}
use Rattle.laws.proofs.Integers.{lt_parts, parts_lt, parts_le, parts_eq, ≤ℤ-antisym}
use Rattle.spec_trellis.specs.Trellis.{bit_n, next_state, end_of, score_of, FirstLower, Wins, SamePath, Ends, Best, NoneAbove, BestInto, Top, is_odd}
use Rattle.spec_trellis.specs.Theorems.{OrderTotal, OrderStrict, BestUnique, BestIsMost}
use Rattle.spec_trellis.proofs.Trellis.{next_bit, bit_is, odd_bit}

-- equal ends have equal newest bits
pub bit_same : (e e' : ℕ) (b b' : Bool) → next_state e (bit_n b) ≡ next_state e' (bit_n b') → b ≡ b'
bit_same e e' b b' q =
    sym (odd_bit b) ∙ ap is_odd (bit_is e (next_state e' (bit_n b')) b q ∙ next_bit e' b') ∙ odd_bit b'

-- what two paths with one score, and two with one end, are told apart by
abbrev Lower : ℕ → List Bool → ℕ → List Bool → Type 0
Lower s bs s' bs' = (end_of s bs < end_of s' bs') ⊎ ((end_of s bs ≡ end_of s' bs') × FirstLower s bs s' bs')

abbrev Tied : List ℤ → ℕ → List Bool → ℕ → List Bool → Type 0
Tied xs s bs s' bs' = (score_of xs s' bs' <ℤ score_of xs s bs) ⊎ ((score_of xs s' bs' ≡ score_of xs s bs) × Lower s bs s' bs')

pub lower_antisym : (s : ℕ) (bs : List Bool) (s' : ℕ) (bs' : List Bool) → end_of s bs ≡ end_of s' bs' → FirstLower s bs s' bs' → FirstLower s' bs' s bs → SamePath s bs s' bs'
unfolding FirstLower end_of
lower_antisym s [] s' [] e f g = record { start_is = e; bits_are = refl }
lower_antisym s [] s' (b' ∷ bs') e f g = absurd f
lower_antisym s (b ∷ bs) s' [] e f g = absurd f
lower_antisym s (b ∷ bs) s' (b' ∷ bs') e f g = go (lower_antisym s bs s' bs') f g
  where
    go : (end_of s bs ≡ end_of s' bs' → FirstLower s bs s' bs' → FirstLower s' bs' s bs → SamePath s bs s' bs') → Lower s bs s' bs' → Lower s' bs' s bs → SamePath s (b ∷ bs) s' (b' ∷ bs')
    go again (inl l) (inl l') = absurd (omega arith)
    go again (inl l) (inr r') = absurd (omega (arith, r'.0))
    go again (inr r) (inl l') = absurd (omega (arith, r.0))
    go again (inr r) (inr r') =
        let same = again r.0 r.1 r'.1 in
        record { start_is = same.start_is; bits_are = ap₂ (λ (x : Bool) (l : List Bool). x ∷ l) (bit_same (end_of s bs) (end_of s' bs') b b' e) same.bits_are }

pub lower_total : (s : ℕ) (bs : List Bool) (s' : ℕ) (bs' : List Bool) → length bs ≡ length bs' → end_of s bs ≡ end_of s' bs' → FirstLower s bs s' bs' ⊎ FirstLower s' bs' s bs
unfolding FirstLower end_of
lower_total s [] s' [] l e = inl e
lower_total s [] s' (b' ∷ bs') l e = absurd (omega arith)
lower_total s (b ∷ bs) s' [] l e = absurd (omega arith)
lower_total s (b ∷ bs) s' (b' ∷ bs') l e = go (dec_lt (end_of s bs) (end_of s' bs')) (ℕ_discrete (end_of s bs) (end_of s' bs')) (λ (q : end_of s bs ≡ end_of s' bs'). lower_total s bs s' bs' (omega arith) q)
  where
    one : (q : end_of s bs ≡ end_of s' bs') → FirstLower s bs s' bs' ⊎ FirstLower s' bs' s bs → Lower s bs s' bs' ⊎ Lower s' bs' s bs
    one q (inl f) = inl (inr (q, f))
    one q (inr f) = inr (inr (sym q, f))

    go : Dec (end_of s bs < end_of s' bs') → Dec (end_of s bs ≡ end_of s' bs') → (end_of s bs ≡ end_of s' bs' → FirstLower s bs s' bs' ⊎ FirstLower s' bs' s bs) → Lower s bs s' bs' ⊎ Lower s' bs' s bs
    go (yes h) d r = inl (inl h)
    go (no h) (yes q) r = one q (r q)
    go (no h) (no q) r = inr (inl (omega arith))

-- two paths that do not lose to each other are one
pub wins_antisym : OrderStrict
unfolding Wins
wins_antisym xs s bs s' bs' f g = go f g
  where
    ends : Lower s bs s' bs' → Lower s' bs' s bs → SamePath s bs s' bs'
    ends (inl l) (inl l') = absurd (omega arith)
    ends (inl l) (inr r') = absurd (omega (arith, r'.0))
    ends (inr r) (inl l') = absurd (omega (arith, r.0))
    ends (inr r) (inr r') = lower_antisym s bs s' bs' r.0 r.1 r'.1

    go : Tied xs s bs s' bs' → Tied xs s' bs' s bs → SamePath s bs s' bs'
    go (inl l) (inl l') = absurd (omega (arith, lt_parts l, lt_parts l'))
    go (inl l) (inr r') = absurd (omega (arith, lt_parts l, ap up r'.0, ap dn r'.0))
    go (inr r) (inl l') = absurd (omega (arith, lt_parts l', ap up r.0, ap dn r.0))
    go (inr r) (inr r') = ends r.1 r'.1

-- of two paths of one length one does not lose to the other
pub wins-total : OrderTotal
unfolding Wins
wins-total xs s bs s' bs' l = scores (dec_lt (up a + dn a') (up a' + dn a)) (dec_lt (up a' + dn a) (up a + dn a'))
  where
    a : ℤ
    a = score_of xs s bs

    a' : ℤ
    a' = score_of xs s' bs'

    tail : end_of s bs ≡ end_of s' bs' → FirstLower s bs s' bs' ⊎ FirstLower s' bs' s bs → Lower s bs s' bs' ⊎ Lower s' bs' s bs
    tail q (inl f) = inl (inr (q, f))
    tail q (inr f) = inr (inr (sym q, f))

    ends : Dec (end_of s bs < end_of s' bs') → Dec (end_of s bs ≡ end_of s' bs') → Lower s bs s' bs' ⊎ Lower s' bs' s bs
    ends (yes h) d = inl (inl h)
    ends (no h) (yes q) = tail q (lower_total s bs s' bs' l q)
    ends (no h) (no q) = inr (inl (omega arith))

    tie : a ≡ a' → Lower s bs s' bs' ⊎ Lower s' bs' s bs → Tied xs s bs s' bs' ⊎ Tied xs s' bs' s bs
    tie e (inl f) = inl (inr (sym e, f))
    tie e (inr f) = inr (inr (e, f))

    scores : Dec (up a + dn a' < up a' + dn a) → Dec (up a' + dn a < up a + dn a') → Tied xs s bs s' bs' ⊎ Tied xs s' bs' s bs
    scores (yes h) d = inr (inl (parts_lt a a' h))
    scores (no h) (yes h') = inl (inl (parts_lt a' a h'))
    scores (no h) (no h') = tie (parts_eq a a' (omega arith)) (ends (dec_lt (end_of s bs) (end_of s' bs')) (ℕ_discrete (end_of s bs) (end_of s' bs')))

-- the best permitted path is one
pub best_unique : {xs : List ℤ} {n : ℕ} {ends : Ends} {s : ℕ} {bs : List Bool} {s' : ℕ} {bs' : List Bool} → Best xs n ends s bs → Best xs n ends s' bs' → SamePath s bs s' bs'
best_unique {xs} {n} {ends} {s} {bs} {s'} {bs'} f g =
    wins_antisym xs s bs s' bs' (f.wins s' g.start_lt bs' g.long g.permitted) (g.wins s f.start_lt bs f.long f.permitted)

pub path_unique : BestUnique
path_unique xs n ends s bs s' bs' = best_unique

pub into_unique : {xs : List ℤ} {n e : ℕ} {s : ℕ} {bs : List Bool} {s' : ℕ} {bs' : List Bool} → BestInto xs n e s bs → BestInto xs n e s' bs' → SamePath s bs s' bs'
into_unique {xs} {n} {e} {s} {bs} {s'} {bs'} f g =
    wins_antisym xs s bs s' bs' (f.wins s' g.start_lt bs' g.long g.into) (g.wins s f.start_lt bs f.long f.into)

-- and the best score
pub top_unique : {xs : List ℤ} {n : ℕ} {b c : ℤ} → Top xs n b → Top xs n c → b ≡ c
top_unique {xs} {n} {b} {c} f g =
    ≤ℤ-antisym
    (subst (λ (z : ℤ). z ≤ℤ c) f.scores (g.most f.start f.start_lt f.path f.long))
    (subst (λ (z : ℤ). z ≤ℤ b) g.scores (f.most g.start g.start_lt g.path g.long))

-- a path that does not lose scores at least as much
pub wins-most : (xs : List ℤ) (s : ℕ) (bs : List Bool) (s' : ℕ) (bs' : List Bool) → Wins xs s bs s' bs' → score_of xs s' bs' ≤ℤ score_of xs s bs
unfolding Wins
wins-most xs s bs s' bs' w = go w
  where
    go : Tied xs s bs s' bs' → score_of xs s' bs' ≤ℤ score_of xs s bs
    go (inl l) = parts_le (score_of xs s' bs') (score_of xs s bs) (omega (arith, lt_parts l))
    go (inr r) = parts_le (score_of xs s' bs') (score_of xs s bs) (omega (arith, ap up r.0, ap dn r.0))

-- so no permitted path scores above the best one
pub best-most : BestIsMost
unfolding NoneAbove
best-most xs n ends s bs f s' h bs' l p = wins-most xs s bs s' bs' (f.wins s' h bs' l p)
