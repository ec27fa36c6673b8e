-- The forward pass: the scores before each step are the survivors' less the total subtracted, and a step with its renormalising keeps that.
-- Assumes nothing.
use mathlib.Core.Path.{◌≡◌, sym, ap, ◌∙◌, subst}
use mathlib.Core.List.{List}
use Prim.Native.Nat.{ℕ, suc, ◌+◌, ◌/◌, ◌%◌, ◌<◌, ◌≤◌}
use native.Mathlib.Omega.{arith}
use native.Mathlib.Numerals.{add-one}
use lib.IntN.{ℤ, pos, nat_abs, ◌-ℤ◌, +ℤ_idr}
use lib.Signed.{◌≤ℤ◌, ◌<ℤ◌}
use Rattle.laws.specs.Integers.{up, dn}
use Rattle.laws.specs.Words.{pick_n, word_of}
use Rattle.laws.proofs.Integers.{diff, abs_sum, parts_le, le_parts, parts_eq}
use Rattle.laws.proofs.Words.{word_ext}
use Rattle.spec_trellis.specs.Trellis.{branch, start_score, Top, none, kept, renewed, Softs}
use Rattle.spec_trellis.specs.Program.{takes, acs, survivor, takes_at, Greatest, Renormalised, stays, falls, Running}
use Rattle.spec_trellis.proofs.Trellis.{branch-le}
use Rattle.spec_trellis.proofs.TrellisProgram.{way_is, pick_lt, takes_shift, acs_shift, survivor_top}
use Rattle.spec_trellis.proofs.TrellisSubtracted.{running-within}

-- ---- the scores before step k

pub running-zero : (xs : List ℤ) (σ : ℕ → ℤ) → ((t : ℕ) → t < 64 → σ t ≡ start_score t) → Running xs 0 σ
unfolding survivor
running-zero xs σ e = record { total = pos 0; subtracted = none; each = λ s h. e s h ∙ sym (+ℤ_idr (start_score s)) }

module _ (xs : List ℤ) (k : ℕ) (σ : ℕ → ℤ) (r : Running xs k σ) where
  pub scores-within : Softs xs k → (s : ℕ) → s < 64 → nat_abs (σ s) ≤ 100000
  scores-within q s h = subst (λ (z : ℤ). nat_abs z ≤ 100000) (sym (r.each s h)) (running-within q r.subtracted s h)

  -- the choices are those of the survivors
  pub choices-are : word_of (takes σ (branch xs k)) 64 ≡ word_of (takes_at xs k) 64
  unfolding takes_at
  choices-are = word_ext (takes σ (branch xs k)) (takes_at xs k) 64 (λ t h. takes_shift (survivor xs k) σ r.total r.each (branch xs k) t h)

  module _ (τ : ℕ → ℤ) (new : (t : ℕ) → t < 64 → τ t ≡ acs σ (branch xs k) t) where
    pub new_within : Softs xs k → Softs xs (k + 1) → (t : ℕ) → t < 64 → nat_abs (τ t) ≤ 1000000
    new_within q q' t h =
        let p : ℕ = pick_n (takes σ (branch xs k) t) (t / 2 + 32) (t / 2) in
        omega (arith, ap nat_abs (new t h ∙ way_is σ (branch xs k) t), abs_sum (σ p) (branch xs k p (t % 2)), branch-le xs (k + 1) q' k p (t % 2) (omega arith), scores-within q p (pick_lt (takes σ (branch xs k) t) t h))

    -- the new scores are the new survivors' less the old total
    new_each : (s : ℕ) → s < 64 → τ s ≡ survivor xs (suc k) s -ℤ r.total
    unfolding survivor
    new_each s h = new s h ∙ acs_shift (survivor xs k) σ r.total r.each (branch xs k) s h

    -- and so the best of them is the best score of any path less the old total
    best-is : (m : ℤ) (g : Greatest τ 64 m) → Top xs (suc k) (survivor xs (suc k) g.place)
    best-is m g =
        let p : ℕ = g.place in
        let v : ℤ = survivor xs (suc k) p in
        let d : ℤ = r.total in
        let ep = g.is ∙ new_each p g.place_lt in
        survivor_top xs (suc k) p g.place_lt
        (λ u h.
        let w : ℤ = survivor xs (suc k) u in
        let eu = new_each u h in
        parts_le w v (omega (arith, le_parts (g.above u h), ap up eu, ap dn eu, ap up ep, ap dn ep, diff w d, diff v d)))

    pub running_next : (ρ : ℕ → ℤ) → Renormalised τ ρ → Running xs (k + 1) ρ
    running_next ρ (stays m g l e) =
        let v : ℤ = survivor xs (suc k) g.place in
        let d : ℤ = r.total in
        let ep : m ≡ v -ℤ d = g.is ∙ new_each g.place g.place_lt in
        rw add-one
        (record {
          total = d;
          subtracted = kept v r.subtracted (best-is m g) (subst (λ (z : ℤ). z ≤ℤ pos 100000) ep l);
          each = λ s h. e s h ∙ new_each s h;
        })
    running_next ρ (falls m g l e) =
        let v : ℤ = survivor xs (suc k) g.place in
        let d : ℤ = r.total in
        let ep : m ≡ v -ℤ d = g.is ∙ new_each g.place g.place_lt in
        rw add-one
        (record {
          total = v;
          subtracted = renewed v r.subtracted (best-is m g) (subst (λ (z : ℤ). pos 100000 <ℤ z) ep l);
          each = λ s h.
              let w : ℤ = survivor xs (suc k) s in
              let es = e s h ∙ ap (λ (z : ℤ). z -ℤ m) (new_each s h) in
              es ∙ parts_eq ((w -ℤ d) -ℤ m) (w -ℤ v) (omega (arith, diff (w -ℤ d) m, diff w d, diff w v, diff v d, ap up ep, ap dn ep));
        })
