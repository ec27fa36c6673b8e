-- The total subtracted is one. Less it, every survivor's score stays within 100,000 of 0, so that no metric overflows and no state looks unreachable.
-- Assumes nothing.
use mathlib.Core.Path.{◌≡◌, refl, sym, ap, subst}
use mathlib.Core.List.{List}
use Prim.Native.Nat.{ℕ, zero, suc, ◌+◌, ◌<◌, ◌≤◌}
use native.Mathlib.Omega.{arith}
use lib.IntN.{ℤ, pos, negsuc, nat_abs, ◌-ℤ◌}
use lib.Signed.{◌≤ℤ◌}
use mir.Syntax.{w32}
use Rattle.laws.specs.Integers.{up, dn}
use Rattle.laws.proofs.Integers.{diff, abs_parts, abs_sum, abs_fits, parts_le, le_parts, parts_lt, lt_parts}
use Rattle.spec_trellis.specs.Trellis.{bit_n, branch, start_score, end_of, score_of, Top, Subtracted, none, kept, renewed, Softs}
use Rattle.spec_trellis.specs.Program.{survivor, start_into, bits_into}
use Rattle.spec_trellis.specs.Theorems.{NoOverflow, NoCandidateOverflow, unreachable, AllReachable}
use Rattle.spec_trellis.proofs.Trellis.{branch-le, end_lt}
use Rattle.spec_trellis.proofs.TrellisOrder.{top_unique}
use Rattle.spec_trellis.proofs.TrellisProgram.{into-start, into-length, into_score, into-best, at_most, best_score}
use Rattle.spec_trellis.proofs.TrellisSpread.{spread, no_fall}

pub subtracted_unique : {xs : List ℤ} {n : ℕ} {d e : ℤ} → Subtracted xs n d → Subtracted xs n e → d ≡ e
subtracted_unique none none = refl
subtracted_unique (kept {d = d} b f t l) (kept {d = e} c g u m) = subtracted_unique f g
subtracted_unique (kept {d = d} b f t l) (renewed {d = e} c g u m) =
    let p = subtracted_unique f g in
    let q = top_unique t u in
    absurd (omega (arith, le_parts l, lt_parts m, diff b d, diff c e, ap up p, ap dn p, ap up q, ap dn q))
subtracted_unique (renewed {d = d} b f t l) (kept {d = e} c g u m) =
    let p = subtracted_unique f g in
    let q = top_unique t u in
    absurd (omega (arith, lt_parts l, le_parts m, diff b d, diff c e, ap up p, ap dn p, ap up q, ap dn q))
subtracted_unique (renewed b f t l) (renewed c g u m) = top_unique t u

-- no survivor scores more than the best of any path
pub survivor-le : {xs : List ℤ} {n : ℕ} {b : ℤ} → Top xs n b → (s : ℕ) → s < 64 → survivor xs n s ≤ℤ b
survivor-le {xs} {n} {b} t s h =
    subst (λ (z : ℤ). z ≤ℤ b) (into_score xs n s h) (t.most (start_into xs n s) (into-start xs n s h) (bits_into xs n s) (into-length xs n s))

-- and one scores as much
pub survivor_ge : {xs : List ℤ} {n : ℕ} {b : ℤ} → Top xs n b → (u : ℕ) × (u < 64) × (b ≤ℤ survivor xs n u)
survivor_ge {xs} {n} {b} t = (
  end_of t.start t.path,
  end_lt t.start t.start_lt t.path,
  subst (λ (z : ℤ). z ≤ℤ survivor xs n (end_of t.start t.path)) t.scores (at_most xs n t.start t.start_lt t.path t.long),
)

-- less the total subtracted, no survivor scores more than 100,000
pub running_low : {xs : List ℤ} {n : ℕ} {d : ℤ} → Subtracted xs n d → (s : ℕ) → s < 64 → (survivor xs n s -ℤ d) ≤ℤ pos 100000
unfolding survivor start_score
running_low none zero h = record { le = tt }
running_low none (suc s) h = record { le = tt }
running_low {xs = xs} {n = suc n} (kept {d = d} b f t l) s h =
    let v : ℤ = survivor xs (suc n) s in
    parts_le (v -ℤ d) (pos 100000) (omega (arith, le_parts (survivor-le t s h), le_parts l, diff v d, diff b d))
running_low {xs = xs} {n = suc n} (renewed b f t l) s h =
    let v : ℤ = survivor xs (suc n) s in
    parts_le (v -ℤ b) (pos 100000) (omega (arith, le_parts (survivor-le t s h), diff v b))

-- and one scores no less than 0
pub running_high : {xs : List ℤ} {n : ℕ} {d : ℤ} → Subtracted xs n d → (u : ℕ) × (u < 64) × (pos 0 ≤ℤ (survivor xs n u -ℤ d))
unfolding survivor start_score
running_high none = (0, omega arith, record { le = tt })
running_high {xs = xs} {n = suc n} (kept {d = d} b f t l) =
    let r = running_high f in
    let w = no_fall xs n r.0 r.1 in
    let v : ℤ = survivor xs n r.0 in
    let z : ℤ = survivor xs (suc n) w.0 in
    (w.0, w.1, parts_le (pos 0) (z -ℤ d) (omega (arith, le_parts r.2, le_parts w.2, diff v d, diff z d)))
running_high {xs = xs} {n = suc n} (renewed b f t l) =
    let w = survivor_ge t in
    let z : ℤ = survivor xs (suc n) w.0 in
    (w.0, w.1, parts_le (pos 0) (z -ℤ b) (omega (arith, le_parts w.2, diff z b)))

abs_or : (z : ℤ) → up z ≤ dn z + 100000 → dn z ≤ up z + 6144 → nat_abs z ≤ 100000
abs_or (pos n) a b = omega arith
abs_or (negsuc n) a b = omega arith

abs_low : (z : ℤ) → dn z ≤ up z + 6144 → dn z ≤ 6144
abs_low (pos n) a = omega arith
abs_low (negsuc n) a = omega arith

module _ {xs : List ℤ} {n : ℕ} {d : ℤ} (q : Softs xs n) (f : Subtracted xs n d) (s : ℕ) (h : s < 64) where
  falls : let z = survivor xs n s -ℤ d in dn z ≤ up z + 6144
  falls =
      let r = running_high f in
      let u : ℕ = r.0 in
      omega (arith, le_parts r.2, (spread xs n q n s u (omega arith) h r.1).near, diff (survivor xs n s) d, diff (survivor xs n u) d)

  pub running-within : nat_abs (survivor xs n s -ℤ d) ≤ 100000
  running-within = abs_or (survivor xs n s -ℤ d) (omega (arith, le_parts (running_low f s h))) falls

-- ---- over paths

-- no metric overflows: whatever path is the best into a state, its score less the total subtracted is within 100,000
pub metric-within : NoOverflow
metric-within xs n d e s bs q f h b =
    subst (λ (z : ℤ). nat_abs (z -ℤ d) ≤ 100000) (sym (best_score h b)) (running-within q f e h)

-- nor does a candidate, the metric of a best path with one step more
pub candidate_within : NoCandidateOverflow
candidate_within xs n d e s bs b q f h g =
    omega (
      arith,
      abs_sum (score_of xs s bs -ℤ d) (branch xs n e (bit_n b)),
      metric-within xs n d e s bs (λ i l. q i (omega arith)) f h g,
      branch-le xs (suc n) q n e (bit_n b) (omega arith),
    )

-- all 64 states are reachable at once, and stay so: the Rust's test for unreachable states never fires
pub all_reached : AllReachable
all_reached xs n d q f e h =
    let b = into-best xs n e h in
    let z : ℤ = score_of xs (start_into xs n e) (bits_into xs n e) -ℤ d in
    let w : nat_abs z ≤ 100000 = metric-within xs n d e (start_into xs n e) (bits_into xs n e) q f h b in
    record {
      start = start_into xs n e;
      path = bits_into xs n e;
      best = b;
      within = w;
      fits = abs_fits w32 z (omega arith);
      above = parts_lt unreachable z (omega (arith, abs_parts z));
    }
