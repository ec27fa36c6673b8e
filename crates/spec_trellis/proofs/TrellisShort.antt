-- Short inputs: nothing is subtracted in the first 195 steps, and the best of all paths is found by one computed test over the 64 survivors.
-- Assumes nothing.
use mathlib.Core.Path.{◌≡◌, refl, sym, ap, subst}
use mathlib.Core.Bool.{Bool, true, false}
use mathlib.Core.List.{List, [], ◌∷◌}
use Prim.Native.Nat.{ℕ, zero, suc, ◌+◌, ◌*◌, ◌<◌, ◌≤◌}
use native.Mathlib.Omega.{arith}
use lib.Dec.{T, ltb}
use lib.ListN.{length}
use lib.IntN.{ℤ, pos, nat_abs}
use lib.Signed.{le_z, lt_z}
use Rattle.laws.specs.Integers.{up, dn}
use Rattle.laws.specs.Lists.{list_of}
use Rattle.laws.specs.Tables.{both, every}
use Rattle.laws.proofs.Integers.{diff, abs_sum, abs_parts, lt_parts}
use Rattle.laws.proofs.Lists.{length-list_of, list_of-at}
use Rattle.laws.proofs.Tables.{both_left, both_right, rule_at}
use borrow.Author.Tests.{lt-ltb}
use Rattle.spec_trellis.specs.Trellis.{bit_n, branch, end_of, start_score, score_of, free_end, Best, Subtracted, none, kept, renewed, Softs}
use Rattle.spec_trellis.specs.Program.{survivor, start_into, bits_into}
use Rattle.spec_trellis.proofs.Trellis.{branch-le}
use Rattle.spec_trellis.proofs.TrellisProgram.{free_best}

-- a path of few steps scores little
pub score_abs : (xs : List ℤ) (n : ℕ) → Softs xs n → (s : ℕ) (bs : List Bool) → length bs ≤ n → nat_abs (score_of xs s bs) ≤ 63 + 512 * length bs
unfolding score_of start_score
score_abs xs n q zero [] l = omega arith
score_abs xs n q (suc s) [] l = omega arith
score_abs xs n q s (b ∷ bs) l =
    let B : ℤ = branch xs (length bs) (end_of s bs) (bit_n b) in
    omega (arith, abs_sum (score_of xs s bs) B, branch-le xs n q (length bs) (end_of s bs) (bit_n b) (omega arith), score_abs xs n q s bs (omega arith))

-- so in 195 steps nothing is subtracted
pub subtracted-short : {xs : List ℤ} {n : ℕ} {d : ℤ} → Softs xs n → n ≤ 195 → Subtracted xs n d → d ≡ pos 0
subtracted-short q h none = refl
subtracted-short q h (kept b f t l) = subtracted-short (λ i k. q i (omega arith)) (omega arith) f
subtracted-short {xs = xs} {n = suc n} q h (renewed {d = d} b f t l) =
    let e = subtracted-short (λ i k. q i (omega arith)) (omega arith) f in
    let z : ℤ = score_of xs t.start t.path in
    let s = t.scores in
    absurd (omega (arith, score_abs xs (suc n) q t.start t.path (omega (arith, t.long)), t.long, abs_parts z, ap up s, ap dn s, lt_parts l, diff b d, ap up e, ap dn e))

abbrev when : Bool → Bool → Bool
when true b = b
when false b = true

-- x, at place u, is at most v, and less than v where u is below e
abbrev pub under : ℤ → ℕ → ℕ → ℤ → Bool
under v e u x = both (le_z x v) (when (ltb u e) (lt_z x v))

-- the test passes where e is the lowest of the states whose survivors score most
pub free_best_by_test : (xs : List ℤ) (n e : ℕ) → e < 64 → T (every (under (survivor xs n e) e) 0 (list_of 64 (survivor xs n))) → Best xs n free_end (start_into xs n e) (bits_into xs n e)
free_best_by_test xs n e he t =
    free_best xs n e he (λ u h. record { le = both_left (least u) (lower u) (passed u h) })
    (λ u l. record { lt = subst (λ (b : Bool). T (when b (lt_z (σ u) (σ e)))) (lt-ltb u e l) (both_right (least u) (lower u) (passed u (omega arith))) })
  where
    σ : ℕ → ℤ
    σ = survivor xs n

    least : ℕ → Bool
    least u = le_z (σ u) (σ e)

    lower : ℕ → Bool
    lower u = when (ltb u e) (lt_z (σ u) (σ e))

    passed : (u : ℕ) → u < 64 → T (under (σ e) e u (σ u))
    passed u h =
        subst (λ (x : ℤ). T (under (σ e) e u x)) (list_of-at 64 σ (pos 0) u h)
        (rule_at (under (σ e) e) (pos 0) (list_of 64 σ) t u (subst (λ (m : ℕ). u < m) (sym (length-list_of 64 σ)) h))
