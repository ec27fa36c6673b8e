-- The survivors' scores stay near each other, since six steps lead from any state to any, and the best does not fall, since of the two branches out of a state one is not negative.
-- Assumes nothing.
use mathlib.Core.Path.{◌≡◌, ap, ◌∙◌, subst}
use mathlib.Core.Bool.{Bool, true, false}
use mathlib.Core.List.{List}
use Prim.Native.Nat.{ℕ, zero, suc, ◌+◌, ◌*◌, ◌/◌, ◌%◌, ◌<◌, ◌≤◌}
use native.Mathlib.Omega.{arith}
use native.Mathlib.Decide.{dec_le}
use lib.IntN.{ℤ, nat_abs, neg_ℤ, ◌+ℤ◌}
use lib.Signed.{◌≤ℤ◌}
use Rattle.laws.specs.Integers.{up, dn}
use Rattle.laws.specs.Words.{pick_n}
use Rattle.laws.proofs.Integers.{sum, neg_up, neg_dn, abs_sum, abs_parts, parts_le, le_parts, ≤ℤ-trans}
use Rattle.spec_trellis.specs.Trellis.{bit_n, branch, next_state, start_score, is_odd, Softs}
use Rattle.spec_trellis.specs.Program.{acs, takes_at, survivor, pred_of}
use Rattle.spec_trellis.proofs.Trellis.{branch-le, branch_opposite, odd_is, next_lt}
use Rattle.spec_trellis.proofs.TrellisProgram.{step_ge, way_is, pred_lt}

-- from each state a step leads to one whose survivor scores no less
pub no_fall : (xs : List ℤ) (k s : ℕ) → s < 64 → (u : ℕ) × (u < 64) × (survivor xs k s ≤ℤ survivor xs (suc k) u)
unfolding survivor
no_fall xs k s h = go (dec_le (dn (branch xs k s 1)) (up (branch xs k s 1)))
  where
    opp : branch xs k s 0 ≡ neg_ℤ (branch xs k s 1)
    opp = branch_opposite xs k s h

    by : (b : Bool) → dn (branch xs k s (bit_n b)) ≤ up (branch xs k s (bit_n b)) → (u : ℕ) × (u < 64) × (survivor xs k s ≤ℤ acs (survivor xs k) (branch xs k) u)
    by b l =
        let B : ℤ = branch xs k s (bit_n b) in
        let x : ℤ = survivor xs k s in
        (next_state s (bit_n b), next_lt s b, ≤ℤ-trans (parts_le x (x +ℤ B) (omega (arith, sum x B, l))) (step_ge (survivor xs k) (branch xs k) s b h))

    go : Dec (dn (branch xs k s 1) ≤ up (branch xs k s 1)) → (u : ℕ) × (u < 64) × (survivor xs k s ≤ℤ acs (survivor xs k) (branch xs k) u)
    go (yes l) = by true l
    go (no n) = by false (omega (arith, n, ap up opp, ap dn opp, neg_up (branch xs k s 1), neg_dn (branch xs k s 1)))

-- a is at most n more than b
pub record Near (n : ℕ) (a b : ℤ) : Type 0 where
  pub near : up a + dn b ≤ up b + dn a + n

near_trans : {m n : ℕ} {a b c : ℤ} → Near m a b → Near n b c → Near (m + n) a c
near_trans h k = record { near = omega (arith, h.near, k.near) }

next_step : (a b c : ℕ) → 2 * a + b ≡ c → next_state (a % 64) b ≡ c % 64
unfolding next_state
next_step a b c r =
    let e : (2 * (a % 64) + b) % 64 ≡ (2 * a + b) % 64 = omega arith in
    e ∙ ap (λ (n : ℕ). n % 64) r

module _ (xs : List ℤ) (N : ℕ) (q : Softs xs N) where
  -- a step's end is at most 512 less than its start
  fall : (k e : ℕ) (b : Bool) → k < N → e < 64 → Near 512 (survivor xs k e) (survivor xs (suc k) (next_state e (bit_n b)))
  unfolding survivor
  fall k e b l h =
      let B : ℤ = branch xs k e (bit_n b) in
      let d : ℤ = survivor xs k e in
      record { near = omega (arith, le_parts (step_ge (survivor xs k) (branch xs k) e b h), sum d B, branch-le xs N q k e (bit_n b) l, abs_parts B) }

  rise : (k t : ℕ) → k < N → Near 512 (survivor xs (suc k) t) (survivor xs k (pred_of xs k t))
  unfolding survivor pred_of takes_at
  rise k t l =
      let p : ℕ = pred_of xs k t in
      let B : ℤ = branch xs k p (t % 2) in
      let e = way_is (survivor xs k) (branch xs k) t in
      record { near = omega (arith, ap up e, ap dn e, sum (survivor xs k p) B, branch-le xs N q k p (t % 2) l, abs_parts B) }

  -- six steps lead from any state to any
  fall_to : (k e t n : ℕ) → k < N → e < 64 → n < 2 → next_state e n ≡ t → Near 512 (survivor xs k e) (survivor xs (suc k) t)
  fall_to k e t n g h l r =
      subst (λ (u : ℕ). Near 512 (survivor xs k e) (survivor xs (suc k) u)) (ap (next_state e) (odd_is n l) ∙ r) (fall k e (is_odd n) g h)

  six_fall : (k e t : ℕ) → k + 6 ≤ N → e < 64 → t < 64 → Near 3072 (survivor xs k e) (survivor xs (suc (suc (suc (suc (suc (suc k)))))) t)
  six_fall k e t g he ht =
      near_trans (fall_to k e ((2 * e + t / 32) % 64) (t / 32 % 2) (omega arith) he (omega arith) (one ∙ next_step e (t / 32 % 2) (2 * e + t / 32) (omega arith)))
      (near_trans (fall_to (suc k) ((2 * e + t / 32) % 64) ((4 * e + t / 16) % 64) (t / 16 % 2) (omega arith) (omega arith) (omega arith) (next_step (2 * e + t / 32) (t / 16 % 2) (4 * e + t / 16) (omega arith)))
      (near_trans (fall_to (suc (suc k)) ((4 * e + t / 16) % 64) ((8 * e + t / 8) % 64) (t / 8 % 2) (omega arith) (omega arith) (omega arith) (next_step (4 * e + t / 16) (t / 8 % 2) (8 * e + t / 8) (omega arith)))
      (near_trans (fall_to (suc (suc (suc k))) ((8 * e + t / 8) % 64) ((16 * e + t / 4) % 64) (t / 4 % 2) (omega arith) (omega arith) (omega arith) (next_step (8 * e + t / 8) (t / 4 % 2) (16 * e + t / 4) (omega arith)))
      (near_trans (fall_to (suc (suc (suc (suc k)))) ((16 * e + t / 4) % 64) ((32 * e + t / 2) % 64) (t / 2 % 2) (omega arith) (omega arith) (omega arith) (next_step (16 * e + t / 4) (t / 2 % 2) (32 * e + t / 2) (omega arith)))
      (fall_to (suc (suc (suc (suc (suc k))))) ((32 * e + t / 2) % 64) t (t % 2) (omega arith) (omega arith) (omega arith) (next_step (32 * e + t / 2) (t % 2) (64 * e + t) (omega arith) ∙ last))))))
    where
      one : next_state e (t / 32 % 2) ≡ next_state (e % 64) (t / 32 % 2)
      one = ap (λ (n : ℕ). next_state n (t / 32 % 2)) (omega arith)

      last : (64 * e + t) % 64 ≡ t
      last = omega arith

  six_rise : (k t : ℕ) → k + 6 ≤ N → t < 64 → (s : ℕ) × (s < 64) × Near 3072 (survivor xs (suc (suc (suc (suc (suc (suc k)))))) t) (survivor xs k s)
  six_rise k t g h =
      let t1 : ℕ = pred_of xs (suc (suc (suc (suc (suc k))))) t in
      let h1 : t1 < 64 = pred_lt xs (suc (suc (suc (suc (suc k))))) t h in
      let t2 : ℕ = pred_of xs (suc (suc (suc (suc k)))) t1 in
      let h2 : t2 < 64 = pred_lt xs (suc (suc (suc (suc k)))) t1 h1 in
      let t3 : ℕ = pred_of xs (suc (suc (suc k))) t2 in
      let h3 : t3 < 64 = pred_lt xs (suc (suc (suc k))) t2 h2 in
      let t4 : ℕ = pred_of xs (suc (suc k)) t3 in
      let h4 : t4 < 64 = pred_lt xs (suc (suc k)) t3 h3 in
      let t5 : ℕ = pred_of xs (suc k) t4 in
      let h5 : t5 < 64 = pred_lt xs (suc k) t4 h4 in (
        pred_of xs k t5,
        pred_lt xs k t5 h5,
        near_trans (rise (suc (suc (suc (suc (suc k))))) t (omega arith))
            (near_trans (rise (suc (suc (suc (suc k)))) t1 (omega arith))
            (near_trans (rise (suc (suc (suc k))) t2 (omega arith))
            (near_trans (rise (suc (suc k)) t3 (omega arith))
            (near_trans (rise (suc k) t4 (omega arith)) (rise k t5 (omega arith)))))),
      )

  -- in the first steps the scores are small
  survivor_abs : (n t : ℕ) → n ≤ N → nat_abs (survivor xs n t) ≤ 63 + 512 * n
  unfolding survivor start_score takes_at
  survivor_abs zero zero l = omega arith
  survivor_abs zero (suc t) l = omega arith
  survivor_abs (suc k) t l =
      let p : ℕ = pick_n (takes_at xs k t) (t / 2 + 32) (t / 2) in
      omega (arith, ap nat_abs (way_is (survivor xs k) (branch xs k) t), abs_sum (survivor xs k p) (branch xs k p (t % 2)), branch-le xs N q k p (t % 2) l, survivor_abs k p (omega arith))

  small : (n t u : ℕ) → n ≤ N → n < 6 → Near 6144 (survivor xs n u) (survivor xs n t)
  small n t u l h = record { near = omega (arith, survivor_abs n t l, survivor_abs n u l, abs_parts (survivor xs n t), abs_parts (survivor xs n u)) }

  pub spread : (n t u : ℕ) → n ≤ N → t < 64 → u < 64 → Near 6144 (survivor xs n u) (survivor xs n t)
  spread zero t u l ht hu = small zero t u l (omega arith)
  spread (suc zero) t u l ht hu = small 1 t u l (omega arith)
  spread (suc (suc zero)) t u l ht hu = small 2 t u l (omega arith)
  spread (suc (suc (suc zero))) t u l ht hu = small 3 t u l (omega arith)
  spread (suc (suc (suc (suc zero)))) t u l ht hu = small 4 t u l (omega arith)
  spread (suc (suc (suc (suc (suc zero))))) t u l ht hu = small 5 t u l (omega arith)
  spread (suc (suc (suc (suc (suc (suc k)))))) t u l ht hu =
      let r = six_rise k u (omega arith) hu in
      near_trans r.2 (six_fall k r.0 t (omega arith) r.1 ht)
