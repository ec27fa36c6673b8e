-- Reset: the handler's refusal is that of the call.
-- Assumes nothing.
use mathlib.Core.Path.{◌≡◌, refl, sym, ap, ◌∙◌, subst}
use mathlib.Core.List.{List}
use Prim.Native.Nat.{ℕ, zero, suc}
use native.Mathlib.Omega.{arith}
use lib.ListN.{length}
use lib.IntN.{ℤ}
use Rattle.std.specs.Prelude.{Result, Ok, Err}
use Rattle.std.specs.Result.{IsErrAnd}
use Rattle.refusal.specs.Outcome.{refuses, outcome, number_of, numbered, told}
use Rattle.refusal.proofs.Checks.{last-check}
use Rattle.refusal.proofs.Told.{ok-number, ok-value}
use Rattle.refusal.specs.declared.Refusal.{Refusal}
use Rattle.fec_protection.specs.declared.Description.{Description}
use Rattle.msc_state.specs.declared.State.{State}
use Rattle.msc_state.specs.States.{reset_refusal}
use Rattle.msc_set_up.specs.declared.SetUp.{SetUp}
use Rattle.msc_set_up.specs.Promises.{Prepared, ResetPromise}
use Rattle.c_state.specs.Numbers.{state_in, state_checks, state_refusal}
use Rattle.c_msc.specs.Msc.{Readied, reset_number}

-- where the numbers are as they should be, the state's own refusal decides
reset-number : (state : List ℕ) (ring : ℕ) → state_refusal state ≡ 0 → reset_refusal (state_in state) ring ≡ reset_number state ring
unfolding reset_number state_refusal
reset-number state ring e = sym (last-check (state_checks state) (reset_refusal (state_in state) ring) e)

-- what is answered where the handler refuses
answered : {d : Description} {other : State} {ring ring' : List ℤ} {state : List ℕ} {r : SetUp} (n : ℕ) (x : Refusal) → Prepared n d other ring r ring' → r.answer ≡ Err x → Readied n d ring state (numbered x) ring' state
answered zero x p e = let z : refuses (numbered x) ≡ outcome 0 tt = sym (ap told e) ∙ p.answer in absurd (let y : ◌≡◌ {A = ℕ} 0 1 = cc in omega arith)
answered (suc n) x p e = let z : refuses (numbered x) ≡ outcome (suc n) tt = sym (ap told e) ∙ p.answer in record { answer = cc; ring_is = p.ring_is; state_is = refl }

pub reset_refused : {s : State} {ring ring' : List ℤ} {r : SetUp} {x : Refusal} (state : List ℕ) (read : Result State Refusal) (q : Result (Unit {0}) Refusal)
    → told read ≡ outcome (state_refusal state) (state_in state) → read ≡ Ok s → ResetPromise s ring r ring' → r.answer ≡ Err x → IsErrAnd q (λ y. y ≡ x)
    → Readied (reset_number state (length ring)) (state_in state).channel.description ring state (number_of (told q)) ring' state
reset_refused state read (Ok u) e o p f h = absurd h
reset_refused {s} {ring} {ring'} {r} {x} state read (Err y) e o p f h =
    let none = ok-number (state_refusal state) (state_in state) e o in
    let p' = subst (λ (t : State). ResetPromise t ring r ring') (ok-value (state_refusal state) (state_in state) e o) p in
    let w = answered (reset_refusal (state_in state) (length ring)) x p' f in
    subst (λ (n : ℕ). Readied n (state_in state).channel.description ring state (numbered y) ring' state) (reset-number state (length ring) none)
    (subst (λ (z : Refusal). Readied (reset_refusal (state_in state) (length ring)) (state_in state).channel.description ring state (numbered z) ring' state) (sym h) w)
