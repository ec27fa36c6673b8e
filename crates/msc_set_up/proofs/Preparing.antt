-- Set-up and reset: the promise admits one result.
-- Assumes nothing.
use mathlib.Core.Path.{◌≡◌, sym, ap₂, ◌∙◌}
use mathlib.Core.List.{List}
use Prim.Native.Nat.{ℕ}
use lib.IntN.{ℤ}
use Rattle.std.specs.Prelude.{Result}
use Rattle.fec_protection.specs.declared.Description.{Description}
use Rattle.refusal.specs.declared.Refusal.{Refusal}
use Rattle.refusal.proofs.Told.{told_one}
use Rattle.msc_set_up.specs.declared.SetUp.{SetUp}
use Rattle.msc_state.specs.declared.State.{State}
use Rattle.msc_set_up.specs.Promises.{Prepared, SetUpPromise, ResetPromise}

-- one result
pub record SameSetUp (r r₂ : SetUp) (ring ring₂ : List ℤ) : Type 0 where
  pub result-one : r ≡ r₂
  pub ring-one : ring ≡ ring₂

prepared_unique : {n : ℕ} {d : Description} {other : State} {ring : List ℤ} {r r₂ : SetUp} {ring' ring₂ : List ℤ} → Prepared n d other ring r ring' → Prepared n d other ring r₂ ring₂ → SameSetUp r r₂ ring' ring₂
prepared_unique {r = r} {r₂} p q =
    record {
      result-one = ap₂ (λ (s : State) (j : Result (Unit {0}) Refusal). record { state = s; answer = j }) (p.state ∙ sym q.state) (told_one r.answer r₂.answer (p.answer ∙ sym q.answer));
      ring-one = p.ring_is ∙ sym q.ring_is;
    }

pub set_up_unique : {d : Description} {ring : List ℤ} {r r₂ : SetUp} {ring' ring₂ : List ℤ} → SetUpPromise d ring r ring' → SetUpPromise d ring r₂ ring₂ → SameSetUp r r₂ ring' ring₂
set_up_unique p q = prepared_unique p q

pub reset_unique : {s : State} {ring : List ℤ} {r r₂ : SetUp} {ring' ring₂ : List ℤ} → ResetPromise s ring r ring' → ResetPromise s ring r₂ ring₂ → SameSetUp r r₂ ring' ring₂
reset_unique p q = prepared_unique p q
