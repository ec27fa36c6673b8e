-- docs/DECISIONS.md, "For C": what is read of the caller's numbers is one state or one refusal.
use Rattle.std.specs.Prelude.{◌≡◌, List, ℕ, Result}
use Rattle.refusal.specs.Outcome.{outcome, told}
use Rattle.refusal.specs.declared.Refusal.{Refusal}
use Rattle.msc_state.specs.declared.State.{State}
use Rattle.c_state.specs.Numbers.{state_in, state_refusal}

-- two readings of one array that are as `read` promises are the same
pub record ReadOne : Type 0 where
  pub one : (xs : List ℕ) (r r₂ : Result State Refusal) → told r ≡ outcome (state_refusal xs) (state_in xs) → told r₂ ≡ outcome (state_refusal xs) (state_in xs) → r ≡ r₂
