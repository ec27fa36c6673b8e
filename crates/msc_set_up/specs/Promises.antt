-- Document 01, "What the receiver owes": the promises of set-up and reset.
use Rattle.std.specs.Prelude.{◌≡◌, List, ◌++◌, ℕ, length, drop, replicate, ℤ, pos}
use Rattle.fec_protection.specs.declared.Description.{Description}
use Rattle.refusal.specs.Outcome.{outcome, unless_refused, told}
use Rattle.msc_state.specs.declared.State.{State}
use Rattle.msc_state.specs.States.{ring_length, set_up_refusal, reset_refusal, fresh_state, no_description}
use Rattle.msc_set_up.specs.declared.SetUp.{SetUp}

-- the ring's need filled with zeros, and the rest as it was
unfoldable pub cleared : Description → List ℤ → List ℤ
cleared d ring = replicate (ring_length d) (pos 0) ++ drop (ring_length d) ring

-- refused by n, with one state and the ring as it was, or a fresh state and a ring of zeros
pub record Prepared (n : ℕ) (d : Description) (other : State) (ring : List ℤ) (r : SetUp) (ring' : List ℤ) : Type 0 where
  pub answer : told r.answer ≡ outcome n tt
  pub state : r.state ≡ unless_refused n (fresh_state d) other
  pub ring_is : ring' ≡ unless_refused n (cleared d ring) ring

-- a refused set-up has a state of zeros
abbrev pub SetUpPromise : Description → List ℤ → SetUp → List ℤ → Type 0
SetUpPromise d ring r ring' = Prepared (set_up_refusal d (length ring)) d (fresh_state no_description) ring r ring'

-- a refused reset has the state as given
abbrev pub ResetPromise : State → List ℤ → SetUp → List ℤ → Type 0
ResetPromise s ring r ring' = Prepared (reset_refusal s (length ring)) s.channel.description s ring r ring'
