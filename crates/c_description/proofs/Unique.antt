-- What is written in the caller's places is one.
-- Assumes nothing.
use mathlib.Core.Path.{◌≡◌, sym, ◌∙◌}
use mathlib.Core.List.{List}
use Prim.Native.Nat.{ℕ}
use Rattle.c_description.specs.Places.{Wrote}

pub wrote_unique : {A : Type 0} {n need : ℕ} {values before after after' : List A} {k k' : ℕ} → Wrote n need values before after k → Wrote n need values before after' k' → (k ≡ k') × (after ≡ after')
wrote_unique f g = (f.answer ∙ sym g.answer, f.places ∙ sym g.places)
