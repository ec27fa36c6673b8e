-- `read` gives one result.
-- Assumes nothing.
use mathlib.Core.Path.{sym, ◌∙◌}
use Rattle.refusal.proofs.Told.{told_one}
use Rattle.c_state.specs.Unique.{ReadOne}

pub read_unique : ReadOne
read_unique = record { one = λ xs r r₂ p q. told_one r r₂ (p ∙ sym q) }
