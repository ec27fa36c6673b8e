-- The depuncturers' promise admits one answer and one output (specs/Theorems.antt).
-- Assumes nothing.
use mathlib.Core.Path.{sym, ◌∙◌}
use Rattle.refusal.proofs.Told.{told_one}
use Rattle.fec_depuncturing.specs.Theorems.{OneDepuncturing}

pub depuncture_unique : OneDepuncturing
depuncture_unique n need profile soft before after after' r s p q = (told_one r s (p.answer ∙ sym q.answer), p.places ∙ sym q.places)
