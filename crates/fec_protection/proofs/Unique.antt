-- Each promise admits one result (specs/Theorems.antt).
-- Assumes nothing.
use mathlib.Core.Path.{sym, ◌∙◌}
use Rattle.refusal.proofs.Told.{told_one}
use Rattle.fec_protection.specs.Theorems.{OneJudgement, OneRow, OneSize}

pub judge_unique : OneJudgement
judge_unique d r s p q = told_one r s (p.answer ∙ sym q.answer)

pub row_unique : OneRow
row_unique n profile r s p q = told_one r s (p.answer ∙ sym q.answer)

pub size_unique : OneSize
size_unique size d r s p q = told_one r s (p.answer ∙ sym q.answer)
