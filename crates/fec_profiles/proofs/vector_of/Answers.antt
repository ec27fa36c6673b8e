-- The vectors are the standard's, and beyond them nothing is kept.
use Rattle.std.proofs.Common.{◌≡◌, refl, ap, ◌∙◌, [], ℕ, ◌<◌, get_or, arith}
use borrow.Author.Tests.{le-ltb}
use Rattle.fec_profiles.specs.declared.TheConstants.{P_CODES}
use Rattle.fec_profiles.specs.Rows.{bits, vector_at}
use Rattle.fec_profiles.proofs.Rules.{vector_is}
use Rattle.fec_profiles.proofs.vector_of.Goals as goal

-- a row whose number is `pi`, however it is worked out
row : (k pi : ℕ) → pi < 24 → k ≡ pi → get_or P_CODES k [] ≡ bits (vector_at pi)
row k pi h e = ap (λ (n : ℕ). get_or P_CODES n []) e ∙ vector_is [] pi h

pub returns-then-pi-lt24 : goal.returns-then-pi-lt24
returns-then-pi-lt24 c = search (arith, row, c.if-pi-lt24.true)

pub returns-else-pi-lt24 : goal.returns-else-pi-lt24
unfolding vector_at
returns-else-pi-lt24 c = rw (le-ltb c.args.pi 24 c.if-pi-lt24.false) refl
