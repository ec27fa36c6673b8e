-- The two kinds, each by its own lookup.
use Rattle.fec_protection.specs.Refusals.{profile_of, row_refusals, row_refusal_of}
use Rattle.fec_protection.proofs.protection_params.Goals as goal

pub returns-then-d : goal.returns-then-d
unfolding profile_of row_refusals row_refusal_of
returns-then-d c = rw c.if-d.true c.eep_params.ensures

pub returns-else-d : goal.returns-else-d
unfolding profile_of row_refusals row_refusal_of
returns-else-d c = rw c.if-d.false c.uep_params.ensures
