-- One entry more, until none is left.
use Rattle.fic_directory.proofs.Services.{next_entry, no_more}
use Rattle.fic_directory.proofs.read_services.Goals as goal

pub loop-entry-preserved : goal.loop-entry-preserved
loop-entry-preserved c = next_entry c.loop-entry.invariant _ _ _ c.enter_service.result _ c.from-left_out.ensures c.in-Some.ensures c.enter_service.ensures

pub returns : goal.returns
returns c = no_more c.loop-entry.invariant c.in_default.ensures
