-- What is left of the entries makes of the numbers what all of them make of those before.
use Rattle.std.proofs.Common.{length}
use Rattle.fic_directory.proofs.Services.{Entering}
use Rattle.fic_directory.proofs.read_services.Given as goal

abbrev pub invariant-loop-entry : goal.invariant-loop-entry
invariant-loop-entry l = Entering l.wide l.body l.initial.services l.rest l.services l.left_out

abbrev pub decreases-loop-entry : goal.decreases-loop-entry
decreases-loop-entry l = length l.rest
