-- The FIGs before what is left are read.
use Rattle.std.proofs.Common.{length}
use Rattle.fic_directory_places.specs.Places.{held}
use Rattle.fic_directory.proofs.Figs.{Walked}
use Rattle.fic_directory.proofs.read_field.Given as goal

abbrev pub invariant-loop-rest : goal.invariant-loop-rest
invariant-loop-rest l = Walked l.field (held l.initial.subs l.initial.services) (held l.subs l.services) l.left_out l.rest

abbrev pub decreases-loop-rest : goal.decreases-loop-rest
decreases-loop-rest l = length l.rest
