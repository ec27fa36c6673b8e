-- The FIBs before the index are read.
use Rattle.fic_directory_places.specs.Places.{held}
use Rattle.fic_directory.proofs.Fibs.{Going}
use Rattle.fic_directory.proofs.read_all.Given as goal

abbrev pub invariant-loop-fib : goal.invariant-loop-fib
invariant-loop-fib l = Going l.fibs (held l.initial.subs l.initial.services) (held l.subs l.services) l.reading l.fib-index
