-- The FIBs tested so far are kept.
use Rattle.std.proofs.Common.{◌≤◌}
use Rattle.fic_handler.specs.Code.{KeptFibs}
use Rattle.fic_handler.proofs.keep_fibs.Given as goal

abbrev pub invariant-loop-fib : goal.invariant-loop-fib
invariant-loop-fib l = record { few : l.kept ≤ l.fib-index; so_far : KeptFibs l.bits l.fib-index l.fn.fibs l.kept l.fibs }
