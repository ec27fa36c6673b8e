-- The blocks done so far are a run.
use Rattle.fic_handler.specs.Blocks.{fic_buffers}
use Rattle.fic_handler.proofs.Run.{Run}
use Rattle.fic_handler.proofs.process_blocks.Given as goal

abbrev pub invariant-loop-b : goal.invariant-loop-b
invariant-loop-b l =
    Run l.values (fic_buffers l.fn.depunctured l.fn.words l.fn.bits l.fn.fibs) l.b l.fic.fibs l.fic.passed l.fic.quality (fic_buffers l.depunctured l.words l.bits l.fibs)
