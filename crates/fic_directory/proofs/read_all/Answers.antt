-- One FIB more, and what was read at the end.
use Rattle.std.proofs.Common.{ℕ, List, [], get_or, take, ap, ◌∙◌, arith}
use Rattle.fic_directory.proofs.Fibs.{pieces, next, done}
use Rattle.fic_directory.proofs.read_all.Goals as goal

pub loop-fib-preserved : goal.loop-fib-preserved
loop-fib-preserved c =
    next c.loop-fib.invariant _ _ _ _ _ (omega (arith, c.as_chunks.ensures.front_len))
    (ap (λ (fs : List (List ℕ)). take 30 (get_or fs c.loop-fib.fib-index [])) (c.as_chunks.ensures.front ∙ pieces _ c.args.fibs.now)) c.read_field.ensures c.note.ensures

pub returns : goal.returns
returns c = done c.loop-fib.invariant (omega (arith, c.as_chunks.ensures.front_len)) (omega (arith, c.as_chunks.ensures.front_len))
