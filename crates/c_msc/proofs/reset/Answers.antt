-- The refusal of a state that was read.
use Rattle.c_msc.proofs.MscCalls.{reset_refused}
use Rattle.c_msc.proofs.reset.Goals as goal

pub returns-in_err-made : goal.returns-in_err-made
returns-in_err-made c = reset_refused c.args.state.now _ _ c.read.ensures c.in_ok-read.was c.reset-made.ensures c.in_err-made.was c.from_residual-in_err-made.ensures.1
