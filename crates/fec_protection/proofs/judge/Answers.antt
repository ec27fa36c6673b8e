-- The row's refusal, or else the first of 5 to 7.
use Rattle.std.proofs.Common.{sym, subst}
use Rattle.refusal.proofs.Told.{residual}
use Rattle.fec_protection.specs.Promises.{JudgePromise}
use Rattle.fec_protection.proofs.Sizes.{judge_refused, judge_eep_shape, judge_uep_shape}
use Rattle.fec_protection.proofs.judge.Goals as goal

pub returns-in_err-needed : goal.returns-in_err-needed
returns-in_err-needed c = subst (JudgePromise c.args.d) (sym (residual _ _ c.from_residual.ensures.1)) (judge_refused c.args.d c.needed_size.ensures _ c.in_err-needed.was)

pub returns-then-d : goal.returns-then-d
returns-then-d c = judge_eep_shape c.args.d c.needed_size.ensures _ c.in_ok-needed.was _ c.if-d.true c.judge_eep.ensures

pub returns-else-d : goal.returns-else-d
returns-else-d c = judge_uep_shape c.args.d c.needed_size.ensures _ c.in_ok-needed.was _ c.if-d.false c.judge_uep.ensures
