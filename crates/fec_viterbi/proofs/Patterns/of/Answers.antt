use Rattle.std.proofs.Common.{◌/◌, ◌%◌, arith}
use Rattle.fec_viterbi.proofs.Steps.{pattern_lt}
use Rattle.fec_viterbi.proofs.Patterns.of.Goals as goal

pub returns-clause-below : goal.returns-clause-below
returns-clause-below c = omega (arith, pattern_lt (c.args.register / 2) (c.args.register % 2))
