-- By type, C/N, OE and extension.
use Rattle.std.proofs.Common.{arith}
use Rattle.fic_directory.proofs.Figs.{other_type, empty_fig, elsewhere, not_read, read_one, read_two}
use Rattle.fic_directory.proofs.read_fig.Goals as goal

pub returns-in-1 : goal.returns-in-1
returns-in-1 c = read_one _ c.args.body.now c.if-kind-eq0.true c.in-len1-up.len_at_least _ _ _ c.if-flags-lt64.true c.in-1.is c.read_subs.ensures

pub returns-in-2 : goal.returns-in-2
returns-in-2 c = read_two _ c.args.body.now c.if-kind-eq0.true c.in-len1-up.len_at_least _ _ _ _ c.if-flags-lt64.true c.in-2.is c.read_services.ensures

pub returns-in_default-2 : goal.returns-in_default-2
returns-in_default-2 c = not_read _ c.args.body.now c.if-kind-eq0.true c.in-len1-up.len_at_least _ c.if-flags-lt64.true (λ p. omega arith) (λ p. omega arith)

pub returns-in_default : goal.returns-in_default
returns-in_default c = empty_fig _ c.args.body.now _ c.in_default.len_below

pub returns-in_default-4 : goal.returns-in_default-4
returns-in_default-4 c = elsewhere _ c.args.body.now c.if-kind-eq0.true c.in-len1-up.len_at_least _ c.if-flags-lt64.false

pub returns-in_default-3 : goal.returns-in_default-3
returns-in_default-3 c = other_type _ _ _ c.if-kind-eq0.false
