use Rattle.std.proofs.Common.{rules, tests}
use Rattle.fic_directory.proofs.SubEntries.{read_none}
use Rattle.fic_directory.proofs.read_subs.Goals as goal

pub returns : goal.returns
returns c = read_none c.args.body.now c.args.subs.now _ c.loop-rest.rest.now (search (rules, tests)) c.loop-rest.invariant.puts
