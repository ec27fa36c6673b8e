-- By the identifier's width.
use Rattle.std.proofs.Common.{◌∙◌, arith}
use Rattle.fic_directory.proofs.Services.{key_wide, key_narrow}
use Rattle.fic_directory.proofs.service_key.Goals as goal

pub returns-then-wide : goal.returns-then-wide
returns-then-wide c = key_wide c.args.wide c.args.entry.now _ c.if-wide.true c.requires (c.from.ensures ∙ c.from_be_bytes.ensures) (omega arith)

pub returns-else-wide : goal.returns-else-wide
returns-else-wide c = key_narrow c.args.wide c.args.entry.now _ c.if-wide.false c.requires (c.from-else-wide.ensures ∙ c.from_be_bytes-else-wide.ensures) (omega arith)
