-- The code's rows are the standard's.
use Rattle.fic_directory.proofs.Rows.{row_is}
use Rattle.fic_directory.proofs.short_form.Goals as goal

pub returns : goal.returns
returns c = row_is _ c.args.a c.args.b c.args.c _ _ c.requires c.from.ensures c.ten_bits.ensures
