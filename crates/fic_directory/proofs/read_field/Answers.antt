-- How the field ended, and one FIG more.
use Rattle.fic_directory.proofs.Figs.{walk_marker, walk_broken, walk_end, walk_next}
use Rattle.fic_directory.proofs.read_field.Goals as goal

pub returns-then-header : goal.returns-then-header
returns-then-header c = walk_marker c.loop-rest.invariant c.in-len1-up.len_at_least c.if-header.true

pub returns-in_default-split_at_checked : goal.returns-in_default-split_at_checked
returns-in_default-split_at_checked c = walk_broken c.loop-rest.invariant c.in-len1-up.len_at_least _ c.if-header.false c.from.ensures c.in_default-split_at_checked.ensures.cases

pub loop-rest-preserved : goal.loop-rest-preserved
loop-rest-preserved c =
    let cut = c.in-Some.ensures.cases in
    walk_next c.loop-rest.invariant c.in-len1-up.len_at_least _ _ _ _ _ c.if-header.false c.from.ensures cut.0 cut.1 cut.2 c.read_fig-left_out.ensures

pub returns-in_default : goal.returns-in_default
returns-in_default c = walk_end c.loop-rest.invariant c.in_default.len_below
