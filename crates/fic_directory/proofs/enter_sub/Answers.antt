-- Form by form.
use Rattle.std.proofs.Common.{inl, inr, arith, rules, tests}
use Rattle.fic_directory.proofs.SubEntries.{left_none, left_switched, left_short, left_long, short_option, long_option}
use Rattle.fic_directory.proofs.enter_sub.Goals as goal
use Rattle.fic_directory.proofs.enter_sub.Goals.{in_default-via-then-rest-lt3, in_default-via-in-len3-up+else-c-lt64+then-rest-lt3-2, in_default-via-in-len3-up-2+else-c-lt128+then-rest-lt4}

pub packed-requires : goal.packed-requires
packed-requires c = short_option _ _ _ _ c.short_form.ensures

pub packed-requires-in-len4-up : goal.packed-requires-in-len4-up
packed-requires-in-len4-up c = long_option _ _ _ _ _ c.long_form.ensures

pub returns-in-len3-up : goal.returns-in-len3-up
returns-in-len3-up c = left_short c.args.rest.now c.args.subs.now _ _ c.short_form.result c.told-subs (omega (arith, c.type_inv.rest 0)) c.from.ensures c.packed.ensures c.in-len3-up.len_at_least c.if-c-lt64.true c.short_form.ensures

pub returns-in-len3-up-2 : goal.returns-in-len3-up-2
returns-in-len3-up-2 c = left_switched c.args.rest.now c.args.subs.now c.in-len3-up.len_at_least c.if-c-lt64.false c.if-c-lt128.true

pub returns-in-len4-up : goal.returns-in-len4-up
returns-in-len4-up c =
    left_long c.args.rest.now c.args.subs.now _ _ c.long_form.result c.told-subs (omega (arith, c.type_inv.rest 0)) c.from-in-len4-up.ensures c.packed-in-len4-up.ensures c.in-len4-up.len_at_least c.if-c-lt128.false
    c.long_form.ensures

pub returns-in_default : goal.returns-in_default
returns-in_default c =
    left_none c.args.rest.now c.args.subs.now c.requires
    (elim c.in_default.branch [
      | in_default-via-then-rest-lt3 w ↦ inl (search (rules, tests))
      | in_default-via-in-len3-up+else-c-lt64+then-rest-lt3-2 w ↦ inl (search (rules, tests))
      | in_default-via-in-len3-up-2+else-c-lt128+then-rest-lt4 w ↦ inr (search (rules, tests), w.if-c-lt128.false)
    ])
