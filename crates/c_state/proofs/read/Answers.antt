-- The first number that its field does not hold, or all held.
use Rattle.std.proofs.Common.{refl, arith}
use Rattle.c_state.proofs.Numbers.{under_eleven, over_field, all_fit}
use Rattle.c_state.proofs.read.Goals as goal

pub returns-in_default : goal.returns-in_default
returns-in_default c = under_eleven _ c.in_default.len_below

pub returns-in_err-field : goal.returns-in_err-field
returns-in_err-field c = over_field _ 4 65535 _ _ refl c.in-len11-up.len_at_least c.in_err-field.ensures c.from_residual.ensures.1

pub returns-in_err-field-2 : goal.returns-in_err-field-2
returns-in_err-field-2 c =
    let f = c.in_err-field-2.ensures in
    over_field _ 5 65535 _ _ refl c.in-len11-up.len_at_least (f.0, (f.1.0, λ h. f.1.1 (omega arith))) c.from_residual-in_err-field-2.ensures.1

pub returns-in_err-field-3 : goal.returns-in_err-field-3
returns-in_err-field-3 c = over_field _ 6 65535 _ _ refl c.in-len11-up.len_at_least c.in_err-field-3.ensures c.from_residual-in_err-field-3.ensures.1

pub returns-in_err-field-4 : goal.returns-in_err-field-4
returns-in_err-field-4 c = over_field _ 7 255 _ _ refl c.in-len11-up.len_at_least c.in_err-field-4.ensures c.from_residual-in_err-field-4.ensures.1

pub returns-in_err-field-5 : goal.returns-in_err-field-5
returns-in_err-field-5 c = over_field _ 8 255 _ _ refl c.in-len11-up.len_at_least c.in_err-field-5.ensures c.from_residual-in_err-field-5.ensures.1

pub returns-in_err-field-6 : goal.returns-in_err-field-6
returns-in_err-field-6 c = over_field _ 2 255 _ _ refl c.in-len11-up.len_at_least c.in_err-field-6.ensures c.from_residual-in_err-field-6.ensures.1

pub returns-in_err-field-7 : goal.returns-in_err-field-7
returns-in_err-field-7 c = over_field _ 3 255 _ _ refl c.in-len11-up.len_at_least c.in_err-field-7.ensures c.from_residual-in_err-field-7.ensures.1

pub returns-in_err-field-8 : goal.returns-in_err-field-8
returns-in_err-field-8 c = over_field _ 0 255 _ _ refl c.in-len11-up.len_at_least c.in_err-field-8.ensures c.from_residual-in_err-field-8.ensures.1

pub returns-in_err-field-9 : goal.returns-in_err-field-9
returns-in_err-field-9 c = over_field _ 1 255 _ _ refl c.in-len11-up.len_at_least c.in_err-field-9.ensures c.from_residual-in_err-field-9.ensures.1

pub returns : goal.returns
returns c =
    let size = c.in_ok-field-2.ensures in
    all_fit _ c.in-len11-up.len_at_least _ _ _ _ _ _ _ _ _ c.in_ok-field.ensures (omega (arith, size.0), omega (arith, size.1)) c.in_ok-field-3.ensures c.in_ok-field-4.ensures c.in_ok-field-5.ensures c.in_ok-field-6.ensures c.in_ok-field-7.ensures
    c.in_ok-field-8.ensures c.in_ok-field-9.ensures
