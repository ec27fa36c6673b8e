-- The description's refusal, or else 8, or the profile's params filled in.
use Rattle.std.proofs.Common.{◌≡◌, rules, ◌+◌, ◌*◌, ◌≤◌, refl, sym, ap, subst, length, arith}
use Rattle.std.specs.Slice.Iter.{iter_rest}
use Rattle.refusal.specs.Outcome.{told}
use Rattle.refusal.proofs.Told.{residual, ok_same, ok_not_err}
use Rattle.fec_protection.specs.declared.ProtectionParams.{ProtectionParams}
use Rattle.fec_protection.proofs.Accepted.{accepted-from, accepted_params, usable, word_length}
use Rattle.fec_depuncturing.specs.Code.{Fillable}
use Rattle.fec_depuncturing.specs.Promises.{DepuncturedMsc}
use Rattle.fec_depuncturing.proofs.Depunctures.{params_fillable, fill_refused, fill_given, msc_refused, too_short, long_enough}
use Rattle.fec_depuncturing.proofs.depuncture_msc.Goals as goal

pub returns-in_err-judge : goal.returns-in_err-judge
returns-in_err-judge c =
    let a = c.args in
    subst (DepuncturedMsc a.d a.soft.now a.out.now a.out.now) (sym (residual _ _ c.from_residual.ensures.1)) (msc_refused a.d a.soft.now a.out.now _ c.judge.ensures c.in_err-judge.was)

pub returns-then-out-from : goal.returns-then-out-from
returns-then-out-from c =
    let a = c.args in
    let ok = accepted-from a.d c.judge.ensures (ap told c.in_ok-judge.was) in
    fill_refused 8 (omega arith) (too_short a.d a.soft.now a.out.now ok (omega (arith, c.from.ensures, c.if-out-from.true))) refl refl

pub returns-in_err-params : goal.returns-in_err-params
returns-in_err-params c =
    let a = c.args in
    let ok = accepted-from a.d c.judge.ensures (ap told c.in_ok-judge.was) in
    absurd (ok_not_err (accepted_params a.d ok c.protection_params.ensures) c.in_err-params.was)

pub fill_profile-requires : goal.fill_profile-requires
fill_profile-requires c =
    let a = c.args in
    let ok = accepted-from a.d c.judge.ensures (ap told c.in_ok-judge.was) in
    let held = ok_same c.in_ok-params.was (accepted_params a.d ok c.protection_params.ensures) in
    subst (λ (p : ProtectionParams). Fillable p (length a.out.now)) (sym held)
    (params_fillable _ (usable a.d ok) (length a.out.now) (omega (arith, word_length a.d ok, c.from.ensures, c.if-out-from.false)))

pub returns : goal.returns
returns c =
    let a = c.args in
    let all : iter_rest c.iter.result ≡ c.args.soft.now = search rules in
    let ok = accepted-from a.d c.judge.ensures (ap told c.in_ok-judge.was) in
    let held = ok_same c.in_ok-params.was (accepted_params a.d ok c.protection_params.ensures) in
    let long : 96 * a.d.bitrate + 24 ≤ length a.out.now = omega (arith, c.from.ensures, c.if-out-from.false) in
    fill_given (long_enough a.d a.soft.now a.out.now ok long) refl (usable a.d ok) (word_length a.d ok) long (rw (held, all) at c.fill_profile.ensures)
