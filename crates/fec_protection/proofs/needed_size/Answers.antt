-- The row's refusal, or the size of its params, which is the profile's.
use Rattle.std.proofs.Common.{sym, subst, ◌+◌, arith}
use Rattle.spec_en300401.specs.Puncturing.{kept_size}
use Rattle.refusal.proofs.Told.{residual}
use Rattle.fec_protection.specs.declared.ProtectionParams.{ProtectionParams}
use Rattle.fec_protection.specs.Code.{sent_by}
use Rattle.fec_protection.specs.Promises.{SizePromise}
use Rattle.fec_protection.specs.Refusals.{profile_of}
use Rattle.fec_protection.proofs.Sizes.{row_bounded, size_by, size_refused}
use Rattle.fec_protection.proofs.Params.{kept_by}
use Rattle.fec_protection.proofs.needed_size.Goals as goal

pub returns-in_err-params : goal.returns-in_err-params
returns-in_err-params c =
    subst (SizePromise kept_size c.args.d) (sym (residual _ _ c.from_residual.ensures.1)) (size_refused c.args.d c.protection_params.ensures kept_size _ c.in_err-params.was)

pub kept_size-requires : goal.kept_size-requires
kept_size-requires c = row_bounded c.args.d c.protection_params.ensures c.in_ok-params.was (omega arith)

pub returns : goal.returns
returns c =
    size_by c.args.d c.protection_params.ensures c.in_ok-params.was kept_size (λ (r : ProtectionParams). sent_by r + 12) _ (omega arith) (kept_by (profile_of c.args.d)) c.kept_size.ensures
