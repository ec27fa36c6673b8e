-- The row's refusal, or the size of its params, which is the profile's.
use Rattle.std.proofs.Common.{sym, subst, ◌+◌, ◌*◌, arith}
use Rattle.refusal.proofs.Told.{residual}
use Rattle.fec_protection.specs.declared.ProtectionParams.{ProtectionParams}
use Rattle.fec_protection.specs.Code.{blocks_by}
use Rattle.fec_protection.specs.Promises.{mother_size, SizePromise}
use Rattle.fec_protection.specs.Refusals.{profile_of}
use Rattle.fec_protection.proofs.Sizes.{row_bounded, size_by, size_refused}
use Rattle.fec_protection.proofs.Params.{mother_by}
use Rattle.fec_protection.proofs.depunctured_size.Goals as goal

pub returns-in_err-params : goal.returns-in_err-params
returns-in_err-params c =
    subst (SizePromise mother_size c.args.d) (sym (residual _ _ c.from_residual.ensures.1)) (size_refused c.args.d c.protection_params.ensures mother_size _ c.in_err-params.was)

pub mother_size-requires : goal.mother_size-requires
mother_size-requires c = row_bounded c.args.d c.protection_params.ensures c.in_ok-params.was (omega arith)

pub returns : goal.returns
returns c =
    size_by c.args.d c.protection_params.ensures c.in_ok-params.was mother_size (λ (r : ProtectionParams). 128 * blocks_by r + 24) _ (omega arith) (mother_by (profile_of c.args.d)) c.mother_size.ensures
