-- The call of `process_fic` is not refused, and the FIBs are those of the four blocks.
use Rattle.std.proofs.Common.{◌≡◌, refl, length, arith}
use Rattle.fic.proofs.Turns.{done, few, fibs_of_lem}
use Rattle.fic.proofs.decode.Goals as goal

pub unwrap-fic-requires : goal.unwrap-fic-requires
unwrap-fic-requires c =
    let long : length c.args.soft.now ≡ 9216 = omega arith in
    let out : length c.args.fibs.now ≡ 384 = omega arith in
    rw (done c.args.soft.now long c.process_fic.ensures (record { values = refl; choices = refl; places = refl; out = out })) refl

pub overflow_mul-result : goal.overflow_mul-result
overflow_mul-result c =
    let long : length c.args.soft.now ≡ 9216 = omega arith in
    let out : length c.args.fibs.now ≡ 384 = omega arith in
    omega (arith, few c.args.soft.now long c.process_fic.ensures (record { values = refl; choices = refl; places = refl; out = out }) _ c.unwrap-fic.ensures)

pub returns : goal.returns
returns c =
    let long : length c.args.soft.now ≡ 9216 = omega arith in
    let out : length c.args.fibs.now ≡ 384 = omega arith in
    fibs_of_lem c.args.soft.now long c.process_fic.ensures (record { values = refl; choices = refl; places = refl; out = out }) _ c.unwrap-fic.ensures
