-- So many values are decoded and measured; the promise by what the callees leave.
use Rattle.std.proofs.Common.{arith, ◌≡◌, ◌*◌, ap, rules, SFits, w32, to_z-of_z}
use Rattle.std.specs.Result.{is_ok}
use Rattle.std.proofs.Math.Seq.{length-take-le}
use Rattle.refusal.proofs.Told.{is-ok}
use Rattle.fec_packing.proofs.Answers.{long_enough}
use Rattle.msc_handler.proofs.Frames.{ended, weighed, framed_by}
use Rattle.msc_handler.proofs.frame_of.Goals as goal

pub unwrap-score-requires : goal.unwrap-score-requires
unwrap-score-requires c = ap is_ok (ended c.requires _ c.decode.ensures).done_is

pub unwrap-quality-requires : goal.unwrap-quality-requires
unwrap-quality-requires c = ap is_ok (weighed c.requires _ _ c.measure.ensures)

pub unwrap-requires : goal.unwrap-requires
unwrap-requires c =
    let r = c.requires in
    let bits = c.decode.new.bits in
    let n : c.from.result ≡ c.args.d.bitrate = c.from.ensures in
    let part = length-take-le (24 * c.from.result) bits (omega (arith, r.bits_long, c.decode.auto.bits)) in
    ap is_ok (is-ok _ _ _ c.pack.ensures.answer (long_enough _ _ (omega (arith, r.frame_long, part, c.energy_dispersal.auto.bits))))

pub returns : goal.returns
returns c =
    let fits : SFits w32 c.unwrap-score.result.metric = search rules in
    rw c.from.ensures
    (framed_by c.requires _ _ c.decode.new.words c.decode.new.bits c.decode.ensures c.unwrap-score.ensures (rw (to_z-of_z fits) at c.measure.ensures) c.unwrap-quality.ensures (rw c.from.ensures at c.energy_dispersal.ensures) c.pack.ensures.bytes)
