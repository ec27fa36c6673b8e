-- Region after region, and then the tail.
use Rattle.std.proofs.Common.{◌≡◌, ◌∙◌, ◌<◌, refl, sym, ap, arith, length, take}
use Rattle.std.proofs.lemmas.List.{take_all}
use Rattle.std.proofs.lemmas.List.Sums.{sum_by-take-le}
use Rattle.spec_en300401.specs.Puncturing.{tail_mask}
use Rattle.fec_profiles.specs.declared.Section.{Section}
use Rattle.fec_protection.specs.Code.{no_section}
use Rattle.fec_depuncturing.specs.Code.{flags}
use Rattle.fec_depuncturing.proofs.Fills.{part_length, filled_none, filled_on, flags_of_bits}
use Rattle.fec_depuncturing.proofs.Regions.{masks-tail, length-masks, four_blocks, masks_more, blocks_more, within}
use Rattle.fec_depuncturing.proofs.fill_profile.Goals as goal

pub loop-section-init : goal.loop-section-init
loop-section-init c =
    let four : length c.args.p.sections ≡ 4 = omega arith in
    record { filled = filled_none _ _; fits = omega (arith, c.requires.fits, four_blocks c.args.p.sections no_section four); there = refl }

-- the region at hand and the tail behind it have their room
pub fill_region-requires : goal.fill_region-requires
fill_region-requires c =
    let l = c.loop-section in
    let k = l.section-index in
    let h : k < length c.args.p.sections = omega arith in
    let room = within c.args.p.sections k no_section h in
    (omega (arith, part_length l.at l.out (omega (arith, room)), room), c.requires.vectors k)

pub overflow_add-at : goal.overflow_add-at
overflow_add-at c =
    let l = c.loop-section in
    let h : l.section-index < length c.args.p.sections = omega arith in
    record { fits = omega (arith, within c.args.p.sections l.section-index no_section h) }

pub loop-section-preserved : goal.loop-section-preserved
loop-section-preserved c =
    let l = c.loop-section in
    let ss = c.args.p.sections in
    let k = l.section-index in
    let h : k < length ss = omega arith in
    let room = within ss k no_section h in
    record {
      filled = rw (masks_more ss k no_section h) (filled_on l.invariant.filled l.at (l.invariant.there ∙ sym (length-masks (take k ss))) (omega (arith, room)) c.fill_region.ensures);
      fits = l.invariant.fits;
      there = omega (arith, blocks_more ss k no_section h);
    }

pub fill-requires : goal.fill-requires
fill-requires c =
    let l = c.loop-section in
    let all = sum_by-take-le (λ (s : Section). s.blocks) c.args.p.sections l.section-index in
    omega (arith, all, part_length l.at l.out (omega (arith, all)))

pub returns : goal.returns
returns c =
    let l = c.loop-section in
    let ss = c.args.p.sections in
    let all : take l.section-index ss ≡ ss = take_all l.section-index ss (omega arith) in
    let e : flags c.tail.result ≡ tail_mask = ap flags c.tail.ensures ∙ flags_of_bits tail_mask in
    let m = sum_by-take-le (λ (s : Section). s.blocks) ss l.section-index in
    let f = filled_on l.invariant.filled l.at (l.invariant.there ∙ sym (length-masks (take l.section-index ss))) (omega (arith, m)) (rw e at c.fill.ensures) in
    rw (all, masks-tail ss) at f
