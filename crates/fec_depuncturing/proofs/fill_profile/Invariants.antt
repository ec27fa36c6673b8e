-- The regions passed hold what is depunctured under their masks.
use Rattle.std.proofs.Common.{◌≡◌, ◌+◌, ◌*◌, ◌≤◌, length, take}
use Rattle.std.specs.List.{sum_by}
use Rattle.std.specs.Slice.Iter.{iter_rest}
use Rattle.fec_depuncturing.specs.Code.{Filled}
use Rattle.fec_depuncturing.proofs.Regions.{masks}
use Rattle.fec_depuncturing.proofs.fill_profile.Given as goal

abbrev pub invariant-loop-section : goal.invariant-loop-section
invariant-loop-section l =
    record {
      filled : Filled (masks (take l.section-index l.section-items)) (iter_rest l.fn.values) l.fn.out l.out (iter_rest l.values);
      fits : 128 * sum_by (λ s. s.blocks) l.section-items + 24 ≤ length l.fn.out;
      there : l.at ≡ 128 * sum_by (λ s. s.blocks) (take l.section-index l.section-items);
    }
