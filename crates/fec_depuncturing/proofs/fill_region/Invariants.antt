-- The sub-blocks passed hold what is depunctured under as many copies of the vector.
use Rattle.std.proofs.Common.{◌+◌}
use Rattle.std.specs.Slice.Iter.{iter_rest}
use Rattle.laws.specs.Lists.{copies}
use Rattle.spec_en300401.specs.Puncturing.{vector}
use Rattle.fec_depuncturing.specs.Code.{Filled}
use Rattle.fec_depuncturing.proofs.fill_region.Given as goal

abbrev pub invariant-loop-i : goal.invariant-loop-i
invariant-loop-i l = Filled (copies l.i (vector (l.fn.section.pi + 1))) (iter_rest l.fn.values) l.fn.out l.out (iter_rest l.values)
