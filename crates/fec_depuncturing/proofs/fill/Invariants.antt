-- The places passed hold what is depunctured under the flags passed.
use Rattle.std.proofs.Common.{take}
use Rattle.std.specs.Slice.Iter.{iter_rest}
use Rattle.fec_depuncturing.specs.Code.{flags, Filled}
use Rattle.fec_depuncturing.proofs.fill.Given as goal

abbrev pub invariant-loop-j : goal.invariant-loop-j
invariant-loop-j l = Filled (flags (take l.j l.kept)) (iter_rest l.fn.values) l.fn.out l.out (iter_rest l.values)
