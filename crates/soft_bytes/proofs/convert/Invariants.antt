-- What the loop of `soft_bytes::convert` keeps: i values are converted, and the others are as they were.
use Rattle.std.proofs.Common.{◌≡◌, map}
use Rattle.std.proofs.Math.Seq.{paste}
use Rattle.soft_bytes.specs.Soft.{soft_of}
use Rattle.soft_bytes.proofs.convert.Given as goal

abbrev pub invariant-loop-i : goal.invariant-loop-i
invariant-loop-i l = l.soft ≡ paste l.initial.soft 0 (map soft_of l.bytes) l.i
