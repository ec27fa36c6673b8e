-- What the loop of `fec_packing::pack` keeps: the first j bytes are those of the bits, and the others are as they were.
use Rattle.std.proofs.Common.{◌≡◌}
use Rattle.std.proofs.Math.Seq.{paste}
use Rattle.fec_packing.specs.Bytes.{bytes_of}
use Rattle.fec_packing.proofs.pack.Given as goal

abbrev pub invariant-loop-j : goal.invariant-loop-j
invariant-loop-j l = l.bytes ≡ paste l.initial.bytes 0 (bytes_of l.bits) l.j
