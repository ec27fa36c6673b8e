-- What the loop of `fec_packing::byte_of` keeps: the byte is the number of the values passed.
use Rattle.std.proofs.Common.{◌≡◌, take}
use Rattle.fec_packing.proofs.Bits.{number}
use Rattle.fec_packing.proofs.byte_of.Given as goal

abbrev pub invariant-loop-bit : goal.invariant-loop-bit
invariant-loop-bit l = l.byte ≡ number (take l.bit-index l.eight)
