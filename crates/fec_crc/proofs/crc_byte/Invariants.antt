-- What the loop of `fec_crc::crc_byte` keeps: what is left of the byte's bits still goes in.
use Rattle.std.proofs.Common.{◌≡◌}
use Rattle.laws.specs.Bits.{bits_of}
use Rattle.spec_en300401.specs.Crc.{crc_from}
use Rattle.fec_crc.proofs.crc_byte.Given as goal

abbrev pub invariant-loop-place : goal.invariant-loop-place
invariant-loop-place l = crc_from l.start (bits_of 8 l.byte) ≡ crc_from l.reg (bits_of l.place l.byte)
