-- `fec_packing::byte_of` meets its contract: the byte is the number of the values passed.
-- Assumes nothing.
use mathlib.Core.Path.{refl, ◌∙◌}
use native.Mathlib.Omega.{arith}
use lib.ListN.{length-take, take, get_or}
use Rattle.laws.specs.Bits.{num_of}
use Rattle.fec_packing.proofs.Bits.{number_more, number_small, as_bit-lt, flag_is}
use Rattle.fec_packing.proofs.byte_of.Goals as goal

pub loop-bit-init : goal.loop-bit-init
unfolding num_of
loop-bit-init c = refl

pub overflow_mul-byte : goal.overflow_mul-byte
overflow_mul-byte c = omega (arith, number_small (take c.loop-bit.bit-index c.args.eight.now) (omega (arith, length-take c.loop-bit.bit-index c.args.eight.now)))

pub overflow_add-byte : goal.overflow_add-byte
overflow_add-byte c =
    let xs = c.args.eight.now in
    let i = c.loop-bit.bit-index in
    omega (arith, number_small (take i xs) (omega (arith, length-take i xs)), c.from.ensures ∙ flag_is (get_or xs i 0), as_bit-lt (get_or xs i 0))

pub loop-bit-preserved : goal.loop-bit-preserved
loop-bit-preserved c =
    let xs = c.args.eight.now in
    let i = c.loop-bit.bit-index in
    omega (arith, number_more xs i (omega arith), c.from.ensures ∙ flag_is (get_or xs i 0))
