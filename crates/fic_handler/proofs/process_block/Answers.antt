-- What the three steps leave, put together.
use Rattle.std.proofs.Common.{sym, subst}
use Rattle.laws.specs.Bits.{AreBits}
use Rattle.fic_handler.specs.Blocks.{fic_buffers}
use Rattle.fic_handler.proofs.Blocks.{data_front, data_are, block_done}
use Rattle.fic_handler.proofs.process_block.Goals as goal

pub keep_fibs-passed-requires-clause-are_bits : goal.keep_fibs-passed-requires-clause-are_bits
keep_fibs-passed-requires-clause-are_bits c = let b = c.decode_block-quality.ensures in subst AreBits (sym (data_front b)) (data_are b.decodes)

pub returns : goal.returns
returns c =
    let a = c.args in
    let dep = c.depuncture_fic in
    let decoded = c.decode_block-quality in
    let kept = c.keep_fibs-passed in
    block_done a.block.now (fic_buffers a.depunctured.now a.words.now a.bits.now a.fibs.now) (fic_buffers dep.new.out decoded.new.words decoded.new.bits kept.new.fibs) dep.result decoded.result kept.result c.told-depunctured
    dep.ensures decoded.ensures kept.ensures
