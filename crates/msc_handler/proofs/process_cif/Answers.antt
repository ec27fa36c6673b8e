use Rattle.msc_handler.specs.Memory.{buffers_in}
use Rattle.msc_handler.proofs.Feeding.{lent_on}
use Rattle.msc_handler.proofs.process_cif.Goals as goal

pub decode_frame-percent-requires : goal.decode_frame-percent-requires
decode_frame-percent-requires c = lent_on c.args.channel (buffers_in c.args.memory.now) c.rotate.ensures.promise c.requires.frame
