-- What the caller's memory holds, and that it stays the same memory.
use Rattle.std.specs.Prelude.{◌≡◌}
use Rattle.msc_handler.specs.declared.Memory.{Memory}
use Rattle.msc_handler.specs.Promises.{Buffers, buffers}

-- the seven buffers behind the references
abbrev pub buffers_in : Memory → Buffers
buffers_in m = buffers m.cif.now m.ring.now m.deinterleaved.now m.depunctured.now m.words.now m.bits.now m.frame.now

-- each reference still is the one that was lent
pub record SameBuffers (m m' : Memory) : Type 0 where
  pub cif : m'.cif.ghost_name ≡ m.cif.ghost_name
  pub ring : m'.ring.ghost_name ≡ m.ring.ghost_name
  pub deinterleaved : m'.deinterleaved.ghost_name ≡ m.deinterleaved.ghost_name
  pub depunctured : m'.depunctured.ghost_name ≡ m.depunctured.ghost_name
  pub words : m'.words.ghost_name ≡ m.words.ghost_name
  pub bits : m'.bits.ghost_name ≡ m.bits.ghost_name
  pub frame : m'.frame.ghost_name ≡ m.frame.ghost_name
