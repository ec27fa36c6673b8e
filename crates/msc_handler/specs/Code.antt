-- What the private functions of the crate ask and leave: descriptions without refusal, and the needed lengths that document 01 names.
use Rattle.std.specs.Prelude.{◌≡◌, List, ◌++◌, ◌+◌, ◌<◌, ◌≤◌, length, take, drop, ℤ, Float}
use Rattle.spec_en300401.specs.Interleaving.{units, cif_bits}
use Rattle.spec_en300401.specs.Puncturing.{mask, depuncture}
use Rattle.fec_protection.specs.declared.Description.{Description}
use Rattle.fec_protection.specs.Refusals.{Accepted, profile_of, depunctured_length}
use Rattle.fec_viterbi.specs.Decoders.{ends_of}
use Rattle.msc_state.specs.declared.Channel.{Channel}
use Rattle.msc_handler.specs.Frames.{Framed}
use Rattle.msc_handler.specs.Promises.{Buffers, buffers}
use Rattle.msc_state.specs.States.{values_of, ring_length, frame_length, steps_of}

-- a CIF, a ring and a place for what is read
pub record RingLent (c : Channel) (b : Buffers) : Type 0 where
  pub index : c.ring_index < 16
  pub inside : c.description.start_addr + c.description.sub_size ≤ units
  pub cif_long : cif_bits ≤ length b.cif
  pub ring_long : ring_length c.description ≤ length b.ring
  pub read_long : values_of c.description ≤ length b.deinterleaved

-- what was read, and places for the rest
pub record FrameLent (d : Description) (b : Buffers) : Type 0 where
  pub none : Accepted d
  pub read_long : values_of d ≤ length b.deinterleaved
  pub soft_long : depunctured_length d ≤ length b.depunctured
  pub words_long : steps_of d.bitrate ≤ length b.words
  pub bits_long : steps_of d.bitrate ≤ length b.bits
  pub frame_long : frame_length d ≤ length b.frame

-- both: an accepted description, and all of the caller's buffers
pub record CifLent (c : Channel) (b : Buffers) : Type 0 where
  pub ring : RingLent c b
  pub frame : FrameLent c.description b

-- the depunctured values of what was read
abbrev pub values_in : Description → List ℤ → List ℤ
values_in d read = depuncture (mask (profile_of d)) (take (values_of d) read)

-- a frame of what was read: its values, and what they make of the words, the bits and the frame; the rest as it was
pub record FrameMade (d : Description) (b : Buffers) (percent : Float) (b' : Buffers) : Type 0 where
  pub framing : Framed (ends_of d.is_eep) d.bitrate (values_in d b.deinterleaved) b.words b.bits b.frame percent b'.words b'.bits b'.frame
  pub buffers_are : b' ≡ buffers b.cif b.ring b.deinterleaved (values_in d b.deinterleaved ++ drop (depunctured_length d) b.depunctured) b'.words b'.bits b'.frame
