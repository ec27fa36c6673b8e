-- Document 01, "What the receiver owes": the promise of feeding a symbol.
use Rattle.std.specs.Prelude.{◌≡◌, Bool, true, false, List, ◌++◌, ℕ, ◌*◌, length, drop, ℤ, Float}
use Rattle.spec_en300401.specs.Puncturing.{mask, depuncture}
use Rattle.fec_protection.specs.declared.Description.{Description}
use Rattle.fec_protection.specs.Refusals.{profile_of, depunctured_length}
use Rattle.refusal.specs.Outcome.{Outcome, gives, refuses, outcome, numbered}
use Rattle.fec_viterbi.specs.Decoders.{ends_of}
use Rattle.msc_handler.specs.declared.Answer.{Answer}
use Rattle.msc_handler.specs.declared.Answer.TheVariants.{Waiting, Frame, Refused}
use Rattle.msc_state.specs.declared.Channel.{Channel}
use Rattle.msc_handler.specs.declared.Fed.{Fed}
use Rattle.msc_state.specs.declared.Lengths.{Lengths}
use Rattle.msc_state.specs.declared.State.{State}
use Rattle.msc_handler.specs.Frames.{Framed}
use Rattle.msc_handler.specs.Ring.{stored, part, read_out, refilled}
use Rattle.msc_state.specs.States.{values_of, feed_refusal, whole, due, state_after}

-- what a symbol that is taken gives: nothing yet; or a frame, with its byte count and percentage
pub data Given : Type 0 where
  waiting : Given
  framed : ℕ → Float → Given

-- what an answer says: that, or document 01's number
abbrev pub Said : Type 0
Said = Outcome Given

abbrev pub said_of : Answer → Said
said_of Waiting = gives waiting
said_of (Frame n p) = gives (framed n p)
said_of (Refused r) = refuses (numbered r)

-- the caller's seven buffers
pub record Buffers : Type 0 where
  pub cif : List ℤ
  pub ring : List ℤ
  pub deinterleaved : List ℤ
  pub depunctured : List ℤ
  pub words : List ℕ
  pub bits : List ℕ
  pub frame : List ℕ

abbrev pub buffers : List ℤ → List ℤ → List ℤ → List ℤ → List ℕ → List ℕ → List ℕ → Buffers
buffers c r i p w b f = record { cif = c; ring = r; deinterleaved = i; depunctured = p; words = w; bits = b; frame = f }

abbrev pub lengths_of : Buffers → Lengths
lengths_of b =
    record {
      cif = length b.cif;
      ring = length b.ring;
      deinterleaved = length b.deinterleaved;
      depunctured = length b.depunctured;
      words = length b.words;
      bits = length b.bits;
      frame = length b.frame;
    }

-- the number of a call's first refusal
abbrev pub refusal_in : State → List ℤ → Buffers → ℕ
refusal_in s soft b = feed_refusal s (length soft) (lengths_of b)

-- what a symbol that is taken does: it is one in the middle of a CIF, or makes a CIF whole
pub data Step : Type 0 where
  gathers : Step
  completes : Step

abbrev pub step_of : Bool → Step
step_of false = gathers
step_of true = completes

-- what a call comes to: that, or a refusal
abbrev pub Turn : Type 0
Turn = Outcome Step

unfoldable pub turn_of : State → List ℤ → Buffers → Turn
turn_of s soft b = outcome (refusal_in s soft b) (step_of (whole s))

-- the sub-channel's own slice of a CIF
abbrev pub slice_of : Description → List ℤ → List ℤ
slice_of d cif = part cif (64 * d.start_addr) (values_of d)

-- what a whole CIF reads of the ring
abbrev pub delayed : Channel → List ℤ → List ℤ
delayed c ring = read_out ring (values_of c.description) c.ring_index

-- the symbol in its place of the CIF store
abbrev pub gathered : State → List ℤ → Buffers → Buffers
gathered s soft b = buffers (stored b.cif s.symbols soft) b.ring b.deinterleaved b.depunctured b.words b.bits b.frame

-- a whole CIF: its slice into the ring, and what was read before it into the front of `deinterleaved`
abbrev pub rotated : Channel → Buffers → Buffers
rotated c b =
    buffers b.cif (refilled b.ring (values_of c.description) c.ring_index (slice_of c.description b.cif))
    (delayed c b.ring ++ drop (values_of c.description) b.deinterleaved) b.depunctured b.words b.bits b.frame

-- the depunctured values of what was read
abbrev pub depunctured_of : Channel → List ℤ → List ℤ
depunctured_of c ring = depuncture (mask (profile_of c.description)) (delayed c ring)

-- a whole CIF in b gives a frame
pub record FramePromise (c : Channel) (b : Buffers) (said : Said) (b' : Buffers) : Type 0 where
  pub percent : Float
  pub words' : List ℕ
  pub bits' : List ℕ
  pub frame' : List ℕ
  pub framing : Framed (ends_of c.description.is_eep) c.description.bitrate (depunctured_of c b.ring) b.words b.bits b.frame percent words' bits' frame'
  pub answer : said ≡ gives (framed (3 * c.description.bitrate) percent)
  pub buffers_are : b' ≡ buffers (rotated c b).cif (rotated c b).ring (rotated c b).deinterleaved (depunctured_of c b.ring ++ drop (depunctured_length c.description) b.depunctured) words' bits' frame'

-- a whole CIF in b: of the first sixteen, only the ring and `deinterleaved` change
unfoldable pub Completed : Bool → Channel → Buffers → Said → Buffers → Type 0
Completed false c b said b' = (said ≡ gives waiting) × (b' ≡ rotated c b)
Completed true c b said b' = FramePromise c b said b'

abbrev pub CifPromise : Channel → Buffers → Said → Buffers → Type 0
CifPromise c b said b' = Completed (due c) c b said b'

-- what each turn leaves
unfoldable pub Feeds : Turn → State → List ℤ → Buffers → State → Said → Buffers → Type 0
Feeds (refuses n) s soft b s' said b' = (s' ≡ s) × (said ≡ refuses n) × (b' ≡ b)
Feeds (gives gathers) s soft b s' said b' = (s' ≡ state_after s) × (said ≡ gives waiting) × (b' ≡ gathered s soft b)
Feeds (gives completes) s soft b s' said b' = (s' ≡ state_after s) × CifPromise s.channel (gathered s soft b) said b'

pub record FeedPromise (s : State) (soft : List ℤ) (b : Buffers) (r : Fed) (b' : Buffers) : Type 0 where
  pub feeds : Feeds (turn_of s soft b) s soft b r.state (said_of r.answer) b'
