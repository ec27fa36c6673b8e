-- Document 01, "Room" and "The numbers that turn a caller away": the state, the needed lengths, refusals 8 to 10, and the state after a call.
use Rattle.std.specs.Prelude.{Bool, false, cond, List, [], ◌∷◌, ℕ, ◌+◌, ◌*◌, ◌%◌, ◌≤◌, min, ltb, leb}
use Rattle.spec_en300401.specs.Interleaving.{cif_bits, symbol_bits}
use Rattle.fec_protection.specs.declared.Description.{Description}
use Rattle.fec_protection.specs.Refusals.{refusal_of, is_refused, depunctured_length}
use Rattle.refusal.specs.Outcome.{check, first_of, any_of}
use Rattle.msc_state.specs.declared.Channel.{Channel}
use Rattle.msc_state.specs.declared.Lengths.{Lengths}
use Rattle.msc_state.specs.declared.State.{State}

-- symbols above 17, CIF in frame above 3, ring index above 15, count above 17, or a description refused by 1 to 7
abbrev pub faults : State → List Bool
faults s = ltb 17 s.symbols ∷ ltb 3 s.cif_in_frame ∷ ltb 15 s.channel.ring_index ∷ ltb 17 s.channel.cif_count ∷ is_refused s.channel.description ∷ []

unfoldable pub bad_state : State → Bool
bad_state s = any_of (faults s)

-- the sub-channel's values in a CIF; the ring's sixteen times as many; the bytes of a frame
abbrev pub values_of : Description → ℕ
values_of d = 64 * d.sub_size

abbrev pub ring_length : Description → ℕ
ring_length d = 1024 * d.sub_size

abbrev pub frame_length : Description → ℕ
frame_length d = 3 * d.bitrate

-- 24 × bitrate bits, and the six of the tail: one step each
abbrev pub steps_of : ℕ → ℕ
steps_of rate = 24 * rate + 6

-- a buffer is shorter than the description needs, one flag for each
abbrev pub shortages : Description → Lengths → List Bool
shortages d l =
    ltb l.cif cif_bits ∷ ltb l.ring (ring_length d) ∷ ltb l.deinterleaved (values_of d) ∷ ltb l.depunctured (depunctured_length d) ∷ ltb l.words (steps_of d.bitrate) ∷ ltb l.bits (steps_of d.bitrate) ∷ ltb l.frame (frame_length d) ∷ []

unfoldable pub is_too_short : Description → Lengths → Bool
is_too_short d l = any_of (shortages d l)

-- each is long enough
pub record LongEnough (d : Description) (l : Lengths) : Type 0 where
  pub cif_long : cif_bits ≤ l.cif
  pub ring_long : ring_length d ≤ l.ring
  pub read_long : values_of d ≤ l.deinterleaved
  pub soft_long : depunctured_length d ≤ l.depunctured
  pub words_long : steps_of d.bitrate ≤ l.words
  pub bits_long : steps_of d.bitrate ≤ l.bits
  pub frame_long : frame_length d ≤ l.frame

-- set-up: 1 to 7, then 8
abbrev pub set_up_checks : Description → ℕ → List ℕ
set_up_checks d ring = refusal_of d ∷ check 8 (ltb ring (ring_length d)) ∷ []

unfoldable pub set_up_refusal : Description → ℕ → ℕ
set_up_refusal d ring = first_of (set_up_checks d ring)

-- reset: 10, 8
abbrev pub reset_checks : State → ℕ → List ℕ
reset_checks s ring = check 10 (bad_state s) ∷ check 8 (ltb ring (ring_length s.channel.description)) ∷ []

unfoldable pub reset_refusal : State → ℕ → ℕ
reset_refusal s ring = first_of (reset_checks s ring)

-- feeding, by the symbol's length and those of the buffers: 10, 8, 9
abbrev pub feed_checks : State → ℕ → Lengths → List ℕ
feed_checks s soft l = check 10 (bad_state s) ∷ check 8 (is_too_short s.channel.description l) ∷ check 9 (ltb soft symbol_bits) ∷ []

unfoldable pub feed_refusal : State → ℕ → Lengths → ℕ
feed_refusal s soft l = first_of (feed_checks s soft l)

-- nothing counted yet, with this ring index and CIF in frame; a fresh state has 0 for both
unfoldable pub started_at : Description → ℕ → ℕ → State
started_at d x f = record { symbols = 0; cif_in_frame = f; channel = record { description = d; ring_index = x; cif_count = 0; frames_decoded = 0 } }

abbrev pub fresh_state : Description → State
fresh_state d = started_at d 0 0

abbrev pub no_description : Description
no_description = record { start_addr = 0; sub_size = 0; bitrate = 0; protection_level = 0; eep_option = 0; is_eep = false }

-- the symbol is the last of a CIF
abbrev pub whole : State → Bool
whole s = leb 17 s.symbols

-- sixteen CIFs went before, so a whole CIF gives a frame
abbrev pub due : Channel → Bool
due c = leb 16 c.cif_count

-- the largest number of frames
abbrev pub most_frames : ℕ
most_frames = 18446744073709551615

-- after a whole CIF: the index moves on modulo 16, the count is held at 17, the frames at the largest number
unfoldable pub channel_after : Channel → Channel
channel_after c =
    record {
      description = c.description;
      ring_index = (c.ring_index + 1) % 16;
      cif_count = min 17 (c.cif_count + 1);
      frames_decoded = cond (due c) (min most_frames (c.frames_decoded + 1)) c.frames_decoded;
    }

-- after a symbol
unfoldable pub state_after : State → State
state_after s =
    cond (whole s) (record { symbols = 0; cif_in_frame = (s.cif_in_frame + 1) % 4; channel = channel_after s.channel })
    (record { symbols = s.symbols + 1; cif_in_frame = s.cif_in_frame; channel = s.channel })
