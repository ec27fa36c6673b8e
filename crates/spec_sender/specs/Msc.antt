-- Document 01, "Sender's model", and clauses 5.3, 11.3 and 12: what one sub-channel's sender puts into CIF r, for any sequence of frames.
use Rattle.std.specs.Prelude.{◌≡◌, cond, List, ℕ, ◌+◌, ◌*◌, ◌-◌, ltb, leb, length, get_or}
use Rattle.laws.specs.Bits.{AreBytes}
use Rattle.spec_en300401.specs.Interleaving.{interleaved, unit_bits}
use Rattle.fec_protection.specs.declared.Description.{Description}
use Rattle.fec_protection.specs.Refusals.{profile_of}
use Rattle.spec_sender.specs.Coding.{sent, padded}

-- a sender: its frames by their number, and what else is in its CIFs, by CIF and place
pub record Sender : Type 0 where
  pub frames : ℕ → List ℕ
  pub others : ℕ → ℕ → ℕ

-- these are a frame's bytes under a description: 3 for each kbit/s
pub record IsFrame (d : Description) (frame : List ℕ) : Type 0 where
  pub size : length frame ≡ 3 * d.bitrate
  pub are : AreBytes frame

-- how many bits the sub-channel has in each CIF
abbrev pub channel_bits : Description → ℕ
channel_bits d = unit_bits * d.sub_size

-- clause 11.3: a frame as it goes into the delays, punctured by the description's profile and padded to the sub-channel's bits
unfoldable pub frame_sent : Description → List ℕ → List ℕ
frame_sent d frame = padded (channel_bits d) (sent (profile_of d) frame)

-- bit i of frame r
unfoldable pub frame_bit : Description → Sender → ℕ → ℕ → ℕ
frame_bit d s r i = get_or (frame_sent d (s.frames r)) i 0

-- clause 12: bit i of the sub-channel in CIF r is of frame r - d(i mod 16); zero bits before the first frame
unfoldable pub sent_bit : Description → Sender → ℕ → ℕ → ℕ
sent_bit d s r i = interleaved 0 (frame_bit d s) r i

-- clause 5.3: the sub-channel begins at unit start_addr of the CIF
unfoldable pub place_of : Description → ℕ → ℕ
place_of d i = unit_bits * d.start_addr + i

-- bit p of CIF r: the sub-channel's own at its place, and others before and after it
unfoldable pub cif_bit : Description → Sender → ℕ → ℕ → ℕ
cif_bit d s r p = cond (leb (place_of d 0) p) (cond (ltb p (place_of d (channel_bits d))) (sent_bit d s r (p - place_of d 0)) (s.others r p)) (s.others r p)
