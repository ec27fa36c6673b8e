-- Where a frame's bits are in the sender's CIFs.
-- Assumes nothing.
use mathlib.Core.Path.{◌≡◌, ap, ap₂, ◌∙◌}
use mathlib.Core.Bool.{Bool, cond}
use mathlib.Core.List.{List}
use Prim.Native.Nat.{ℕ, ◌+◌, ◌*◌, ◌-◌, ◌<◌}
use native.Mathlib.Omega.{arith}
use borrow.Author.Tests.{le-leb, lt-ltb}
use lib.ListN.{length, get_or}
use Rattle.spec_en300401.specs.Interleaving.{delay, cif_bits}
use Rattle.spec_en300401.specs.Puncturing.{mask, kept_size}
use Rattle.spec_en300401.proofs.Interleaving.{interleaved-at}
use Rattle.fec_protection.specs.declared.Description.{Description}
use Rattle.fec_protection.specs.Refusals.{profile_of, Accepted}
use Rattle.fec_protection.proofs.Accepted.{word_length, kept-fits, values-inside}
use Rattle.spec_sender.specs.Coding.{message, sent}
use Rattle.spec_sender.specs.Msc.{Sender, IsFrame, channel_bits, frame_sent, frame_bit, sent_bit, place_of, cif_bit}
use Rattle.spec_sender.proofs.Coding.{message-length, mask-length, sent-length, padded-length, padded_front}

-- the sub-channel's bits stand at its place of the sender's CIF
pub own_bit : (d : Description) (s : Sender) (r i : ℕ) → i < channel_bits d → cif_bit d s r (place_of d i) ≡ sent_bit d s r i
unfolding cif_bit place_of
own_bit d s r i l =
    let start : ℕ = 64 * d.start_addr in
    let other : ℕ = s.others r (start + i) in
    ap₂ (λ (a b : Bool). cond a (cond b (sent_bit d s r (start + i - (start + 0))) other) other) (le-leb (start + 0) (start + i) (omega arith)) (lt-ltb (start + i) (start + channel_bits d) (omega arith))
    ∙ ap (sent_bit d s r) (omega arith)

module _ (d : Description) (ok : Accepted d) where
  -- and that place is within the CIF
  pub place_inside : (i : ℕ) → i < channel_bits d → place_of d i < cif_bits
  unfolding place_of
  place_inside i l = omega (arith, values-inside d ok)

  -- a frame of the description
  module _ {frame : List ℕ} (is : IsFrame d frame) where
    pub frame_message_length : length (message frame) ≡ 24 * d.bitrate
    frame_message_length = message-length frame ∙ omega (arith, is.size)

    profile_fits : length (mask (profile_of d)) ≡ 4 * (8 * length frame + 6)
    profile_fits = word_length d ok ∙ omega (arith, is.size)

    pub frame_mask_length : length (mask (profile_of d)) ≡ 4 * (length (message frame) + 6)
    frame_mask_length = mask-length (profile_of d) frame profile_fits

    pub frame_sent-length : length (sent (profile_of d) frame) ≡ kept_size (profile_of d)
    frame_sent-length = sent-length (profile_of d) frame profile_fits

    -- it fills the sub-channel
    pub frame_fills : length (frame_sent d frame) ≡ channel_bits d
    unfolding frame_sent
    frame_fills = padded-length (channel_bits d) (sent (profile_of d) frame) (omega (arith, frame_sent-length, kept-fits d ok))

  -- bit i of frame r is sent in CIF r + delay i
  module _ (s : Sender) (r : ℕ) where
    pub bit_delayed : (i : ℕ) → sent_bit d s (r + delay i) i ≡ frame_bit d s r i
    unfolding sent_bit
    bit_delayed i = interleaved-at 0 (frame_bit d s) r i

    pub sent_in_lem : IsFrame d (s.frames r) → (i : ℕ) → i < kept_size (profile_of d) → sent_bit d s (r + delay i) i ≡ get_or (sent (profile_of d) (s.frames r)) i 0
    unfolding frame_bit frame_sent
    sent_in_lem is i l = bit_delayed i ∙ padded_front (channel_bits d) (sent (profile_of d) (s.frames r)) i (omega (arith, frame_sent-length is))
