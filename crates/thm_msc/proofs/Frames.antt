-- Values that agree with what was sent of a frame: decoded, dispersed and packed they are the frame.
-- Assumes nothing.
use mathlib.Core.Path.{◌≡◌, sym, ap, ◌∙◌, subst}
use mathlib.Core.List.{List, ◌++◌}
use Prim.Native.Nat.{ℕ, ◌+◌, ◌*◌, ◌<◌}
use lib.ListN.{get_or, take, drop}
use lib.IntN.{ℤ}
use lib.Ieee.{Float}
use Rattle.laws.specs.Integers.{at}
use Rattle.spec_en300401.specs.Bytes.{bytes_of_bits}
use Rattle.spec_trellis.specs.Clean.{Agrees}
use Rattle.spec_en300401.specs.Dispersal.{disperse}
use Rattle.spec_en300401.specs.Puncturing.{mask, kept_size, depuncture}
use Rattle.spec_trellis.specs.Trellis.{Ends}
use Rattle.fec_protection.specs.declared.Description.{Description}
use Rattle.fec_protection.specs.Refusals.{profile_of, Accepted}
use Rattle.spec_sender.specs.Coding.{message, sent}
use Rattle.spec_sender.specs.Msc.{IsFrame}
use Rattle.spec_sender.proofs.Coding.{message-bits, bytes_again}
use Rattle.spec_sender.proofs.Msc.{frame_message_length, frame_mask_length, frame_sent-length}
use Rattle.fec_viterbi.specs.Result.{Decodes}
use Rattle.fec_viterbi.proofs.Clean.{clean_decoded}
use Rattle.msc_handler.specs.Frames.{frame_bits, Framed}
use Rattle.msc_state.specs.States.{steps_of}

module _ (d : Description) (ok : Accepted d) {frame : List ℕ} (is : IsFrame d frame) (vs : List ℤ) (agree : (i : ℕ) → i < kept_size (profile_of d) → Agrees (at vs i) (get_or (sent (profile_of d) frame) i 0)) where
  -- the message, and then the tail
  decoded-is : {ends : Ends} {decoded : List ℕ} {metric : ℤ} → Decodes ends (depuncture (mask (profile_of d)) vs) (steps_of d.bitrate) decoded metric → take (24 * d.bitrate) decoded ≡ message frame
  unfolding sent
  decoded-is {ends} {decoded} {metric} x =
      let long = frame_message_length d ok is in
      ap (λ (n : ℕ). take n decoded) (sym long)
      ∙ clean_decoded (profile_of d) vs (message-bits frame) (frame_mask_length d ok is) (λ i l. agree i (subst (λ (n : ℕ). i < n) (frame_sent-length d ok is) l)) (ap (λ (n : ℕ). n + 6) (sym long)) x

  pub frame_back : {ends : Ends} {words bits old : List ℕ} {percent : Float} {words' bits' frame' : List ℕ} → Framed ends d.bitrate (depuncture (mask (profile_of d)) vs) words bits old percent words' bits' frame'
      → frame' ≡ frame ++ drop (3 * d.bitrate) old
  frame_back {old = old} f =
      let same : bytes_of_bits (frame_bits d.bitrate f.decoded) ≡ frame = ap (λ (m : List ℕ). bytes_of_bits (disperse m)) (decoded-is f.decodes) ∙ bytes_again frame is.are in
      f.frame_is ∙ ap (λ (r : List ℕ). r ++ drop (3 * d.bitrate) old) same
