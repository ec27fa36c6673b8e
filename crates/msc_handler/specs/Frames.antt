-- Document 01, "msc/mod.rs" and "Quality": from depunctured values to the bytes of a frame and its percentage.
use Rattle.std.specs.Prelude.{◌≡◌, List, ◌++◌, ℕ, ◌+◌, ◌*◌, ◌≤◌, length, take, drop, ℤ, Float}
use Rattle.spec_en300401.specs.Bytes.{bytes_of_bits}
use Rattle.spec_en300401.specs.Dispersal.{disperse}
use Rattle.spec_trellis.specs.Trellis.{Ends}
use Rattle.msc_state.specs.States.{steps_of}
use Rattle.fec_quality.specs.Figures.{sum_abs, percent_of}
use Rattle.fec_viterbi.specs.Result.{Decodes, ChoiceWords}

-- the first 24 × bitrate of the decoded bits, dispersed afresh
abbrev pub frame_bits : ℕ → List ℕ → List ℕ
frame_bits rate decoded = disperse (take (24 * rate) decoded)

-- what depunctured values make of the words, the bits and the frame, each before the rest as it was: the choices; the dispersed bits and the six tail bits as decoded; 3 × bitrate bytes
pub record Framed (ends : Ends) (rate : ℕ) (soft : List ℤ) (words bits frame : List ℕ) (percent : Float) (words' bits' frame' : List ℕ) : Type 0 where
  pub decoded : List ℕ
  pub metric : ℤ
  pub choices : List ℕ
  pub decodes : Decodes ends soft (steps_of rate) decoded metric
  pub chosen : ChoiceWords soft (steps_of rate) choices
  pub percent_is : percent ≡ percent_of metric (sum_abs soft)
  pub words_are : words' ≡ choices ++ drop (steps_of rate) words
  pub bits_are : bits' ≡ frame_bits rate decoded ++ (drop (24 * rate) decoded ++ drop (steps_of rate) bits)
  pub frame_is : frame' ≡ bytes_of_bits (frame_bits rate decoded) ++ drop (3 * rate) frame

-- buffers long enough for a frame, and no more steps than a decoder takes
pub record FrameLongEnough (rate : ℕ) (soft : List ℤ) (words bits frame : List ℕ) : Type 0 where
  pub soft_long : length soft ≡ 96 * rate + 24
  pub few : steps_of rate ≤ 65536
  pub words_long : steps_of rate ≤ length words
  pub bits_long : steps_of rate ≤ length bits
  pub frame_long : 3 * rate ≤ length frame
