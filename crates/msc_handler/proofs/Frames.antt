-- From what the callees leave to a frame, its words and its bits; and that there is one frame only.
-- Assumes nothing.
use mathlib.Core.Path.{◌≡◌, sym, ap, ap₂, ◌∙◌, subst}
use mathlib.Core.List.{List, ◌++◌}
use Prim.Native.Nat.{ℕ, ◌*◌, ◌/◌, ◌≤◌}
use native.Mathlib.Omega.{arith}
use lib.ListN.{length, take, drop}
use lib.Seq.{length-take-le, take-append-le, drop-append-le}
use lib.IntN.{ℤ}
use lib.Ieee.{Float}
use Rattle.laws.specs.Bits.{AreBits}
use Rattle.laws.proofs.Bits.{below-take}
use Rattle.spec_en300401.specs.Bytes.{bytes_of_bits}
use Rattle.spec_en300401.specs.Dispersal.{disperse}
use Rattle.spec_trellis.specs.Trellis.{Ends}
use Rattle.spec_en300401.proofs.Dispersal.{disperse-length, disperse-bits}
use Rattle.fec_packing.specs.Bytes.{bytes_of, packed}
use Rattle.fec_packing.proofs.Answers.{packed-is}
use Rattle.fec_packing.proofs.Bits.{bytes_of-bits}
use Rattle.std.specs.Prelude.{Result, Ok}
use Rattle.refusal.specs.Outcome.{told}
use Rattle.refusal.specs.declared.Refusal.{Refusal}
use Rattle.fec_quality.specs.Figures.{sum_abs, percent_of, quality_of, measured}
use Rattle.fec_quality.specs.declared.Quality.{Quality}
use Rattle.fec_quality.proofs.Answers.{is-measured}
use Rattle.fec_viterbi.specs.Decoders.{steps, Decoded}
use Rattle.fec_viterbi.specs.declared.Score.{Score}
use Rattle.fec_viterbi.proofs.Result.{Left, Finished, finished, bits-one, metric-one, words-one, decoded-length, decoded-bits}
use Rattle.msc_handler.specs.Frames.{frame_bits, Framed, FrameLongEnough}
use Rattle.msc_state.specs.States.{steps_of}

-- what is packed, where it fits
pack_fits : (xs out : List ℕ) (k : ℕ) → length xs / 8 ≡ k → k ≤ length out → packed xs out ≡ bytes_of xs ++ drop k out
pack_fits xs out k e h = packed-is xs out (omega arith) ∙ ap (λ (m : ℕ). bytes_of xs ++ drop m out) e

same_ok : {A : Type 0} {x y : A} → ◌≡◌ {A = Result A Refusal} (Ok x) (Ok y) → x ≡ y
same_ok e = cc

module _ {rate : ℕ} {soft : List ℤ} {words bits frame : List ℕ} (fits_in : FrameLongEnough rate soft words bits frame) where
  steps-are : steps soft ≡ steps_of rate
  steps-are = omega (arith, fits_in.soft_long)

  -- so many values are decoded and measured
  pub ended : {ends : Ends} (r : Result Score Refusal) {words' bits' : List ℕ} → Decoded ends soft words bits (told r) words' bits' → Finished ends soft words bits r words' bits'
  ended r d = finished r (omega (arith, fits_in.few, steps-are)) (omega (arith, fits_in.words_long, steps-are)) (omega (arith, fits_in.bits_long, steps-are)) d

  pub weighed : (q : Result Quality Refusal) (m : ℤ) → told q ≡ measured m soft → q ≡ Ok (quality_of m soft)
  weighed q m e = is-measured q m soft (omega (arith, fits_in.few, steps-are)) e

  -- the bits from the front of the buffer: those of the frame, and the rest
  module _ (decoded bits₁ : List ℕ) {front : List ℕ} (long : length decoded ≡ steps_of rate) (is : bits₁ ≡ decoded ++ drop (steps_of rate) bits) (e : front ≡ disperse (take (24 * rate) bits₁)) where
    front_is : front ≡ frame_bits rate decoded
    front_is = e ∙ ap disperse (ap (take (24 * rate)) is ∙ take-append-le (24 * rate) decoded (drop (steps_of rate) bits) (omega arith))

    front_long : length front ≡ (24 * rate)
    front_long = ap length front_is ∙ disperse-length (take (24 * rate) decoded) ∙ length-take-le (24 * rate) decoded (omega arith)

    bits-after : front ++ drop (24 * rate) bits₁ ≡ frame_bits rate decoded ++ (drop (24 * rate) decoded ++ drop (steps_of rate) bits)
    bits-after = ap₂ (λ (a b : List ℕ). a ++ b) front_is (ap (drop (24 * rate)) is ∙ drop-append-le (24 * rate) decoded (drop (steps_of rate) bits) (omega arith))

    frame-after : AreBits decoded → packed front frame ≡ bytes_of_bits (frame_bits rate decoded) ++ drop (3 * rate) frame
    frame-after h =
        pack_fits front frame (3 * rate) (omega (arith, front_long)) fits_in.frame_long
        ∙ ap (λ (xs : List ℕ). bytes_of xs ++ drop (3 * rate) frame) front_is
        ∙ ap (λ (bytes : List ℕ). bytes ++ drop (3 * rate) frame) (bytes_of-bits (frame_bits rate decoded) (disperse-bits (below-take (24 * rate) h)))

  -- what decoding, measuring, dispersing and packing leave
  pub framed_by : {ends : Ends} (r : Result Score Refusal) (q : Result Quality Refusal) {score : Score} {quality : Quality} (words₁ bits₁ : List ℕ) {front frame' : List ℕ}
      → Decoded ends soft words bits (told r) words₁ bits₁ → r ≡ Ok score → told q ≡ measured score.metric soft → q ≡ Ok quality → front ≡ disperse (take (24 * rate) bits₁)
      → frame' ≡ packed front frame → Framed ends rate soft words bits frame quality.percent words₁ (front ++ drop (24 * rate) bits₁) frame'
  framed_by {ends} r q {score} {quality} words₁ bits₁ {front} {frame'} d o m p f pk =
      let done = ended r d in
      let one : score.metric ≡ done.metric = ap (λ (x : Score). x.metric) (same_ok (sym o ∙ done.done_is)) in
      let same : quality ≡ quality_of score.metric soft = same_ok (sym p ∙ weighed q score.metric m) in
      let left : Left ends soft (steps_of rate) words bits done.metric words₁ bits₁ = subst (λ (n : ℕ). Left ends soft n words bits done.metric words₁ bits₁) steps-are done.left in
      let long = decoded-length left.decodes in
      record {
        decoded = left.decoded;
        metric = done.metric;
        choices = left.choices;
        decodes = left.decodes;
        chosen = left.chosen;
        percent_is = ap (λ (x : Quality). x.percent) same ∙ ap (λ (m : ℤ). percent_of m (sum_abs soft)) one;
        words_are = left.words_are;
        bits_are = bits-after left.decoded bits₁ long left.bits_are f;
        frame_is = pk ∙ frame-after left.decoded bits₁ long left.bits_are f (decoded-bits left.decodes);
      }

-- two frames of the same values are one
pub record SameFrame (percent percent₂ : Float) (words bits frame words₂ bits₂ frame₂ : List ℕ) : Type 0 where
  pub percent_one : percent ≡ percent₂
  pub words-one : words ≡ words₂
  pub bits-one : bits ≡ bits₂
  pub frame-one : frame ≡ frame₂

pub framed_unique : {ends : Ends} {rate : ℕ} {soft : List ℤ} {words bits frame : List ℕ} {p p₂ : Float} {w b f w₂ b₂ f₂ : List ℕ}
    → Framed ends rate soft words bits frame p w b f → Framed ends rate soft words bits frame p₂ w₂ b₂ f₂ → SameFrame p p₂ w b f w₂ b₂ f₂
framed_unique {rate = rate} {soft} {words} {bits} {frame} x y =
    let d : x.decoded ≡ y.decoded = bits-one x.decodes y.decodes in
    record {
      percent_one = x.percent_is ∙ ap (λ (m : ℤ). percent_of m (sum_abs soft)) (metric-one x.decodes y.decodes) ∙ sym y.percent_is;
      words-one = x.words_are ∙ ap (λ (c : List ℕ). c ++ drop (steps_of rate) words) (words-one x.chosen y.chosen) ∙ sym y.words_are;
      bits-one = x.bits_are ∙ ap (λ (c : List ℕ). frame_bits rate c ++ (drop (24 * rate) c ++ drop (steps_of rate) bits)) d ∙ sym y.bits_are;
      frame-one = x.frame_is ∙ ap (λ (c : List ℕ). bytes_of_bits (frame_bits rate c) ++ drop (3 * rate) frame) d ∙ sym y.frame_is;
    }
