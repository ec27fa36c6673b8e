-- Each promise admits one result.
-- Assumes nothing.
use mathlib.Core.Path.{◌≡◌, sym, ap, ◌∙◌}
use mathlib.Core.List.{List, ◌∷◌}
use Prim.Native.Nat.{ℕ, zero, suc}
use lib.ListN.{drop}
use lib.IntN.{ℤ}
use Rattle.spec_en300401.specs.Puncturing.{Region}
use Rattle.spec_trellis.specs.Trellis.{Ends}
use Rattle.refusal.specs.Outcome.{unless_refused}
use Rattle.fec_viterbi.proofs.Unique.{accepted_unique}
use Rattle.c_fec.specs.Decoders.{number_decoding, Untouched, Written, Decoder}
use Rattle.c_fec.specs.Depuncturing.{Filled}

pub filled_unique : {n need : ℕ} {profile : List Region} {soft before after after' : List ℤ} {k k' : ℕ} → Filled n need profile soft before after k → Filled n need profile soft before after' k' → (k ≡ k') × (after ≡ after')
filled_unique f g = (f.answer ∙ sym g.answer, f.places ∙ sym g.places)

pub record SameCall (k : ℕ) (words bits : List ℕ) (metrics : List ℤ) (k' : ℕ) (words' bits' : List ℕ) (metrics' : List ℤ) : Type 0 where
  pub number_is : k ≡ k'
  pub words_are : words ≡ words'
  pub bits_are : bits ≡ bits'
  pub metrics_are : metrics ≡ metrics'

module _ {ends : Ends} {xs : List ℤ} {words bits : List ℕ} {metrics : List ℤ} {ws bs ws' bs' : List ℕ} {ms ms' : List ℤ} where
  pub decoder_unique : {k k' : ℕ} → Decoder ends xs words bits metrics k ws bs ms → Decoder ends xs words bits metrics k' ws' bs' ms' → SameCall k ws bs ms k' ws' bs' ms'
  decoder_unique {k} {k'} f g = go (number_decoding xs words bits metrics) f.left g.left
    where
      number-one : k ≡ k'
      number-one = f.answer ∙ sym g.answer

      go : (n : ℕ) → unless_refused n (Written ends xs words bits metrics ws bs ms) (Untouched words bits metrics ws bs ms) → unless_refused n (Written ends xs words bits metrics ws' bs' ms') (Untouched words bits metrics ws' bs' ms') → SameCall k ws bs ms k' ws' bs' ms'
      go zero x y =
          let same = accepted_unique x.decoded y.decoded in
          record { number_is = number-one; words_are = same.words_are; bits_are = same.bits_are; metrics_are = x.metrics_are ∙ ap (λ (m : ℤ). m ∷ drop 1 metrics) same.metric_is ∙ sym y.metrics_are }
      go (suc n) x y = record { number_is = number-one; words_are = x.words_are ∙ sym y.words_are; bits_are = x.bits_are ∙ sym y.bits_are; metrics_are = x.metrics_are ∙ sym y.metrics_are }
