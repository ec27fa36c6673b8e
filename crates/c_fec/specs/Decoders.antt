-- Document 01, "viterbi.rs" and its table of refusals: what a decoder returns and writes, the metric into a place of its own.
use Rattle.std.specs.Prelude.{◌≡◌, List, ◌∷◌, ℕ, length, drop, ℤ}
use Rattle.spec_trellis.specs.Trellis.{Ends}
use Rattle.refusal.specs.Outcome.{or_else, unless_refused}
use Rattle.fec_viterbi.specs.Decoders.{steps, decoder_refusal, Accepted}
use Rattle.c_description.specs.Places.{short}

-- 11, then 8: the words or the bits have fewer places than steps, or there is no place for the metric
unfoldable pub decoder_number : ℕ → ℕ → ℕ → ℕ → ℕ
decoder_number n words bits metrics = or_else (decoder_refusal n words bits) (short 1 metrics)

-- refused: nothing changed
pub record Untouched (words bits : List ℕ) (metrics : List ℤ) (words' bits' : List ℕ) (metrics' : List ℤ) : Type 0 where
  pub words_are : words' ≡ words
  pub bits_are : bits' ≡ bits
  pub metrics_are : metrics' ≡ metrics

-- done: decoded as the decoder promises, and its metric stands in the first place
pub record Written (ends : Ends) (xs : List ℤ) (words bits : List ℕ) (metrics : List ℤ) (words' bits' : List ℕ) (metrics' : List ℤ) : Type 0 where
  pub metric : ℤ
  pub decoded : Accepted ends xs (steps xs) words bits metric words' bits'
  pub metrics_are : metrics' ≡ metric ∷ drop 1 metrics

-- the number of a call
abbrev pub number_decoding : List ℤ → List ℕ → List ℕ → List ℤ → ℕ
number_decoding xs words bits metrics = decoder_number (steps xs) (length words) (length bits) (length metrics)

pub record Decoder (ends : Ends) (xs : List ℤ) (words bits : List ℕ) (metrics : List ℤ) (number : ℕ) (words' bits' : List ℕ) (metrics' : List ℤ) : Type 0 where
  pub answer : number ≡ number_decoding xs words bits metrics
  pub left : unless_refused (number_decoding xs words bits metrics) (Written ends xs words bits metrics words' bits' metrics') (Untouched words bits metrics words' bits' metrics')
