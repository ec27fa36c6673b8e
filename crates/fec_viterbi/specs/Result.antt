-- Document 01, "viterbi.rs": what decoding some soft values gives, as lists alone, for the crates that call the decoders.
use Rattle.std.specs.Prelude.{◌≡◌, Bool, List, map, reverse, ℕ, ◌<◌, length, get_or, ℤ, ◌-ℤ◌}
use Rattle.spec_trellis.specs.Trellis.{bit_n, score_of, Ends, Best, Subtracted}
use Rattle.fec_viterbi.specs.Decoders.{Choices}

-- n steps of soft values decode to these bits, the oldest first, with this metric
pub record Decodes (ends : Ends) (xs : List ℤ) (n : ℕ) (bits : List ℕ) (metric : ℤ) : Type 0 where
  pub start : ℕ
  pub path : List Bool
  pub best : Best xs n ends start path
  pub bits_are : bits ≡ reverse (map bit_n path)
  pub total : ℤ
  pub subtracted : Subtracted xs n total
  pub metric_is : metric ≡ score_of xs start path -ℤ total

-- the words of n steps' choices
pub record ChoiceWords (xs : List ℤ) (n : ℕ) (words : List ℕ) : Type 0 where
  pub long : length words ≡ n
  pub each : (t : ℕ) → t < n → Choices xs t (get_or words t 0)
