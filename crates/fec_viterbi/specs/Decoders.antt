-- Document 01, "viterbi.rs" and its table of refusals: what a decoder answers, and what the words and the bits hold after it.
use Rattle.std.specs.Prelude.{◌≡◌, Bool, true, false, List, [], ◌∷◌, ◌++◌, map, reverse, ℕ, suc, ◌+◌, ◌*◌, ◌/◌, ◌%◌, ◌^◌, ◌<◌, min, ltb, length, get_or, drop, Result, Ok, Err, ℤ, pos, ◌-ℤ◌}
use Rattle.spec_trellis.specs.Trellis.{bit_n, end_of, score_of, Ends, zero_end, free_end, Best, BestInto, Subtracted}
use Rattle.refusal.specs.Outcome.{Outcome, outcome, unless_refused, check, first_of}
use Rattle.refusal.specs.declared.Refusal.{Refusal}
use Rattle.fec_viterbi.specs.declared.Score.{Score}

-- whole steps: four soft values each, and one to three left over are ignored
abbrev pub steps : List ℤ → ℕ
steps xs = length xs / 4

-- the first refusal of a call with n steps, 0 for none: 11 above 65,536 steps, then 8 where the words or the bits have fewer elements than steps
unfoldable pub decoder_refusal : ℕ → ℕ → ℕ → ℕ
decoder_refusal n words bits = first_of (check 11 (ltb 65536 n) ∷ check 8 (ltb (min words bits) n) ∷ [])

-- an answer's metric; 0 where it refused
abbrev pub metric_of : Result Score Refusal → ℤ
metric_of (Ok s) = s.metric
metric_of (Err r) = pos 0

-- word t: bit s is 1 exactly when the best path of t + 1 steps into s comes from the higher predecessor
pub record Choices (xs : List ℤ) (t word : ℕ) : Type 0 where
  pub word_lt : word < 2 ^ 64
  pub took : (s : ℕ) → s < 64 → (a : ℕ) (b : Bool) (bs : List Bool) → BestInto xs (suc t) s a (b ∷ bs) → end_of a bs ≡ s / 2 + 32 * (word / 2 ^ s % 2)

-- what n decoded steps leave: the bits of the permitted path that every other one loses to, the oldest first; its score less the total subtracted; the choices; and the rest as it was
pub record Accepted (ends : Ends) (xs : List ℤ) (n : ℕ) (words bits : List ℕ) (metric : ℤ) (words' bits' : List ℕ) : Type 0 where
  pub start : ℕ
  pub path : List Bool
  pub best : Best xs n ends start path
  pub bits_are : bits' ≡ reverse (map bit_n path) ++ drop n bits
  pub total : ℤ
  pub subtracted : Subtracted xs n total
  pub metric_is : metric ≡ score_of xs start path -ℤ total
  pub size : length words' ≡ length words
  pub words_are : (t : ℕ) → t < n → Choices xs t (get_or words' t 0)
  pub beyond : drop n words' ≡ drop n words

-- refused: the words and the bits are as they were
pub record Untouched (words bits words' bits' : List ℕ) : Type 0 where
  pub words_are : words' ≡ words
  pub bits_are : bits' ≡ bits

-- the promise of a decoder that permits these ends: the metric or the first refusal; and the steps are decoded unless it refused
pub record Decoded (ends : Ends) (xs : List ℤ) (words bits : List ℕ) (answer : Outcome Score) (words' bits' : List ℕ) : Type 0 where
  pub metric : ℤ
  pub answer_is : answer ≡ outcome (decoder_refusal (steps xs) (length words) (length bits)) (record { metric = metric })
  pub buffers_are : unless_refused (decoder_refusal (steps xs) (length words) (length bits)) (Accepted ends xs (steps xs) words bits metric words' bits') (Untouched words bits words' bits')

-- every end, or state 0 alone
abbrev pub ends_of : Bool → Ends
ends_of true = free_end
ends_of false = zero_end
