-- What document 01 asks to be shown of the decoders, claim by claim: each name here is proved in proofs/.
use Rattle.std.specs.Prelude.{◌≡◌, Bool, List, map, reverse, ℕ, ◌+◌, ◌*◌, ◌<◌, length, get_or, take, Result, ℤ}
use Rattle.laws.specs.Bits.{AreBits}
use Rattle.laws.specs.Integers.{at}
use Rattle.spec_en300401.specs.MotherCode.{code_word}
use Rattle.spec_en300401.specs.Puncturing.{Region, mask, puncture, depuncture}
use Rattle.spec_trellis.specs.Trellis.{bit_n, end_of, score_of, Ends, Permits, NoneAbove}
use Rattle.spec_trellis.specs.Clean.{Agrees}
use Rattle.refusal.specs.Outcome.{told}
use Rattle.refusal.specs.declared.Refusal.{Refusal}
use Rattle.fec_viterbi.specs.declared.Score.{Score}
use Rattle.fec_viterbi.specs.Decoders.{steps, decoder_refusal, Decoded}
use Rattle.fec_viterbi.specs.Result.{Decodes}

-- the bits, the oldest first, of a permitted path of n steps that no permitted path outscores
pub record MostLikely (ends : Ends) (xs : List ℤ) (n : ℕ) (bits : List ℕ) : Type 0 where
  pub start : ℕ
  pub path : List Bool
  pub start_lt : start < 64
  pub long : length path ≡ n
  pub permitted : Permits ends (end_of start path)
  pub bits_are : bits ≡ reverse (map bit_n path)
  pub most : NoneAbove xs n ends (score_of xs start path)

-- demand 3, its first sentence, for both decoders and every accepted input, of any number of steps (decoded-most)
abbrev pub DecodedIsMost : Type 0
DecodedIsMost =
    (ends : Ends) (xs : List ℤ) (words bits : List ℕ) (r : Result Score Refusal) (words' bits' : List ℕ) → decoder_refusal (steps xs) (length words) (length bits) ≡ 0 → Decoded ends xs words bits (told r) words' bits'
    → MostLikely ends xs (steps xs) (take (steps xs) bits')

-- two results of one call
pub record SameDecoding (r : Result Score Refusal) (words bits : List ℕ) (r' : Result Score Refusal) (words' bits' : List ℕ) : Type 0 where
  pub answer_is : r ≡ r'
  pub words_are : words ≡ words'
  pub bits_are : bits ≡ bits'

-- for every input the promise allows one result (decoded_unique)
abbrev pub DecodedUnique : Type 0
DecodedUnique =
    (ends : Ends) (xs : List ℤ) (words bits : List ℕ) (r : Result Score Refusal) (ws bs : List ℕ) (r' : Result Score Refusal) (ws' bs' : List ℕ) → Decoded ends xs words bits (told r) ws bs → Decoded ends xs words bits (told r') ws' bs'
    → SameDecoding r ws bs r' ws' bs'

-- a clean word, sent under any profile, is decoded to its message by either decoder (clean_decodes)
abbrev pub CleanIsDecoded : Type 0
CleanIsDecoded =
    (rs : List Region) (m : List ℕ) (vs : List ℤ) → AreBits m → length (mask rs) ≡ 4 * (length m + 6)
    → ((i : ℕ) → i < length (puncture (mask rs) (code_word m)) → Agrees (at vs i) (get_or (puncture (mask rs) (code_word m)) i 0))
    → (ends : Ends) (decoded : List ℕ) (metric : ℤ) → Decodes ends (depuncture (mask rs) vs) (length m + 6) decoded metric → take (length m) decoded ≡ m
