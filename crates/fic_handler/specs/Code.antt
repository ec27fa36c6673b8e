-- What the private functions of the crate promise: the FIBs of a block, and one block.
use Rattle.std.specs.Prelude.{◌≡◌, List, ◌++◌, ℕ, ◌*◌, drop, ℤ}
use Rattle.spec_en300401.specs.Puncturing.{mask, depuncture, fic_profile}
use Rattle.spec_trellis.specs.Trellis.{zero_end}
use Rattle.fec_quality.specs.declared.Quality.{Quality}
use Rattle.fec_quality.specs.Figures.{quality_of}
use Rattle.fec_viterbi.specs.Result.{Decodes, ChoiceWords}
use Rattle.fic_handler.specs.Blocks.{data_bits, passed_bytes, count_of, Block, Buffers}

-- of the first n FIBs the passed ones stand at the start of the output, and the rest of it is as it was
pub record KeptFibs (bits : List ℕ) (n : ℕ) (before : List ℕ) (kept : ℕ) (after : List ℕ) : Type 0 where
  pub kept_is : kept ≡ count_of bits n
  pub bytes : after ≡ passed_bytes bits n ++ drop (32 * kept) before

-- the 3,096 values xs of a block, decoded: its quality, its choices, and its bits, the data bits dispersed and the tail as decoded
pub record BlockDecoded (xs : List ℤ) (words bits : List ℕ) (q : Quality) (words' bits' : List ℕ) : Type 0 where
  pub block : Block
  pub decodes : Decodes zero_end xs 774 block.decoded block.metric
  pub chosen : ChoiceWords xs 774 block.choices
  pub quality_is : q ≡ quality_of block.metric xs
  pub words_are : words' ≡ block.choices ++ drop 774 words
  pub bits_are : bits' ≡ (data_bits block.decoded ++ drop 768 block.decoded) ++ drop 774 bits

-- one block of 2,304 values: how many FIBs passed, its quality, and what it leaves in the caller's buffers
pub record BlockProcessed (values : List ℤ) (before : Buffers) (count : ℕ) (q : Quality) (after : Buffers) : Type 0 where
  pub block : Block
  pub decodes : Decodes zero_end (depuncture (mask fic_profile) values) 774 block.decoded block.metric
  pub chosen : ChoiceWords (depuncture (mask fic_profile) values) 774 block.choices
  pub count_is : count ≡ count_of (data_bits block.decoded) 3
  pub quality_is : q ≡ quality_of block.metric (depuncture (mask fic_profile) values)
  pub depunctured_are : after.depunctured ≡ depuncture (mask fic_profile) values ++ drop 3096 before.depunctured
  pub words_are : after.words ≡ block.choices ++ drop 774 before.words
  pub bits_are : after.bits ≡ (data_bits block.decoded ++ drop 768 block.decoded) ++ drop 774 before.bits
  pub fibs_are : after.fibs ≡ passed_bytes (data_bits block.decoded) 3 ++ drop (32 * count) before.fibs
