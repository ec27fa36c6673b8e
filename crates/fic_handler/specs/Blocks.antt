-- Document 01, fic/handler.rs: three symbols joined and cut into blocks, a block's data bits and its FIBs.
use Rattle.std.specs.Prelude.{Bool, cond, List, [], ◌++◌, ℕ, zero, suc, ◌+◌, ◌*◌, ◌/◌, length, take, drop, ℤ}
use Rattle.laws.specs.Words.{pick_n}
use Rattle.spec_en300401.specs.Bytes.{bytes_of_bits}
use Rattle.spec_en300401.specs.Crc.{fib_valid}
use Rattle.spec_en300401.specs.Dispersal.{disperse}
use Rattle.spec_en300401.specs.Puncturing.{mask, depuncture, fic_profile}
use Rattle.spec_trellis.specs.Trellis.{zero_end}
use Rattle.fec_viterbi.specs.Result.{Decodes, ChoiceWords}

-- three symbols, joined in order
abbrev pub joined : List ℤ → List ℤ → List ℤ → List ℤ
joined a b c = a ++ (b ++ c)

-- whole blocks of 2,304 values; the rest is dropped
abbrev pub blocks_in : List ℤ → ℕ
blocks_in xs = length xs / 2304

-- block b, and its 3,096 values with the erasures put back
abbrev pub block_of : List ℤ → ℕ → List ℤ
block_of xs b = take 2304 (drop (2304 * b) xs)

unfoldable pub depunctured_block : List ℤ → ℕ → List ℤ
depunctured_block xs b = depuncture (mask fic_profile) (block_of xs b)

-- the first 768 decoded bits, dispersed afresh
unfoldable pub data_bits : List ℕ → List ℕ
data_bits decoded = disperse (take 768 decoded)

-- FIB j of a block's data bits, and whether its CRC is good
abbrev pub fib_of : List ℕ → ℕ → List ℕ
fib_of bits j = take 256 (drop (256 * j) bits)

abbrev pub good : List ℕ → ℕ → Bool
good bits j = fib_valid (fib_of bits j)

-- the passed FIBs of the first n of a block, in order, as bytes; and how many
unfoldable pub passed_bytes : List ℕ → ℕ → List ℕ
passed_bytes bits zero = []
passed_bytes bits (suc n) = passed_bytes bits n ++ cond (good bits n) (bytes_of_bits (fib_of bits n)) []

unfoldable pub count_of : List ℕ → ℕ → ℕ
count_of bits zero = 0
count_of bits (suc n) = count_of bits n + pick_n (good bits n) 1 0

-- what decoding a block gives
pub record Block : Type 0 where
  pub decoded : List ℕ
  pub choices : List ℕ
  pub metric : ℤ

pub record IsBlock (xs : List ℤ) (b : ℕ) (k : Block) : Type 0 where
  pub decodes : Decodes zero_end (depunctured_block xs b) 774 k.decoded k.metric
  pub chosen : ChoiceWords (depunctured_block xs b) 774 k.choices

-- the bytes of all passed FIBs of the first n blocks, and how many FIBs
unfoldable pub written : (ℕ → Block) → ℕ → List ℕ
written k zero = []
written k (suc n) = written k n ++ passed_bytes (data_bits (k n).decoded) 3

unfoldable pub total : (ℕ → Block) → ℕ → ℕ
total k zero = 0
total k (suc n) = total k n + count_of (data_bits (k n).decoded) 3

-- the caller's buffers
pub record Buffers : Type 0 where
  pub depunctured : List ℤ
  pub words : List ℕ
  pub bits : List ℕ
  pub fibs : List ℕ

abbrev pub fic_buffers : List ℤ → List ℕ → List ℕ → List ℕ → Buffers
fic_buffers d w b f = record { depunctured = d; words = w; bits = b; fibs = f }
