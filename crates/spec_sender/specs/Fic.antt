-- Clauses 5.2.1 and 11.2: what the sender makes of three FIBs, for any data in them.
use Rattle.std.specs.Prelude.{◌≡◌, List, [], ◌∷◌, ◌++◌, ℕ, ◌/◌, ◌%◌, ◌<◌, length}
use Rattle.laws.specs.Bits.{AreBytes}
use Rattle.spec_en300401.specs.Bytes.{bits_of_bytes}
use Rattle.spec_en300401.specs.Crc.{crc_word}
use Rattle.spec_en300401.specs.Puncturing.{fic_profile}
use Rattle.spec_sender.specs.Coding.{sent}

-- the data of a block's three FIBs by their number, 30 bytes each
pub record Data : Type 0 where
  pub fib : ℕ → List ℕ
  pub size : (j : ℕ) → j < 3 → length (fib j) ≡ 30
  pub bytes : (j : ℕ) → j < 3 → AreBytes (fib j)

-- clause 5.2.1: a FIB is its data and their CRC word, the high byte first
unfoldable pub with_crc : List ℕ → List ℕ
with_crc own = own ++ (crc_word (bits_of_bytes own) / 256 ∷ crc_word (bits_of_bytes own) % 256 ∷ [])

-- the 96 bytes of a block
unfoldable pub fibs_of : Data → List ℕ
fibs_of f = with_crc (f.fib 0) ++ (with_crc (f.fib 1) ++ with_crc (f.fib 2))

-- clause 11.2: the block's bits as they are sent, under the FIC's profile
unfoldable pub block_sent : Data → List ℕ
block_sent f = sent fic_profile (fibs_of f)
