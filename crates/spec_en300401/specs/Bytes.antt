-- Document 01, "fic/handler.rs" and "msc/mod.rs": the bits of a byte go high bit first.
use Rattle.std.specs.Prelude.{List, [], ◌∷◌, ◌++◌, ℕ}
use Rattle.laws.specs.Bits.{num_of, bits_of}

-- the bits of some bytes, each byte's high bit first
unfoldable pub bits_of_bytes : List ℕ → List ℕ
bits_of_bytes [] = []
bits_of_bytes (b ∷ bs) = bits_of 8 b ++ bits_of_bytes bs

-- the bytes of some bits, eight to a byte, the high bit first; up to seven bits left over are dropped
unfoldable pub bytes_of_bits : List ℕ → List ℕ
bytes_of_bits [] = []
bytes_of_bits (a ∷ []) = []
bytes_of_bits (a ∷ b ∷ []) = []
bytes_of_bits (a ∷ b ∷ c ∷ []) = []
bytes_of_bits (a ∷ b ∷ c ∷ d ∷ []) = []
bytes_of_bits (a ∷ b ∷ c ∷ d ∷ e ∷ []) = []
bytes_of_bits (a ∷ b ∷ c ∷ d ∷ e ∷ f ∷ []) = []
bytes_of_bits (a ∷ b ∷ c ∷ d ∷ e ∷ f ∷ g ∷ []) = []
bytes_of_bits (a ∷ b ∷ c ∷ d ∷ e ∷ f ∷ g ∷ h ∷ xs) = num_of (a ∷ b ∷ c ∷ d ∷ e ∷ f ∷ g ∷ h ∷ []) ∷ bytes_of_bits xs
