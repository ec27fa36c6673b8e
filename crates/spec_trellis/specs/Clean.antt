-- Document 01, "From soft bits to bytes": when a soft value speaks for the bit that was sent, and a word of such values.
use Rattle.std.specs.Prelude.{◌≡◌, Bool, true, false, List, [], ◌∷◌, map, reverse, ℕ, zero, suc, ◌+◌, ◌*◌, ◌<◌, length, get_or, ℤ, pos, ◌<ℤ◌}
use Rattle.laws.specs.Bits.{AreBits}
use Rattle.laws.specs.Integers.{at}
use Rattle.spec_en300401.specs.MotherCode.{code_word}
use Rattle.spec_en300401.specs.Puncturing.{depuncture}
use Rattle.spec_trellis.specs.Trellis.{is_odd}

-- not 0, and of the bit's sign: negative for 0, positive for 1
unfoldable pub Agrees : ℤ → ℕ → Type 0
Agrees v zero = v <ℤ pos 0
Agrees v (suc b) = pos 0 <ℤ v

-- the tail of a message
abbrev pub six_zeros : List ℕ
six_zeros = 0 ∷ 0 ∷ 0 ∷ 0 ∷ 0 ∷ 0 ∷ []

-- the message and six zeros, the newest bit first
unfoldable pub sent_path : List ℕ → List Bool
sent_path m = false ∷ false ∷ false ∷ false ∷ false ∷ false ∷ reverse (map is_odd m)

-- a message, a mask for its code word that keeps the first of each four places, and values of which every kept one agrees with its bit
pub record CleanWord (m : List ℕ) (ks : List Bool) (vs : List ℤ) : Type 0 where
  pub bits : AreBits m
  pub long : length ks ≡ 4 * (length m + 6)
  pub firsts : (k : ℕ) → k < length m + 6 → get_or ks (4 * k) false ≡ true
  pub agree : (j : ℕ) → j < length ks → get_or ks j false ≡ true → Agrees (at (depuncture ks vs) j) (get_or (code_word m) j 0)
