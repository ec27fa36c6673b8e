-- The code word of a message: its length, and what stands at each place.
-- Assumes nothing.
use mathlib.Core.Path.{◌≡◌, ap₂, ◌∙◌}
use mathlib.Core.List.{List}
use Prim.Native.Nat.{ℕ, ◌+◌, ◌*◌, ◌/◌, ◌%◌, ◌<◌}
use native.Mathlib.Omega.{arith}
use lib.ListN.{length, get_or}
use Rattle.laws.proofs.Lists.{length-list_of, list_of-at}
use Rattle.spec_en300401.specs.MotherCode.{code_bit, code_word}

pub length_word : (m : List ℕ) → length (code_word m) ≡ 4 * (length m + 6)
unfolding code_word
length_word m = length-list_of (4 * (length m + 6)) (λ (j : ℕ). code_bit (λ (i : ℕ). get_or m i 0) (j % 4) (j / 4))

-- place 4 k + g of a message's code word is output g of step k
pub word_at : (m : List ℕ) (k g : ℕ) → k < length m + 6 → g < 4 → get_or (code_word m) (4 * k + g) 0 ≡ code_bit (λ (i : ℕ). get_or m i 0) g k
unfolding code_word
word_at m k g h l =
    list_of-at (4 * (length m + 6)) (λ (j : ℕ). code_bit (λ (i : ℕ). get_or m i 0) (j % 4) (j / 4)) 0 (4 * k + g) (omega arith)
    ∙ ap₂ (code_bit (λ (i : ℕ). get_or m i 0)) (omega arith) (omega arith)
