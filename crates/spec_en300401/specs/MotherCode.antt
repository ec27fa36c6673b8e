-- Clause 11.1.1, the mother code: of a message a_0 .. a_(I-1), zero outside, four bits for each i = 0 .. I+5.
use Rattle.std.specs.Prelude.{List, ℕ, zero, suc, ◌+◌, ◌*◌, ◌-◌, ◌/◌, ◌%◌, leb, length, get_or}
use Rattle.laws.specs.Lists.{list_of}
use Rattle.laws.specs.Words.{pick_n}

-- a_(i-k), zero before the message
unfoldable pub earlier : (ℕ → ℕ) → ℕ → ℕ → ℕ
earlier a i k = pick_n (leb k i) (a (i - k)) 0

-- octal 133
unfoldable pub x0 : (ℕ → ℕ) → ℕ → ℕ
x0 a i = (a i + earlier a i 2 + earlier a i 3 + earlier a i 5 + earlier a i 6) % 2

-- octal 171
unfoldable pub x1 : (ℕ → ℕ) → ℕ → ℕ
x1 a i = (a i + earlier a i 1 + earlier a i 2 + earlier a i 3 + earlier a i 6) % 2

-- octal 145
unfoldable pub x2 : (ℕ → ℕ) → ℕ → ℕ
x2 a i = (a i + earlier a i 1 + earlier a i 4 + earlier a i 6) % 2

-- octal 133 again
abbrev pub x3 : (ℕ → ℕ) → ℕ → ℕ
x3 = x0

-- output g of four
unfoldable pub code_bit : (ℕ → ℕ) → ℕ → ℕ → ℕ
code_bit a zero i = x0 a i
code_bit a (suc zero) i = x1 a i
code_bit a (suc (suc zero)) i = x2 a i
code_bit a (suc (suc (suc g))) i = x3 a i

-- the code word of a message: x0,i x1,i x2,i x3,i for each i; the last 24 bits are the tail
unfoldable pub code_word : List ℕ → List ℕ
code_word xs = list_of (4 * (length xs + 6)) (λ (j : ℕ). code_bit (λ (i : ℕ). get_or xs i 0) (j % 4) (j / 4))
