-- What the private functions of the crate ask and promise: one step's values, the table that a step is given, and the end that is traced back.
use Rattle.std.specs.Prelude.{◌≡◌, List, ℕ, ◌+◌, ◌*◌, ◌/◌, ◌%◌, ◌<◌, ◌≤◌, get_or, ℤ, nat_abs, ◌+ℤ◌}
use Rattle.laws.specs.Integers.{at}
use Rattle.spec_trellis.specs.Trellis.{out_bit, sign_by, Ends, zero_end, free_end}
use Rattle.spec_trellis.specs.Program.{FirstGreatest}
use Rattle.fec_viterbi.specs.declared.End.{End}
use Rattle.fec_viterbi.specs.declared.End.TheVariants.{Zero, Free}

-- the four outputs as one number, output 0 lowest
unfoldable pub pattern_of : ℕ → ℕ → ℕ
pattern_of s b = out_bit s b 0 + 2 * out_bit s b 1 + 4 * out_bit s b 2 + 8 * out_bit s b 3

-- the correlation of four soft values with the outputs of a pattern
unfoldable pub correlation_of : List ℤ → ℕ → ℤ
correlation_of v p = sign_by (p % 2) (at v 0) +ℤ sign_by (p / 2 % 2) (at v 1) +ℤ sign_by (p / 4 % 2) (at v 2) +ℤ sign_by (p / 8 % 2) (at v 3)

-- the patterns, by register
pub record ArePatterns (patterns : List ℕ) : Type 0 where
  pub are : (r : ℕ) → r < 128 → get_or patterns r 0 ≡ pattern_of (r / 2) (r % 2)

-- each of the first n values is at most m in size
abbrev pub Within : ℕ → ℕ → List ℤ → Type 0
Within n m xs = (s : ℕ) → s < n → nat_abs (at xs s) ≤ m

-- the ends that a path may have
abbrev pub permitted : End → Ends
permitted Zero = zero_end
permitted Free = free_end

-- the state that is traced back: state 0, or the lowest of those with the best score
abbrev pub Chosen : End → (ℕ → ℤ) → ℕ → Type 0
Chosen Zero σ e = e ≡ 0
Chosen Free σ e = FirstGreatest σ 64 e
