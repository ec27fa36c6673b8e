-- Document 01, "viterbi.rs": the 512 branch outputs by state, input and output number.
use Rattle.std.specs.Prelude.{List, ℕ}
use Rattle.laws.specs.Lists.{list_of}
use Rattle.spec_trellis.specs.Trellis.{out_bit}

unfoldable pub branch_outputs : List (List (List ℕ))
branch_outputs = list_of 64 (λ (s : ℕ). list_of 2 (λ (b : ℕ). list_of 4 (λ (g : ℕ). out_bit s b g)))
