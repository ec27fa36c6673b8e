-- The table of the branch outputs, as the decoder reads it: by register, which is a state and its input.
-- Assumes nothing.
use mathlib.Core.Path.{◌≡◌, ap, ◌∙◌}
use mathlib.Core.List.{List, []}
use Prim.Native.Nat.{ℕ, ◌/◌, ◌%◌, ◌<◌}
use native.Mathlib.Omega.{arith}
use lib.ListN.{get_or}
use Rattle.spec_trellis.specs.Trellis.{out_bit}
use Rattle.spec_trellis.proofs.Trellis.{out-lt}
use Rattle.fec_branch_outputs.specs.Outputs.{branch_outputs}
use Rattle.fec_branch_outputs.proofs.Entries.{entry}

pub entry_is : (outputs : List (List (List ℕ))) (r g : ℕ) → r < 128 → g < 4 → outputs ≡ branch_outputs → get_or (get_or (get_or outputs (r / 2) []) (r % 2) []) g 0 ≡ out_bit (r / 2) (r % 2) g
entry_is outputs r g h k e = ap (λ (t : List (List (List ℕ))). get_or (get_or (get_or t (r / 2) []) (r % 2) []) g 0) e ∙ entry (r / 2) (r % 2) g (omega arith) (omega arith) k

pub entry_below : (outputs : List (List (List ℕ))) (r g : ℕ) → r < 128 → g < 4 → outputs ≡ branch_outputs → get_or (get_or (get_or outputs (r / 2) []) (r % 2) []) g 0 < 2
entry_below outputs r g h k e = omega (arith, entry_is outputs r g h k e, out-lt (r / 2) (r % 2) g)
