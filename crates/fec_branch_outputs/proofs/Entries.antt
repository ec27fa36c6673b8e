-- One entry of the table of the branch outputs.
-- Assumes nothing.
use mathlib.Core.Path.{◌≡◌, ap, ◌∙◌}
use mathlib.Core.List.{List, []}
use Prim.Native.Nat.{ℕ, ◌<◌}
use lib.ListN.{get_or}
use Rattle.laws.specs.Lists.{list_of}
use Rattle.laws.proofs.Lists.{list_of-at}
use Rattle.spec_trellis.specs.Trellis.{out_bit}
use Rattle.fec_branch_outputs.specs.Outputs.{branch_outputs}

pub entry : (s b g : ℕ) → s < 64 → b < 2 → g < 4 → get_or (get_or (get_or branch_outputs s []) b []) g 0 ≡ out_bit s b g
unfolding branch_outputs
entry s b g hs hb hg =
    ap (λ (r : List (List ℕ)). get_or (get_or r b []) g 0) (list_of-at 64 (λ (s : ℕ). list_of 2 (λ (b : ℕ). list_of 4 (λ (g : ℕ). out_bit s b g))) [] s hs)
    ∙ ap (λ (r : List ℕ). get_or r g 0) (list_of-at 2 (λ (b : ℕ). list_of 4 (λ (g : ℕ). out_bit s b g)) [] b hb)
    ∙ list_of-at 4 (λ (g : ℕ). out_bit s b g) 0 g hg
