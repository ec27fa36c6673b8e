-- The regions of a profile, one after the other.
-- Assumes nothing.
use mathlib.Core.Path.{◌≡◌, refl, sym, ap, ◌∙◌}
use mathlib.Core.Bool.{Bool}
use mathlib.Core.List.{List, [], ◌∷◌, ◌++◌, map, append_assoc, append-nil}
use Prim.Native.Nat.{ℕ, ◌+◌, ◌*◌, ◌<◌, ◌≤◌}
use native.Mathlib.Omega.{arith}
use lib.ListN.{length, get_or, take, length-append}
use Rattle.std.specs.List.{sum_by}
use Rattle.std.proofs.lemmas.List.Sums.{sum_by-cons, sum_by-take-le, sum_by_push}
use Rattle.laws.proofs.Slices.{take_more}
use Rattle.spec_en300401.specs.Puncturing.{region_mask, tail_mask, mask}
use Rattle.spec_en300401.proofs.Puncturing.{length-region}
use Rattle.fec_profiles.specs.declared.Section.{Section}
use Rattle.fec_protection.specs.Code.{region}

-- the masks of some regions, without the tail
abbrev pub masks : List Section → List Bool
masks [] = []
masks (s ∷ ss) = region_mask (region s) ++ masks ss

pub masks-snoc : (ss : List Section) (s : Section) → masks (ss ++ (s ∷ [])) ≡ masks ss ++ region_mask (region s)
masks-snoc [] s = append-nil (region_mask (region s))
masks-snoc (x ∷ ss) s = ap (λ (r : List Bool). region_mask (region x) ++ r) (masks-snoc ss s) ∙ sym (append_assoc (region_mask (region x)) (masks ss) (region_mask (region s)))

pub masks-tail : (ss : List Section) → masks ss ++ tail_mask ≡ mask (map region ss)
unfolding mask
masks-tail [] = refl
masks-tail (s ∷ ss) = append_assoc (region_mask (region s)) (masks ss) tail_mask ∙ ap (λ (r : List Bool). region_mask (region s) ++ r) (masks-tail ss)

pub length-masks : (ss : List Section) → length (masks ss) ≡ 128 * sum_by (λ (s : Section). s.blocks) ss
length-masks [] = refl
length-masks (s ∷ ss) = omega (arith, length-append (region_mask (region s)) (masks ss), length-region (region s), length-masks ss, sum_by-cons (λ (x : Section). x.blocks) s ss)

-- the blocks of four regions
pub four_blocks : (ss : List Section) (d : Section) → length ss ≡ 4 → sum_by (λ (s : Section). s.blocks) ss ≡ (get_or ss 0 d).blocks + (get_or ss 1 d).blocks + (get_or ss 2 d).blocks + (get_or ss 3 d).blocks
four_blocks [] d e = absurd (omega (arith, e))
four_blocks (a ∷ []) d e = absurd (omega (arith, e))
four_blocks (a ∷ b ∷ []) d e = absurd (omega (arith, e))
four_blocks (a ∷ b ∷ c ∷ []) d e = absurd (omega (arith, e))
four_blocks (a ∷ b ∷ c ∷ x ∷ []) d e = omega arith
four_blocks (a ∷ b ∷ c ∷ x ∷ y ∷ ss) d e = absurd (omega (arith, e))

-- one region more
module _ (ss : List Section) (k : ℕ) (d : Section) (h : k < length ss) where
  pub masks_more : masks (take (k + 1) ss) ≡ masks (take k ss) ++ region_mask (region (get_or ss k d))
  masks_more = ap masks (take_more d ss k h) ∙ masks-snoc (take k ss) (get_or ss k d)

  pub blocks_more : sum_by (λ (s : Section). s.blocks) (take (k + 1) ss) ≡ sum_by (λ (s : Section). s.blocks) (take k ss) + (get_or ss k d).blocks
  blocks_more = ap (sum_by (λ (s : Section). s.blocks)) (take_more d ss k h) ∙ sum_by_push (λ (s : Section). s.blocks) (take k ss) (get_or ss k d)

  pub within : sum_by (λ (s : Section). s.blocks) (take k ss) + (get_or ss k d).blocks ≤ sum_by (λ (s : Section). s.blocks) ss
  within = omega (arith, blocks_more, sum_by-take-le (λ (s : Section). s.blocks) ss (k + 1))
