-- What the code holds of a profile gives the profile's sizes and its mask again.
-- Assumes nothing.
use mathlib.Core.Path.{◌≡◌, refl, sym, ap, ◌∙◌, subst}
use mathlib.Core.Bool.{Bool}
use mathlib.Core.List.{List, [], ◌∷◌}
use Prim.Native.Nat.{ℕ, zero, suc, ◌+◌, ◌*◌, ◌-◌, ◌<◌, ◌≤◌}
use native.Mathlib.Omega.{arith}
use native.Mathlib.Nat.{zero-mul}
use borrow.Author.Tests.{ne_eqb}
use lib.Dec.{eqb}
use lib.ListN.{length}
use Rattle.laws.specs.Words.{pick_n}
use Rattle.laws.proofs.Lists.{copies-zero}
use Rattle.spec_en300401.specs.Puncturing.{Region, region_mask, mask, kept_size, vector}
use Rattle.spec_en300401.proofs.Puncturing.{OkRegion, Usable, blocks_in, sent_in, in_table, length-mask, kept-size}
use Rattle.fec_profiles.specs.declared.Section.{Section}
use Rattle.fec_profiles.specs.Rows.{index, region_at, section_of, sections_of}
use Rattle.fec_protection.specs.Code.{Bounded, blocks_by, no_section, section_in, sent_of, sent_by, region, regions_in}
use Rattle.fec_protection.specs.Params.{params_of}

-- one region: its pi is at most 24, is one of the 24 where there are blocks, sends as many, and has the same mask
module _ (r : Region) (ok : OkRegion r) where
  index_of : 0 < r.blocks → index r + 1 ≡ r.pi
  unfolding index
  index_of h = ap (λ (b : Bool). pick_n b 24 (r.pi - 1) + 1) (ne_eqb r.blocks 0 (λ z. omega arith)) ∙ omega (arith, ok.named h)

  empty_or : (P : Region → ℕ → Type 0) → ((p : ℕ) → P (record { blocks = 0; pi = p }) 24) → (0 < r.blocks → P r (index r)) → P r (index r)
  unfolding index
  empty_or P f g = go r.blocks refl
    where
      go : (b : ℕ) → r.blocks ≡ b → P r (index r)
      go zero e = subst (λ (b : ℕ). P (record { blocks = b; pi = r.pi }) (pick_n (eqb b 0) 24 (r.pi - 1))) (sym e) (f r.pi)
      go (suc b) e = g (omega arith)

  pub index-le : index r ≤ 24
  index-le = empty_or (λ (q : Region) (i : ℕ). i ≤ 24) (λ p. omega arith) (λ h. omega (arith, index_of h, ok.top))

  pub index-lt : 0 < r.blocks → index r < 24
  index-lt h = omega (arith, index_of h, ok.top)

  pub sent_same : 4 * (r.blocks * (8 + r.pi)) ≡ sent_of (section_of r)
  sent_same =
      empty_or (λ (q : Region) (i : ℕ). 4 * (q.blocks * (8 + q.pi)) ≡ sent_of (record { blocks = q.blocks; pi = i })) (λ p. ap (λ (m : ℕ). 4 * m) (zero-mul (8 + p)))
      (λ h. ap (λ (m : ℕ). 4 * (r.blocks * m)) (omega (arith, index_of h)))

  pub mask_same : region_mask (region (section_of r)) ≡ region_mask r
  unfolding region_mask
  mask_same =
      empty_or (λ (q : Region) (i : ℕ). region_mask (record { blocks = q.blocks; pi = i + 1 }) ≡ region_mask q) (λ p. copies-zero (vector 25) ∙ sym (copies-zero (vector p)))
      (λ h. ap (λ (m : ℕ). region_mask (record { blocks = r.blocks; pi = m })) (index_of h))

-- what holds of the sections of four regions, by each
module _ (rs : List Region) (P : Section → Type 0) (each : (r : Region) → OkRegion r → P (section_of r)) (z : P no_section) where
  four : ((i : ℕ) → OkRegion (region_at rs i)) → (i : ℕ) → P (section_in (params_of rs) i)
  unfolding sections_of
  four ok zero = each (region_at rs 0) (ok 0)
  four ok (suc zero) = each (region_at rs 1) (ok 1)
  four ok (suc (suc zero)) = each (region_at rs 2) (ok 2)
  four ok (suc (suc (suc zero))) = each (region_at rs 3) (ok 3)
  four ok (suc (suc (suc (suc i)))) = z

-- up to four regions and no more: those at the four places
blocks-four : (rs : List Region) → length rs ≤ 4 → blocks_in rs ≡ (region_at rs 0).blocks + (region_at rs 1).blocks + (region_at rs 2).blocks + (region_at rs 3).blocks
unfolding blocks_in
blocks-four [] h = omega arith
blocks-four (a ∷ []) h = omega arith
blocks-four (a ∷ b ∷ []) h = omega arith
blocks-four (a ∷ b ∷ c ∷ []) h = omega arith
blocks-four (a ∷ b ∷ c ∷ d ∷ []) h = omega arith
blocks-four (a ∷ b ∷ c ∷ d ∷ e ∷ rs) h = absurd (omega arith)

sent_at : List Region → ℕ → ℕ
sent_at rs i = 4 * ((region_at rs i).blocks * (8 + (region_at rs i).pi))

sent-four : (rs : List Region) → length rs ≤ 4 → sent_in rs ≡ sent_at rs 0 + sent_at rs 1 + sent_at rs 2 + sent_at rs 3
unfolding sent_in sent_at
sent-four [] h = omega arith
sent-four (a ∷ []) h = omega arith
sent-four (a ∷ b ∷ []) h = omega arith
sent-four (a ∷ b ∷ c ∷ []) h = omega arith
sent-four (a ∷ b ∷ c ∷ d ∷ []) h = omega arith
sent-four (a ∷ b ∷ c ∷ d ∷ e ∷ rs) h = absurd (omega arith)

mask-four : (rs : List Region) → length rs ≤ 4 → mask (region_at rs 0 ∷ region_at rs 1 ∷ region_at rs 2 ∷ region_at rs 3 ∷ []) ≡ mask rs
unfolding mask region_mask
mask-four [] h = rw copies-zero refl
mask-four (a ∷ []) h = rw copies-zero refl
mask-four (a ∷ b ∷ []) h = rw copies-zero refl
mask-four (a ∷ b ∷ c ∷ []) h = rw copies-zero refl
mask-four (a ∷ b ∷ c ∷ d ∷ []) h = refl
mask-four (a ∷ b ∷ c ∷ d ∷ e ∷ rs) h = absurd (omega arith)

module _ (rs : List Region) (u : Usable rs) where
  pub params_bounded : Bounded (params_of rs)
  params_bounded =
      record {
        blocks = four rs (λ (s : Section). s.blocks < 65536) (λ r ok. ok.short) (omega arith) u.each;
        pi = four rs (λ (s : Section). s.pi ≤ 24) index-le (omega arith) u.each;
      }

  pub kept_by : sent_by (params_of rs) + 12 ≡ kept_size rs
  unfolding sections_of sent_at
  kept_by =
      omega
      (arith, kept-size (in_table rs u.each), sent-four rs u.few, sent_same _ (u.each 0), sent_same _ (u.each 1), sent_same _ (u.each 2), sent_same _ (u.each 3))

  pub mother_by : 128 * blocks_by (params_of rs) + 24 ≡ length (mask rs)
  unfolding sections_of
  mother_by = omega (arith, length-mask rs, blocks-four rs u.few)

  pub mask_by : mask (regions_in (params_of rs)) ≡ mask rs
  unfolding sections_of mask
  mask_by = rw (mask_same _ (u.each 0), mask_same _ (u.each 1), mask_same _ (u.each 2), mask_same _ (u.each 3)) (mask-four rs u.few)

  pub params_vectors : (i : ℕ) → 0 < (section_in (params_of rs) i).blocks → (section_in (params_of rs) i).pi < 24
  params_vectors = four rs (λ (s : Section). 0 < s.blocks → s.pi < 24) index-lt (λ h. absurd (omega arith)) u.each
