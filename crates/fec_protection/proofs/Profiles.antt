-- The profile of a description with a row, and of an accepted one.
-- Assumes nothing.
use mathlib.Core.Path.{◌≡◌, refl, sym, ◌∙◌}
use mathlib.Core.Bool.{Bool, true, false, cond, not, ◌||◌}
use mathlib.Core.List.{List, [], ◌∷◌}
use mathlib.Core.Option.{Option, none, some}
use Prim.Native.Nat.{ℕ, zero, suc, ◌+◌, ◌*◌, ◌%◌, ◌<◌, ◌≤◌}
use native.Mathlib.Omega.{arith}
use borrow.Author.Tests.{ltb-false, eqb-true, not-false}
use lib.Dec.{ltb, eqb}
use lib.ListN.{length}
use Rattle.spec_en300401.specs.Puncturing.{Region, mask, kept_size}
use Rattle.spec_en300401.specs.Eep.{unit, first, eep_profile}
use Rattle.spec_en300401.specs.Uep.{Row, uep_row, regions_of, uep_profile}
use Rattle.spec_en300401.proofs.Puncturing.{Usable, sent_in, in_table, length-mask, kept-size, kept_fours, sent_least}
use Rattle.spec_en300401.proofs.Eep.{eep_usable, eep-length}
use Rattle.spec_en300401.proofs.Uep.{uep_usable, uep-length}
use Rattle.refusal.specs.Outcome.{check, or_else, first_of}
use Rattle.refusal.proofs.Laws.{first-append}
use Rattle.refusal.proofs.Checks.{clean, zeroed, later, held_not, past}
use Rattle.fec_protection.specs.declared.Description.{Description}
use Rattle.fec_protection.specs.Theorems.{NeededInFours}
use Rattle.fec_protection.specs.Refusals.{is_none, profile_of, eep_row, uep_none, row_refusals, eep_shape, uep_shape, shape_refusals, row_refusal_of, refusal_of, Accepted}

-- 1 to 7: 1 to 4, or else 5 to 7
pub refusal_split : (d : Description) → refusal_of d ≡ or_else (row_refusal_of d) (first_of (shape_refusals d))
unfolding refusal_of row_refusal_of
refusal_split d = first-append (row_refusals d) (shape_refusals d)

-- an accepted description has a row, and its shape is right
pub row_of-accepted : (d : Description) → Accepted d → row_refusal_of d ≡ 0
row_of-accepted d e = go (row_refusal_of d) (sym (refusal_split d) ∙ e)
  where
    go : (n : ℕ) → or_else n (first_of (shape_refusals d)) ≡ 0 → n ≡ 0
    go zero z = refl
    go (suc n) z = z

pub shape_of_accepted : (d : Description) → Accepted d → first_of (shape_refusals d) ≡ 0
unfolding refusal_of row_refusal_of
shape_of_accepted d e = sym (past (row_refusals d) (shape_refusals d) (row_of-accepted d e)) ∙ e

-- a UEP row that is there
uep_there : (k l : ℕ) → first_of (uep_none k l) ≡ 0 → (P : List Region → Type 0) → ((p : Row) → uep_row k l ≡ some p → P p.regions) → P (uep_profile k l)
unfolding uep_none uep_profile
uep_there k l e P f = go (uep_row k l) refl e
  where
    go : (o : Option Row) → uep_row k l ≡ o → first_of (check 4 (is_none o) ∷ []) ≡ 0 → P (regions_of o)
    go none q z = absurd (omega arith)
    go (some p) q z = f p q

-- a profile with a row has at most four regions, short ones, under the vectors
pub profile_usable : (d : Description) → d.bitrate < 65536 → row_refusal_of d ≡ 0 → Usable (profile_of d)
unfolding profile_of row_refusal_of row_refusals
profile_usable d h e = go d.is_eep e
  where
    go : (b : Bool) → first_of (cond b (eep_row d.eep_option d.protection_level d.bitrate) (uep_none d.bitrate d.protection_level)) ≡ 0
        → Usable (cond b (eep_profile d.eep_option d.protection_level d.bitrate) (uep_profile d.bitrate d.protection_level))
    go true z = eep_usable d.bitrate h d.eep_option d.protection_level
    go false z = uep_there d.bitrate d.protection_level z Usable (λ p q. uep_usable d.bitrate d.protection_level q)

-- how many values it needs: 4 (8 + PI) for each block, and 12
pub needed_by : (d : Description) → d.bitrate < 65536 → row_refusal_of d ≡ 0 → kept_size (profile_of d) ≡ sent_in (profile_of d) + 12
needed_by d h e = kept-size (in_table (profile_of d) (profile_usable d h e).each)

pub needed_fours : NeededInFours
needed_fours d h e = kept_fours (in_table (profile_of d) (profile_usable d h e).each)

-- L1 is not negative where a row is given, and the bitrate a multiple where 6 is not
whole : (o l rate : ℕ) → first_of (eep_row o l rate) ≡ 0 → 3 ≤ first o l rate
unfolding eep_row
whole o l rate z = ltb-false (first o l rate) 3 (held_not 2 (ltb (first o l rate) 3) (zeroed (later (later (clean (eep_row o l rate) z)))))

module _ (o rate start size needed : ℕ) (z : first_of (eep_shape o rate start size needed) ≡ 0) where
  multiple : rate % unit o ≡ 0
  unfolding eep_shape
  multiple = eqb-true (rate % unit o) 0 (not-false (eqb (rate % unit o) 0) (held_not 5 (not (eqb (rate % unit o) 0)) (zeroed (later (clean (eep_shape o rate start size needed) z)))))

  eep_fills : 64 * size ≡ needed
  unfolding eep_shape
  eep_fills = eqb-true (64 * size) needed (not-false (eqb (64 * size) needed) (held_not 4 (not (eqb (64 * size) needed)) (zeroed (clean (eep_shape o rate start size needed) z))))

  eep-inside : start + size ≤ 864
  unfolding eep_shape
  eep-inside = ltb-false 864 (start + size) (held_not 6 (ltb 864 (start + size)) (zeroed (later (later (clean (eep_shape o rate start size needed) z)))))

module _ (start size needed : ℕ) (z : first_of (uep_shape start size needed) ≡ 0) where
  uep-holds : (needed ≤ 64 * size) × (64 * size ≤ needed + 8)
  unfolding uep_shape
  uep-holds = go (ltb (64 * size) needed) (ltb (needed + 8) (64 * size)) refl refl (held_not 4 (ltb (64 * size) needed || ltb (needed + 8) (64 * size)) (zeroed (clean (uep_shape start size needed) z)))
    where
      go : (a b : Bool) → ltb (64 * size) needed ≡ a → ltb (needed + 8) (64 * size) ≡ b → a || b ≡ false → (needed ≤ 64 * size) × (64 * size ≤ needed + 8)
      go false false p q w = (ltb-false (64 * size) needed p, ltb-false (needed + 8) (64 * size) q)
      go false true p q w = let z : ◌≡◌ {A = ℕ} 0 1 = cc in absurd (omega arith)
      go true b p q w = let z : ◌≡◌ {A = ℕ} 0 1 = cc in absurd (omega arith)

  uep-inside : start + size ≤ 864
  unfolding uep_shape
  uep-inside = ltb-false 864 (start + size) (held_not 6 (ltb 864 (start + size)) (zeroed (later (clean (uep_shape start size needed) z))))

-- the mother code word of an accepted description: 96 places for each kbit/s, and the tail
pub accepted-length : (d : Description) → d.bitrate < 65536 → Accepted d → length (mask (profile_of d)) ≡ 96 * d.bitrate + 24
unfolding profile_of row_refusal_of row_refusals shape_refusals
accepted-length d h e = go d.is_eep (row_of-accepted d e) (shape_of_accepted d e)
  where
    go : (b : Bool) → first_of (cond b (eep_row d.eep_option d.protection_level d.bitrate) (uep_none d.bitrate d.protection_level)) ≡ 0
        → first_of (cond b (eep_shape d.eep_option d.bitrate d.start_addr d.sub_size (kept_size (profile_of d))) (uep_shape d.start_addr d.sub_size (kept_size (profile_of d)))) ≡ 0
        → length (mask (cond b (eep_profile d.eep_option d.protection_level d.bitrate) (uep_profile d.bitrate d.protection_level))) ≡ 96 * d.bitrate + 24
    go true z w = eep-length d.bitrate h d.eep_option d.protection_level (whole d.eep_option d.protection_level d.bitrate z) (multiple d.eep_option d.bitrate d.start_addr d.sub_size (kept_size (profile_of d)) w)
    go false z w = uep_there d.bitrate d.protection_level z (λ (rs : List Region). length (mask rs) ≡ 96 * d.bitrate + 24) (λ p q. uep-length d.bitrate d.protection_level q)

-- an accepted sub-channel lies within the CIF, holds what its profile needs, and at most 8 values more
pub accepted-place : (d : Description) → Accepted d → d.start_addr + d.sub_size ≤ 864
unfolding shape_refusals
accepted-place d e = go d.is_eep (shape_of_accepted d e)
  where
    go : (b : Bool) → first_of (cond b (eep_shape d.eep_option d.bitrate d.start_addr d.sub_size (kept_size (profile_of d))) (uep_shape d.start_addr d.sub_size (kept_size (profile_of d)))) ≡ 0 → d.start_addr + d.sub_size ≤ 864
    go true w = eep-inside d.eep_option d.bitrate d.start_addr d.sub_size (kept_size (profile_of d)) w
    go false w = uep-inside d.start_addr d.sub_size (kept_size (profile_of d)) w

pub accepted-size : (d : Description) → Accepted d → (kept_size (profile_of d) ≤ 64 * d.sub_size) × (64 * d.sub_size ≤ kept_size (profile_of d) + 8)
unfolding shape_refusals
accepted-size d e = go d.is_eep (shape_of_accepted d e)
  where
    go : (b : Bool) → first_of (cond b (eep_shape d.eep_option d.bitrate d.start_addr d.sub_size (kept_size (profile_of d))) (uep_shape d.start_addr d.sub_size (kept_size (profile_of d)))) ≡ 0
        → (kept_size (profile_of d) ≤ 64 * d.sub_size) × (64 * d.sub_size ≤ kept_size (profile_of d) + 8)
    go true w = let q : 64 * d.sub_size ≡ kept_size (profile_of d) = eep_fills d.eep_option d.bitrate d.start_addr d.sub_size (kept_size (profile_of d)) w in (omega arith, omega arith)
    go false w = uep-holds d.start_addr d.sub_size (kept_size (profile_of d)) w

-- so its bit rate is below 2,048
pub accepted-rate : (d : Description) → d.bitrate < 65536 → Accepted d → d.bitrate < 2048
accepted-rate d h e =
    let u = profile_usable d h (row_of-accepted d e) in
    let p : d.start_addr + d.sub_size ≤ 864 = accepted-place d e in
    let a : kept_size (profile_of d) ≤ 64 * d.sub_size = (accepted-size d e).0 in
    omega (arith, length-mask (profile_of d), accepted-length d h e, needed_by d h (row_of-accepted d e), sent_least (profile_of d) u.each)
