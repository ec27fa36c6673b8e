-- Document 01, "Twelve cases proved as one table": cases 9 to 12, and the run cases of descriptions.
-- Assumes nothing.
use mathlib.Core.Path.{◌≡◌, refl, ap}
use mathlib.Core.Bool.{cond}
use mathlib.Core.List.{◌++◌}
use Prim.Native.Nat.{ℕ}
use lib.Dec.{lit<}
use Rattle.laws.specs.Lists.{find}
use Rattle.spec_en300401.specs.Puncturing.{kept_size}
use Rattle.spec_en300401.specs.Eep.{unit, level_of, first, eep_profile}
use Rattle.spec_en300401.specs.Uep.{uep_table, is_for, uep_row, uep_profile}
use Rattle.spec_en300401.proofs.Puncturing.{sent_in}
use Rattle.refusal.specs.Outcome.{outcome, first_of}
use Rattle.fec_protection.specs.declared.Description.{Description}
use Rattle.fec_protection.specs.Descriptions.{eep, uep}
use Rattle.fec_protection.specs.Refusals.{profile_of, eep_row, uep_none, row_refusals, eep_shape, uep_shape, shape_refusals, row_refusal_of, refusal_of, Accepted, RefusedBy}
use Rattle.fec_protection.proofs.Profiles.{needed_by}

-- the refusal, with the needed size worked out by its law and not by counting the mask
refusal_by : (d : Description) (n : ℕ) → kept_size (profile_of d) ≡ n → refusal_of d ≡ first_of (row_refusals d ++ cond d.is_eep (eep_shape d.eep_option d.bitrate d.start_addr d.sub_size n) (uep_shape d.start_addr d.sub_size n))
unfolding refusal_of shape_refusals
refusal_by d n e = ap (λ (m : ℕ). first_of (row_refusals d ++ cond d.is_eep (eep_shape d.eep_option d.bitrate d.start_addr d.sub_size m) (uep_shape d.start_addr d.sub_size m))) e

-- 4-A at 8 kbit/s needs 256 values, 4 units
pub needs_9 : (s : ℕ) → kept_size (profile_of (eep 0 3 8 s 4)) ≡ 256
unfolding profile_of eep_profile first level_of unit row_refusal_of row_refusals eep_row sent_in
needs_9 s = needed_by (eep 0 3 8 s 4) (lit< tt) refl

pub case_9 : Accepted (eep 0 3 8 860 4)
unfolding row_refusals eep_row first level_of unit eep_shape
case_9 = refusal_by (eep 0 3 8 860 4) 256 (needs_9 860)

pub case_10 : RefusedBy 7 (eep 0 3 8 861 4)
unfolding row_refusals eep_row first level_of unit eep_shape
case_10 = ap (λ (n : ℕ). outcome n tt) (refusal_by (eep 0 3 8 861 4) 256 (needs_9 861))

-- UEP 384 level 1 needs 26,616 values: 416 units are over by 8, 417 by 72
pub needs_11 : (n : ℕ) → kept_size (profile_of (uep 1 384 0 n)) ≡ 26616
unfolding profile_of uep_profile uep_row uep_table is_for find row_refusal_of row_refusals uep_none sent_in
needs_11 n = needed_by (uep 1 384 0 n) (lit< tt) refl

pub case_11 : Accepted (uep 1 384 0 416)
unfolding row_refusals uep_none uep_row uep_table is_for find uep_shape
case_11 = refusal_by (uep 1 384 0 416) 26616 (needs_11 416)

pub case_12 : RefusedBy 5 (uep 1 384 0 417)
unfolding row_refusals uep_none uep_row uep_table is_for find uep_shape
case_12 = ap (λ (n : ℕ). outcome n tt) (refusal_by (uep 1 384 0 417) 26616 (needs_11 417))

-- UEP 32 level 1 needs 2,236 values: 35 units are over by 4
pub needs-run : kept_size (profile_of (uep 1 32 0 35)) ≡ 2236
unfolding profile_of uep_profile uep_row uep_table is_for find row_refusal_of row_refusals uep_none sent_in
needs-run = needed_by (uep 1 32 0 35) (lit< tt) refl

pub run_uep_32 : Accepted (uep 1 32 0 35)
unfolding row_refusals uep_none uep_row uep_table is_for find uep_shape
run_uep_32 = refusal_by (uep 1 32 0 35) 2236 needs-run

-- 2-A at 8 kbit/s has no row, whatever the size; at 16 it needs 16 units
pub run_eep_8 : (n : ℕ) → RefusedBy 3 (eep 0 1 8 0 n)
unfolding refusal_of row_refusals eep_row first level_of unit
run_eep_8 n = refl

pub needs_16 : kept_size (profile_of (eep 0 1 16 0 16)) ≡ 1024
unfolding profile_of eep_profile first level_of unit row_refusal_of row_refusals eep_row sent_in
needs_16 = needed_by (eep 0 1 16 0 16) (lit< tt) refl

pub run_eep_16 : Accepted (eep 0 1 16 0 16)
unfolding row_refusals eep_row first level_of unit eep_shape
run_eep_16 = refusal_by (eep 0 1 16 0 16) 1024 needs_16
