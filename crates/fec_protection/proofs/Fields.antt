-- The level of an accepted description fits its byte, as its place and bit rate fit theirs.
-- Assumes nothing.
use mathlib.Core.Path.{◌≡◌, refl}
use mathlib.Core.Bool.{Bool, true, false, cond}
use mathlib.Core.List.{[], ◌∷◌}
use mathlib.Core.Option.{Option, none, some}
use Prim.Native.Nat.{ℕ, ◌≤◌}
use native.Mathlib.Omega.{arith}
use borrow.Author.Tests.{ltb-false}
use lib.Dec.{T, ltb, leb, leb→le}
use Rattle.laws.specs.Tables.{every}
use Rattle.laws.proofs.Lists.{found_every}
use Rattle.spec_en300401.specs.Eep.{first}
use Rattle.spec_en300401.specs.Uep.{Row, uep_table, is_for, uep_row}
use Rattle.spec_en300401.proofs.Uep.{uep-level}
use Rattle.refusal.specs.Outcome.{check, first_of}
use Rattle.refusal.proofs.Checks.{clean, zeroed, later, held_not}
use Rattle.fec_protection.specs.declared.Description.{Description}
use Rattle.fec_protection.specs.Refusals.{Accepted, is_none, eep_row, uep_none, row_refusals, row_refusal_of}
use Rattle.fec_protection.proofs.Profiles.{row_of-accepted}

has_level : Row → Bool
has_level p = leb p.level 5

all_levels : T (every (λ (i : ℕ). has_level) 0 uep_table)
unfolding uep_table has_level
all_levels = tt

row_low : (k l : ℕ) {p : Row} → uep_row k l ≡ some p → p.level ≤ 5
unfolding uep_row has_level
row_low k l {p} e = leb→le p.level 5 (found_every (is_for k l) (λ (i : ℕ). has_level) 0 uep_table p (λ j. refl) all_levels e)

uep_low : (k l : ℕ) → first_of (uep_none k l) ≡ 0 → l ≤ 255
unfolding uep_none
uep_low k l e = go (uep_row k l) refl e
  where
    go : (o : Option Row) → uep_row k l ≡ o → first_of (check 4 (is_none o) ∷ []) ≡ 0 → l ≤ 255
    go none q z = absurd (omega arith)
    go (some p) q z = omega (arith, uep-level k l q, row_low k l q)

eep_low : (o l rate : ℕ) → first_of (eep_row o l rate) ≡ 0 → l ≤ 255
unfolding eep_row
eep_low o l rate e =
    let low : l ≤ 3 = ltb-false 3 l (held_not 1 (ltb 3 l) (zeroed (later (clean (check 1 (ltb 1 o) ∷ check 2 (ltb 3 l) ∷ check 3 (ltb (first o l rate) 3) ∷ []) e)))) in
    omega arith

-- an accepted description's level is one byte; its option is bounded for EEP alone, where it is looked at
pub level-fits : (d : Description) → Accepted d → d.protection_level ≤ 255
unfolding row_refusal_of row_refusals
level-fits d ok = go d.is_eep (row_of-accepted d ok)
  where
    go : (b : Bool) → first_of (cond b (eep_row d.eep_option d.protection_level d.bitrate) (uep_none d.bitrate d.protection_level)) ≡ 0 → d.protection_level ≤ 255
    go true z = eep_low d.eep_option d.protection_level d.bitrate z
    go false z = uep_low d.bitrate d.protection_level z
