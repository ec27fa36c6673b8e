-- The rows of the two kinds: which refusal is first, and what the code holds of a profile.
-- Assumes nothing.
use mathlib.Core.Path.{◌≡◌, refl, sym, ap, ap₂, ◌∙◌}
use mathlib.Core.Bool.{Bool, true, false, true≢false}
use mathlib.Core.List.{List, [], ◌∷◌}
use mathlib.Core.Option.{Option, none, some}
use Prim.Native.Nat.{ℕ, zero, suc, ◌+◌, ◌*◌, ◌-◌, ◌/◌, ◌<◌, ◌≤◌}
use native.Mathlib.Omega.{arith}
use borrow.Author.Tests.{lt-ltb, le-ltb, ne_eqb}
use lib.Dec.{eqb}
use lib.ListN.{get_or}
use Rattle.spec_en300401.specs.Puncturing.{Region}
use Rattle.spec_en300401.specs.Eep.{unit, level_of, first, eep_profile}
use Rattle.spec_en300401.specs.Uep.{Row, uep_row, regions_of, uep_profile}
use Rattle.spec_en300401.proofs.Eep.{eep_usable, first-blocks}
use Rattle.fec_profiles.specs.declared.UepProfile.{UepProfile}
use Rattle.fec_profiles.specs.Rows.{index, sections_of, profile_row, found}
use Rattle.std.specs.Prelude.{«Option» as Perhaps, Ok, Err, Some, None}
use Rattle.refusal.specs.declared.Refusal.TheVariants.{NoProfile}
use Rattle.refusal.specs.Outcome.{gives, outcome, check, first_of}
use Rattle.fec_protection.specs.declared.TheConstants.{EEP_LEVELS}
use Rattle.fec_protection.specs.declared.EepLevel.{EepLevel}
use Rattle.fec_protection.specs.declared.ProtectionParams.{ProtectionParams}
use Rattle.fec_protection.specs.Code.{level_row, empty}
use Rattle.fec_protection.specs.Params.{params_of}
use Rattle.fec_protection.specs.Refusals.{is_none, eep_row, uep_none}
use Rattle.fec_protection.specs.Promises.{RowPromise}

-- the code's levels are the standard's
abbrev pub numbers : EepLevel → List ℕ
numbers r = r.fold1 ∷ r.fold2 ∷ r.pi1 ∷ r.pi2 ∷ []

pub level_is : (d : List (List ℕ)) (e : List ℕ) (o l : ℕ) → o ≤ 1 → l ≤ 3 → get_or (get_or EEP_LEVELS o d) l e ≡ numbers (level_row o l)
unfolding level_row level_of
level_is d e zero zero h k = refl
level_is d e zero (suc zero) h k = refl
level_is d e zero (suc (suc zero)) h k = refl
level_is d e zero (suc (suc (suc zero))) h k = refl
level_is d e zero (suc (suc (suc (suc l)))) h k = absurd (omega arith)
level_is d e (suc zero) zero h k = refl
level_is d e (suc zero) (suc zero) h k = refl
level_is d e (suc zero) (suc (suc zero)) h k = refl
level_is d e (suc zero) (suc (suc (suc zero))) h k = refl
level_is d e (suc zero) (suc (suc (suc (suc l)))) h k = absurd (omega arith)
level_is d e (suc (suc o)) l h k = absurd (omega arith)

-- the first refusal of 1 to 3, each from its test and those before it
module _ (o l rate : ℕ) where
  pub option-refused : 1 < o → first_of (eep_row o l rate) ≡ 1
  unfolding eep_row
  option-refused h = rw (lt-ltb 1 o h) refl

  pub level-refused : o ≤ 1 → 3 < l → first_of (eep_row o l rate) ≡ 2
  unfolding eep_row
  level-refused h k = rw (le-ltb 1 o h, lt-ltb 3 l k) refl

  pub first-refused : o ≤ 1 → l ≤ 3 → first o l rate < 3 → first_of (eep_row o l rate) ≡ 3
  unfolding eep_row
  first-refused h k m = rw (le-ltb 1 o h, le-ltb 3 l k, lt-ltb (first o l rate) 3 m) refl

  pub row_given : o ≤ 1 → l ≤ 3 → 3 ≤ first o l rate → first_of (eep_row o l rate) ≡ 0
  unfolding eep_row
  row_given h k m = rw (le-ltb 1 o h, le-ltb 3 l k, le-ltb (first o l rate) 3 m) refl

  -- the code's row and units
  module _ (row : EepLevel) (n : ℕ) (e : row ≡ level_row o l) (u : n ≡ rate / unit o) where
    pub first-is : row.fold1 * n ≡ first o l rate
    unfolding first level_row
    first-is = ap₂ (λ (r : EepLevel) (m : ℕ). r.fold1 * m) e u

    pub second_is : row.fold2 * n ≡ (level_of o l).fold2 * (rate / unit o)
    unfolding level_row
    second_is = ap₂ (λ (r : EepLevel) (m : ℕ). r.fold2 * m) e u

    pub first_small : rate < 65536 → row.fold1 * n < 65540
    unfolding eep_profile
    first_small s = omega (arith, first-is, ((eep_usable rate s o l).each 0).short)

    pub second-small : rate < 65536 → row.fold2 * n < 65536
    unfolding eep_profile
    second-small s = omega (arith, second_is, ((eep_usable rate s o l).each 1).short)

    pub eep_made : 3 ≤ row.fold1 * n → ◌≡◌ {A = ProtectionParams} (record { sections = record { blocks = row.fold1 * n - 3; pi = row.pi1 } ∷ record { blocks = row.fold2 * n + 3; pi = row.pi2 } ∷ empty ∷ empty ∷ [] }) (params_of (eep_profile o l rate))
    unfolding sections_of eep_profile index level_row
    eep_made h =
        let m : 3 < first o l rate = first-blocks o l rate (omega (arith, first-is)) in
        let p : eqb (first o l rate - 3) 0 ≡ false = ne_eqb (first o l rate - 3) 0 (λ z. omega arith) in
        let q : eqb ((level_of o l).fold2 * (rate / unit o) + 3) 0 ≡ false = ne_eqb ((level_of o l).fold2 * (rate / unit o) + 3) 0 (λ z. omega arith) in
        rw (p, q) (λ i. record { sections = record { blocks = first-is i - 3; pi = (e i).pi1 } ∷ record { blocks = second_is i + 3; pi = (e i).pi2 } ∷ empty ∷ empty ∷ [] })

abbrev none_found : Perhaps UepProfile
none_found = None

-- the scan's answer: a row, or refusal 4
module _ (k l : ℕ) where
  pub uep_made : (p : UepProfile) → Some p ≡ found (uep_row k l) → RowPromise (first_of (uep_none k l)) (uep_profile k l) (Ok (record { sections = p.sections }))
  unfolding uep_none uep_profile profile_row
  uep_made p e = go (uep_row k l) e
    where
      go : (o : Option Row) → Some p ≡ found o → RowPromise (first_of (check 4 (is_none o) ∷ [])) (regions_of o) (Ok (record { sections = p.sections }))
      go none q = let z : ◌≡◌ {A = Bool} true false = cc in absurd (true≢false z)
      go (some r) q = let w : p ≡ profile_row r = cc in record { answer = ap (λ (x : UepProfile). gives (record { sections = x.sections })) w }

  pub uep_missing : none_found ≡ found (uep_row k l) → RowPromise (first_of (uep_none k l)) (uep_profile k l) (Err NoProfile)
  unfolding uep_none uep_profile
  uep_missing e = go (uep_row k l) e
    where
      go : (o : Option Row) → none_found ≡ found o → RowPromise (first_of (check 4 (is_none o) ∷ [])) (regions_of o) (Err NoProfile)
      go none q = record { answer = refl }
      go (some r) q = let z : ◌≡◌ {A = Bool} true false = cc in absurd (true≢false z)

-- a row that is given
pub given_row : {n : ℕ} {profile : List Region} {params : ProtectionParams} → n ≡ 0 → params ≡ params_of profile → RowPromise n profile (Ok params)
given_row {n} {profile} e p = record { answer = ap gives p ∙ ap (λ (m : ℕ). outcome m (params_of profile)) (sym e) }
