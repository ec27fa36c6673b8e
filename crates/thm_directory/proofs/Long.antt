-- What set-up says of a long form, by its option, level and size.
-- Assumes nothing.
use mathlib.Core.Path.{◌≡◌, refl, sym, ap, ◌∙◌, subst}
use Prim.Native.Nat.{ℕ, zero, suc, ◌+◌, ◌*◌, ◌/◌, ◌%◌, ◌<◌, ◌≤◌}
use native.Mathlib.Omega.{arith}
use native.Mathlib.Nat.{mul-mod_right, div-le_self, div-add-mod, div-eq_of_lt}
use Rattle.refusal.specs.Outcome.{first_of, or_else}
use Rattle.spec_en300401.specs.Puncturing.{kept_size}
use Rattle.spec_en300401.specs.Eep.{unit, level_of, first, eep_profile}
use Rattle.spec_en300401.specs.Organisation.{units_of, rate_of}
use Rattle.spec_en300401.proofs.Puncturing.{sent_in, in_table, kept-size}
use Rattle.spec_en300401.proofs.Eep.{eep_usable}
use Rattle.fec_protection.specs.declared.Description.{Description}
use Rattle.fec_protection.specs.Refusals.{profile_of, eep_row, row_refusals, row_refusal_of, eep_shape, shape_refusals, refusal_of}
use Rattle.fec_protection.proofs.Profiles.{refusal_split}
use Rattle.fec_protection.proofs.Rows.{option-refused, first-refused, row_given}
use Rattle.fec_protection.proofs.Shapes.{size-refused, eep-place}
use Rattle.fic_directory_places.specs.Promises.{description_of}
use Rattle.thm_directory.specs.Entries.{long_by, LongRefused, LongForms}

-- a size of k n units has n units of rate
units_in : (o l z : ℕ) → o ≤ 1 → l ≤ 3 → rate_of o l z / unit o ≡ z / units_of o l
unfolding rate_of unit
units_in zero zero z h k = omega arith
units_in zero (suc zero) z h k = omega arith
units_in zero (suc (suc zero)) z h k = omega arith
units_in zero (suc (suc (suc zero))) z h k = omega arith
units_in zero (suc (suc (suc (suc l)))) z h k = absurd (omega arith)
units_in (suc zero) zero z h k = omega arith
units_in (suc zero) (suc zero) z h k = omega arith
units_in (suc zero) (suc (suc zero)) z h k = omega arith
units_in (suc zero) (suc (suc (suc zero))) z h k = omega arith
units_in (suc zero) (suc (suc (suc (suc l)))) z h k = absurd (omega arith)
units_in (suc (suc o)) l z h k = absurd (omega arith)

whole-rate : (o l z : ℕ) → o ≤ 1 → l ≤ 3 → z % units_of o l ≡ 0 → rate_of o l z % unit o ≡ 0
unfolding rate_of unit
whole-rate zero zero z h k e = let q : 8 * z / 12 ≡ 8 * (z / 12) = omega arith in ap (λ (n : ℕ). n % 8) q ∙ mul-mod_right 8 (z / 12)
whole-rate zero (suc zero) z h k e = let q : 8 * z / 8 ≡ 8 * (z / 8) = omega arith in ap (λ (n : ℕ). n % 8) q ∙ mul-mod_right 8 (z / 8)
whole-rate zero (suc (suc zero)) z h k e = let q : 8 * z / 6 ≡ 8 * (z / 6) = omega arith in ap (λ (n : ℕ). n % 8) q ∙ mul-mod_right 8 (z / 6)
whole-rate zero (suc (suc (suc zero))) z h k e = let q : 8 * z / 4 ≡ 8 * (z / 4) = omega arith in ap (λ (n : ℕ). n % 8) q ∙ mul-mod_right 8 (z / 4)
whole-rate zero (suc (suc (suc (suc l)))) z h k e = absurd (omega arith)
whole-rate (suc zero) zero z h k e = let q : 32 * z / 27 ≡ 32 * (z / 27) = omega arith in ap (λ (n : ℕ). n % 32) q ∙ mul-mod_right 32 (z / 27)
whole-rate (suc zero) (suc zero) z h k e = let q : 32 * z / 21 ≡ 32 * (z / 21) = omega arith in ap (λ (n : ℕ). n % 32) q ∙ mul-mod_right 32 (z / 21)
whole-rate (suc zero) (suc (suc zero)) z h k e = let q : 32 * z / 18 ≡ 32 * (z / 18) = omega arith in ap (λ (n : ℕ). n % 32) q ∙ mul-mod_right 32 (z / 18)
whole-rate (suc zero) (suc (suc (suc zero))) z h k e = let q : 32 * z / 15 ≡ 32 * (z / 15) = omega arith in ap (λ (n : ℕ). n % 32) q ∙ mul-mod_right 32 (z / 15)
whole-rate (suc zero) (suc (suc (suc (suc l)))) z h k e = absurd (omega arith)
whole-rate (suc (suc o)) l z h k e = absurd (omega arith)

-- L1 before 3 is taken, by the units
few-first : (o l n : ℕ) → o ≤ 1 → l ≤ 3 → n ≡ 0 → (level_of o l).fold1 * n < 3
unfolding level_of
few-first zero zero n h k e = omega arith
few-first zero (suc zero) n h k e = omega arith
few-first zero (suc (suc zero)) n h k e = omega arith
few-first zero (suc (suc (suc zero))) n h k e = omega arith
few-first zero (suc (suc (suc (suc l)))) n h k e = absurd (omega arith)
few-first (suc zero) zero n h k e = omega arith
few-first (suc zero) (suc zero) n h k e = omega arith
few-first (suc zero) (suc (suc zero)) n h k e = omega arith
few-first (suc zero) (suc (suc (suc zero))) n h k e = omega arith
few-first (suc zero) (suc (suc (suc (suc l)))) n h k e = absurd (omega arith)
few-first (suc (suc o)) l n h k e = absurd (omega arith)

enough_first : (o l n : ℕ) → o ≤ 1 → l ≤ 3 → 1 ≤ n → (o ≡ 0 → l ≡ 1 → 2 ≤ n) → 3 ≤ (level_of o l).fold1 * n
unfolding level_of
enough_first zero zero n h k m f = omega arith
enough_first zero (suc zero) n h k m f = let two : 2 ≤ n = f refl refl in omega arith
enough_first zero (suc (suc zero)) n h k m f = omega arith
enough_first zero (suc (suc (suc zero))) n h k m f = omega arith
enough_first zero (suc (suc (suc (suc l)))) n h k m f = absurd (omega arith)
enough_first (suc zero) zero n h k m f = omega arith
enough_first (suc zero) (suc zero) n h k m f = omega arith
enough_first (suc zero) (suc (suc zero)) n h k m f = omega arith
enough_first (suc zero) (suc (suc (suc zero))) n h k m f = omega arith
enough_first (suc zero) (suc (suc (suc (suc l)))) n h k m f = absurd (omega arith)
enough_first (suc (suc o)) l n h k m f = absurd (omega arith)

-- what a row needs: its units' values
needed_is : (o l r : ℕ) → o ≤ 1 → l ≤ 3 → r < 65536 → 3 ≤ first o l r → kept_size (eep_profile o l r) ≡ 64 * (units_of o l * (r / unit o))
unfolding eep_profile first level_of unit sent_in
needed_is zero zero r h k s f = kept-size (in_table (eep_profile 0 0 r) (eep_usable r s 0 0).each) ∙ omega arith
needed_is zero (suc zero) r h k s f = kept-size (in_table (eep_profile 0 1 r) (eep_usable r s 0 1).each) ∙ omega arith
needed_is zero (suc (suc zero)) r h k s f = kept-size (in_table (eep_profile 0 2 r) (eep_usable r s 0 2).each) ∙ omega arith
needed_is zero (suc (suc (suc zero))) r h k s f = kept-size (in_table (eep_profile 0 3 r) (eep_usable r s 0 3).each) ∙ omega arith
needed_is zero (suc (suc (suc (suc l)))) r h k s f = absurd (omega arith)
needed_is (suc zero) zero r h k s f = kept-size (in_table (eep_profile 1 0 r) (eep_usable r s 1 0).each) ∙ omega arith
needed_is (suc zero) (suc zero) r h k s f = kept-size (in_table (eep_profile 1 1 r) (eep_usable r s 1 1).each) ∙ omega arith
needed_is (suc zero) (suc (suc zero)) r h k s f = kept-size (in_table (eep_profile 1 2 r) (eep_usable r s 1 2).each) ∙ omega arith
needed_is (suc zero) (suc (suc (suc zero))) r h k s f = kept-size (in_table (eep_profile 1 3 r) (eep_usable r s 1 3).each) ∙ omega arith
needed_is (suc zero) (suc (suc (suc (suc l)))) r h k s f = absurd (omega arith)
needed_is (suc (suc o)) l r h k s f = absurd (omega arith)

small-rate : (o l z : ℕ) → z < 1024 → rate_of o l z < 65536
unfolding rate_of
small-rate zero l z h = omega (arith, div-le_self (8 * z) (units_of 0 l))
small-rate (suc zero) l z h = omega (arith, div-le_self (32 * z) (units_of 1 l))
small-rate (suc (suc o)) l z h = omega arith

-- the size in units and what is over
parts : (k z : ℕ) → k * (z / k) + z % k ≡ z
parts k z = div-add-mod z k

-- how many units
one_of : (o l z : ℕ) → o ≤ 1 → l ≤ 3 → units_of o l ≤ z → 1 ≤ z / units_of o l
one_of zero zero z h k m = omega arith
one_of zero (suc zero) z h k m = omega arith
one_of zero (suc (suc zero)) z h k m = omega arith
one_of zero (suc (suc (suc zero))) z h k m = omega arith
one_of zero (suc (suc (suc (suc l)))) z h k m = absurd (omega arith)
one_of (suc zero) zero z h k m = omega arith
one_of (suc zero) (suc zero) z h k m = omega arith
one_of (suc zero) (suc (suc zero)) z h k m = omega arith
one_of (suc zero) (suc (suc (suc zero))) z h k m = omega arith
one_of (suc zero) (suc (suc (suc (suc l)))) z h k m = absurd (omega arith)
one_of (suc (suc o)) l z h k m = absurd (omega arith)

two_of : (o l z : ℕ) → o ≡ 0 → l ≡ 1 → 16 ≤ z → 2 ≤ z / units_of o l
two_of zero zero z e f h = absurd (omega arith)
two_of zero (suc zero) z e f h = omega arith
two_of zero (suc (suc l)) z e f h = absurd (omega arith)
two_of (suc o) l z e f h = absurd (omega arith)

first_2a : (o l z : ℕ) → o ≡ 0 → l ≡ 1 → z < 16 → (level_of o l).fold1 * (z / units_of o l) < 3
unfolding level_of
first_2a zero zero z e f h = absurd (omega arith)
first_2a zero (suc zero) z e f h = omega arith
first_2a zero (suc (suc l)) z e f h = absurd (omega arith)
first_2a (suc o) l z e f h = absurd (omega arith)

-- whole or not: what is over is 0 exactly where the size is what its units take
over_none : (k z : ℕ) → 64 * z ≡ 64 * (k * (z / k)) → z % k ≡ 0
over_none k z e = omega (arith, parts k z)

all-units : (k z : ℕ) → z % k ≡ 0 → 64 * z ≡ 64 * (k * (z / k))
all-units k z e = omega (arith, parts k z)

module _ (start o l z : ℕ) (small : z < 1024) where
  abbrev rate : ℕ
  rate = rate_of o l z

  abbrev d : Description
  d = description_of (long_by start o l z)

  split : refusal_of d ≡ or_else (first_of (eep_row o l rate)) (first_of (eep_shape o rate start z (kept_size (eep_profile o l rate))))
  unfolding row_refusal_of row_refusals shape_refusals profile_of
  split = refusal_split d

  by_row : (n : ℕ) → first_of (eep_row o l rate) ≡ suc n → refusal_of d ≡ suc n
  by_row n e = split ∙ ap (λ (m : ℕ). or_else m (first_of (eep_shape o rate start z (kept_size (eep_profile o l rate))))) e

  by_shape : first_of (eep_row o l rate) ≡ 0 → refusal_of d ≡ first_of (eep_shape o rate start z (kept_size (eep_profile o l rate)))
  by_shape e = split ∙ ap (λ (m : ℕ). or_else m (first_of (eep_shape o rate start z (kept_size (eep_profile o l rate))))) e

  first-is : o ≤ 1 → l ≤ 3 → first o l rate ≡ (level_of o l).fold1 * (z / units_of o l)
  unfolding first
  first-is h k = ap (λ (n : ℕ). (level_of o l).fold1 * n) (units_in o l z h k)

  given : o ≤ 1 → l ≤ 3 → 1 ≤ z / units_of o l → (o ≡ 0 → l ≡ 1 → 2 ≤ z / units_of o l) → (first_of (eep_row o l rate) ≡ 0) × (kept_size (eep_profile o l rate) ≡ 64 * (units_of o l * (z / units_of o l)))
  given h k m f =
      let three : 3 ≤ first o l rate = subst (λ (n : ℕ). 3 ≤ n) (sym (first-is h k)) (enough_first o l (z / units_of o l) h k m f) in
      (row_given o l rate h k three, needed_is o l rate h k (small-rate o l z small) three ∙ ap (λ (n : ℕ). 64 * (units_of o l * n)) (units_in o l z h k))

  refused-three : o ≤ 1 → l ≤ 3 → first o l rate < 3 → refusal_of d ≡ 3
  refused-three h k f = by_row 2 (first-refused o l rate h k f)

  pub long-refused : LongRefused start o l z
  long-refused =
      record {
        reserved = λ h. by_row 0 (option-refused o l rate h);
        too_few = λ h k m. refused-three h k (subst (λ (n : ℕ). n < 3) (sym (first-is h k)) (few-first o l (z / units_of o l) h k (div-eq_of_lt m)));
        one_at_2a = λ e f m. let h : o ≤ 1 = omega arith in let k : l ≤ 3 = omega arith in refused-three h k (subst (λ (n : ℕ). n < 3) (sym (first-is h k)) (first_2a o l z e f m));
        not_whole =
            λ h k m f n.
            let g = given h k (one_of o l z h k m) (λ p q. two_of o l z p q (f p q)) in
            by_shape g.0 ∙ size-refused start z o rate (kept_size (eep_profile o l rate)) (λ e. n (over_none (units_of o l) z (e ∙ g.1)));
        whole =
            λ h k m f n.
            let g = given h k (one_of o l z h k m) (λ p q. two_of o l z p q (f p q)) in
            by_shape g.0 ∙ eep-place start z o rate (kept_size (eep_profile o l rate)) (all-units (units_of o l) z n ∙ sym g.1) (whole-rate o l z h k n);
      }

pub long_forms : LongForms
long_forms start o l z h = long-refused start o l z h
