-- What the depuncturers' promises say in their cases.
-- Assumes nothing.
use mathlib.Core.Path.{◌≡◌, refl, sym, ap, ◌∙◌}
use mathlib.Core.Bool.{Bool}
use mathlib.Core.List.{List, ◌++◌}
use Prim.Native.Nat.{ℕ, zero, suc, ◌<◌, ◌≤◌}
use native.Mathlib.Omega.{arith}
use borrow.Author.Tests.{lt-ltb, le-ltb}
use lib.Dec.{ltb}
use lib.ListN.{length, drop}
use lib.IntN.{ℤ}
use Rattle.spec_en300401.specs.Puncturing.{Region, mask, depuncture}
use Rattle.spec_en300401.proofs.Puncturing.{Usable}
use Rattle.refusal.specs.declared.Refusal.{Refusal}
use Rattle.std.specs.Prelude.{Result, Ok, Err}
use Rattle.refusal.specs.Outcome.{Outcome, refuses, outcome, unless_refused, check, or_else, numbered, told}
use Rattle.refusal.proofs.Laws.{or_else-zero, first-refused}
use Rattle.fec_protection.specs.declared.Description.{Description}
use Rattle.fec_protection.specs.Code.{regions_in}
use Rattle.fec_protection.specs.Params.{params_of}
use Rattle.fec_depuncturing.specs.Promises.{msc_refusal_of, DepuncturePromise, DepuncturedMsc}
use Rattle.fec_depuncturing.specs.Code.{Fillable, Filled}
use Rattle.fec_protection.specs.Promises.{JudgePromise}
use Rattle.fec_protection.specs.Refusals.{refusal_of, Accepted, depunctured_length, profile_of}
use Rattle.fec_protection.proofs.Accepted.{refused-from}
use Rattle.fec_protection.proofs.Params.{mask_by, mother_by, params_vectors}

-- 1 to 8: 1 to 7, or else 8
pub msc_split : (d : Description) (long : ℕ) → msc_refusal_of d long ≡ or_else (refusal_of d) (check 8 (ltb long (depunctured_length d)))
unfolding msc_refusal_of
msc_split d long = ap (or_else (refusal_of d)) (or_else-zero (check 8 (ltb long (depunctured_length d))))

-- the code's params of a profile are fillable where its mask is no longer than the output
pub params_fillable : (rs : List Region) → Usable rs → (long : ℕ) → length (mask rs) ≤ long → Fillable (params_of rs) long
params_fillable rs u long h = record { vectors = params_vectors rs u; fits = omega (arith, mother_by rs u) }

module _ {n need : ℕ} {profile : List Region} {soft before after : List ℤ} {r : Result (Unit {0}) Refusal} where
  -- refused by k: nothing changed
  pub fill_refused : (k : ℕ) → 0 < k → n ≡ k → told r ≡ outcome k tt → after ≡ before → DepuncturePromise n need profile soft before after r
  fill_refused zero h e a p = absurd (omega arith)
  fill_refused (suc k) h e a p =
      record {
        answer = a ∙ ap (λ (m : ℕ). outcome m tt) (sym e);
        places = p ∙ ap (λ (m : ℕ). unless_refused m (depuncture (mask profile) soft ++ drop need before) before) (sym e);
      }

  -- accepted: the code's params of the profile were filled in from the front
  pub fill_given : n ≡ 0 → r ≡ Ok tt → Usable profile → length (mask profile) ≡ need → need ≤ length before → {rest : List ℤ} → Filled (mask (regions_in (params_of profile))) soft before after rest → DepuncturePromise n need profile soft before after r
  fill_given e a u l h p =
      record {
        answer = ap told a ∙ ap (λ (m : ℕ). outcome m tt) (sym e);
        places =
            p.places ∙ ap (λ (ks : List Bool). depuncture ks soft ++ drop (length ks) before) (mask_by profile u)
            ∙ ap (λ (m : ℕ). depuncture (mask profile) soft ++ drop m before) l
            ∙ ap (λ (m : ℕ). unless_refused m (depuncture (mask profile) soft ++ drop need before) before) (sym e);
      }

module _ (d : Description) (soft before : List ℤ) where
  -- refused by 1 to 7
  pub msc_refused : (x : Refusal) {j : Result (Unit {0}) Refusal} → JudgePromise d j → j ≡ Err x → DepuncturedMsc d soft before before (Err x)
  msc_refused x {j} e q =
      record {
        answer = first-refused (refusal_of d) (check 8 (ltb (length before) (depunctured_length d))) tt tt (numbered x) r ∙ ap (λ (m : ℕ). outcome m tt) (sym (msc_split d (length before)));
        places = still (refusal_of d) r ∙ ap (λ (m : ℕ). unless_refused m (depuncture (mask (profile_of d)) soft ++ drop (depunctured_length d) before) before) (sym (msc_split d (length before)));
      }
    where
      r : ◌≡◌ {A = Outcome (Unit {0})} (refuses (numbered x)) (outcome (refusal_of d) tt)
      r = sym (refused-from d e (ap told q))

      still : (n : ℕ) → ◌≡◌ {A = Outcome (Unit {0})} (refuses (numbered x)) (outcome n tt) → before ≡ unless_refused (or_else n (check 8 (ltb (length before) (depunctured_length d)))) (depuncture (mask (profile_of d)) soft ++ drop (depunctured_length d) before) before
      still zero w = let z : ◌≡◌ {A = ℕ} 0 1 = cc in absurd (omega arith)
      still (suc n) w = refl

  -- accepted by 1 to 7: 8, or no refusal
  module _ (ok : Accepted d) where
    pub too_short : length before < depunctured_length d → msc_refusal_of d (length before) ≡ 8
    too_short h = msc_split d (length before) ∙ ap (λ (m : ℕ). or_else m (check 8 (ltb (length before) (depunctured_length d)))) ok ∙ ap (check 8) (lt-ltb (length before) (depunctured_length d) h)

    pub long_enough : depunctured_length d ≤ length before → msc_refusal_of d (length before) ≡ 0
    long_enough h = msc_split d (length before) ∙ ap (λ (m : ℕ). or_else m (check 8 (ltb (length before) (depunctured_length d)))) ok ∙ ap (check 8) (le-ltb (length before) (depunctured_length d) h)
