-- What a lookup's promise says in its two cases.
-- Assumes nothing.
use mathlib.Core.Path.{◌≡◌, sym, ap, ◌∙◌, subst}
use mathlib.Core.Bool.{Bool, true, false, cond}
use mathlib.Core.List.{List}
use Prim.Native.Nat.{ℕ, ◌<◌}
use Rattle.std.specs.Prelude.{Result, Ok, Err}
use Rattle.spec_en300401.specs.Puncturing.{Region, kept_size}
use Rattle.spec_en300401.proofs.Puncturing.{Usable}
use Rattle.refusal.specs.declared.Refusal.{Refusal}
use Rattle.refusal.specs.Outcome.{gives, outcome, or_else, first_of, numbered, told}
use Rattle.refusal.proofs.Laws.{first-refused}
use Rattle.refusal.proofs.Told.{ok-number, ok-value, passed_on}
use Rattle.fec_protection.specs.declared.Description.{Description}
use Rattle.fec_protection.specs.declared.ProtectionParams.{ProtectionParams}
use Rattle.fec_protection.specs.Code.{Bounded}
use Rattle.fec_protection.specs.Params.{params_of}
use Rattle.fec_protection.specs.Promises.{JudgePromise, RowPromise, SizePromise}
use Rattle.fec_protection.specs.Refusals.{profile_of, row_refusal_of, refusal_of, eep_shape, uep_shape, shape_refusals}
use Rattle.fec_protection.proofs.Params.{params_bounded}
use Rattle.fec_protection.proofs.Profiles.{profile_usable, refusal_split}

module _ (d : Description) {r : Result ProtectionParams Refusal} (p : RowPromise (row_refusal_of d) (profile_of d) r) where
  -- given: the params are those of the profile, which is usable
  module _ {params : ProtectionParams} (q : r ≡ Ok params) where
    pub row-none : row_refusal_of d ≡ 0
    row-none = ok-number (row_refusal_of d) (params_of (profile_of d)) p.answer q

    pub row_params : params ≡ params_of (profile_of d)
    row_params = ok-value (row_refusal_of d) (params_of (profile_of d)) p.answer q

    pub row_usable : d.bitrate < 65536 → Usable (profile_of d)
    row_usable h = profile_usable d h row-none

    pub row_bounded : d.bitrate < 65536 → Bounded params
    row_bounded h = subst Bounded (sym row_params) (params_bounded (profile_of d) (row_usable h))

    -- a size of the params that is the profile's, by a rule that holds of every usable one
    pub size_by :
        (size : List Region → ℕ) (rule : ProtectionParams → ℕ) (n : ℕ) → d.bitrate < 65536 → (Usable (profile_of d) → rule (params_of (profile_of d)) ≡ size (profile_of d)) → n ≡ rule params
        → SizePromise size d (Ok n)
    size_by size rule n h law e = record { answer = ap gives (e ∙ ap rule row_params ∙ law (row_usable h)) ∙ ap (λ (m : ℕ). outcome m (size (profile_of d))) (sym row-none) }

  -- refused: so is every size
  pub size_refused : (size : List Region → ℕ) (x : Refusal) → r ≡ Err x → SizePromise size d (Err x)
  size_refused size x q = record { answer = passed_on (row_refusal_of d) (params_of (profile_of d)) (size (profile_of d)) x (sym (ap told q) ∙ p.answer) }

-- the judgement, from the needed size
module _ (d : Description) {s : Result ℕ Refusal} (p : SizePromise kept_size d s) where
  pub judge_refused : (x : Refusal) → s ≡ Err x → JudgePromise d (Err x)
  judge_refused x q =
      record {
        answer =
            first-refused (row_refusal_of d) (first_of (shape_refusals d)) (kept_size (profile_of d)) tt (numbered x) (sym (ap told q) ∙ p.answer)
            ∙ ap (λ (n : ℕ). outcome n tt) (sym (refusal_split d));
      }

  module _ (n : ℕ) (q : s ≡ Ok n) where
    needed_is : n ≡ kept_size (profile_of d)
    needed_is = ok-value (row_refusal_of d) (kept_size (profile_of d)) p.answer q

    shape_is : refusal_of d ≡ first_of (shape_refusals d)
    shape_is = refusal_split d ∙ ap (λ (m : ℕ). or_else m (first_of (shape_refusals d))) (ok-number (row_refusal_of d) (kept_size (profile_of d)) p.answer q)

    pub judge_eep_shape : (r : Result (Unit {0}) Refusal) → d.is_eep ≡ true → told r ≡ outcome (first_of (eep_shape d.eep_option d.bitrate d.start_addr d.sub_size n)) tt → JudgePromise d r
    unfolding shape_refusals
    judge_eep_shape r t e =
        record {
          answer =
              e ∙ ap (λ (m : ℕ). outcome (first_of (eep_shape d.eep_option d.bitrate d.start_addr d.sub_size m)) tt) needed_is
              ∙ ap (λ (b : Bool). outcome (first_of (cond b (eep_shape d.eep_option d.bitrate d.start_addr d.sub_size (kept_size (profile_of d))) (uep_shape d.start_addr d.sub_size (kept_size (profile_of d))))) tt) (sym t)
              ∙ ap (λ (m : ℕ). outcome m tt) (sym shape_is);
        }

    pub judge_uep_shape : (r : Result (Unit {0}) Refusal) → d.is_eep ≡ false → told r ≡ outcome (first_of (uep_shape d.start_addr d.sub_size n)) tt → JudgePromise d r
    unfolding shape_refusals
    judge_uep_shape r t e =
        record {
          answer =
              e ∙ ap (λ (m : ℕ). outcome (first_of (uep_shape d.start_addr d.sub_size m)) tt) needed_is
              ∙ ap (λ (b : Bool). outcome (first_of (cond b (eep_shape d.eep_option d.bitrate d.start_addr d.sub_size (kept_size (profile_of d))) (uep_shape d.start_addr d.sub_size (kept_size (profile_of d))))) tt) (sym t)
              ∙ ap (λ (m : ℕ). outcome m tt) (sym shape_is);
        }
