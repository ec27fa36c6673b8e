-- What holds of every accepted description: the laws that a caller cites, with no bound asked of it.
-- Assumes nothing.
use mathlib.Core.Path.{◌≡◌, refl, sym, ap, ◌∙◌}
use mathlib.Core.Bool.{Bool, true, false, cond}
use mathlib.Core.List.{List, [], ◌∷◌}
use mathlib.Core.Option.{Option, none, some}
use Prim.Native.Nat.{ℕ, zero, suc, ◌+◌, ◌*◌, ◌%◌, ◌<◌, ◌≤◌}
use native.Mathlib.Omega.{arith}
use borrow.Author.Tests.{eq-eqb, eqb-true, not-false}
use lib.Dec.{eqb}
use lib.ListN.{length}
use Rattle.laws.specs.Lists.{count}
use Rattle.spec_en300401.specs.Eep.{unit, level_of, first, eep_profile}
use Rattle.spec_en300401.specs.Interleaving.{units, unit_bits, cif_bits}
use Rattle.spec_en300401.specs.Puncturing.{mask, kept_size}
use Rattle.spec_en300401.specs.Uep.{Row, uep_row, regions_of, uep_profile}
use Rattle.spec_en300401.proofs.Puncturing.{Firsts, no_more, group, firsts-mask, Usable, blocks_in, length-mask}
use Rattle.spec_en300401.proofs.Uep.{uep-length}
use Rattle.std.specs.Prelude.{Result, Ok}
use Rattle.refusal.specs.declared.Refusal.{Refusal}
use Rattle.refusal.specs.Outcome.{gives, refuses, outcome, check, first_of, told}
use Rattle.refusal.proofs.Laws.{given_number}
use Rattle.refusal.proofs.Told.{is-ok}
use Rattle.fec_protection.specs.declared.Description.{Description}
use Rattle.fec_protection.specs.declared.ProtectionParams.{ProtectionParams}
use Rattle.fec_protection.specs.Params.{params_of}
use Rattle.fec_protection.specs.Promises.{JudgePromise, RowPromise}
use Rattle.fec_protection.specs.Refusals.{is_none, profile_of, eep_row, uep_none, row_refusals, row_refusal_of, refusal_of, judgement, Accepted, RefusedBy, is_refused, depunctured_length}
use Rattle.fec_protection.proofs.Profiles.{row_of-accepted, accepted-place, accepted-size, accepted-length, accepted-rate, profile_usable, needed_fours}

-- ---- when it is accepted

module _ (d : Description) where
  -- by the test
  pub accepted_passes : Accepted d → is_refused d ≡ false
  accepted_passes ok = rw (eq-eqb (refusal_of d) 0 ok) refl

  pub passes_accepted : is_refused d ≡ false → Accepted d
  passes_accepted h = eqb-true (refusal_of d) 0 (not-false (eqb (refusal_of d) 0) h)

  -- by what is answered
  pub given : Accepted d → judgement d ≡ gives tt
  given ok = ap (λ (n : ℕ). outcome n tt) ok

  pub accepted-from : {j : Result (Unit {0}) Refusal} → JudgePromise d j → told j ≡ gives tt → Accepted d
  accepted-from p e = given_number (refusal_of d) tt tt (sym e ∙ p.answer)

  pub refused-from : {j : Result (Unit {0}) Refusal} {n : ℕ} → JudgePromise d j → told j ≡ refuses n → RefusedBy n d
  refused-from p e = sym p.answer ∙ e

  -- then its row is given
  pub accepted_params : Accepted d → {r : Result ProtectionParams Refusal} → RowPromise (row_refusal_of d) (profile_of d) r → r ≡ Ok (params_of (profile_of d))
  accepted_params ok {r} p = is-ok r (row_refusal_of d) (params_of (profile_of d)) p.answer (row_of-accepted d ok)

-- ---- its place and size

module _ (d : Description) (ok : Accepted d) where
  -- it lies within the CIF
  pub units-inside : d.start_addr + d.sub_size ≤ units
  units-inside = accepted-place d ok

  pub values-inside : unit_bits * d.start_addr + unit_bits * d.sub_size ≤ cif_bits
  values-inside = omega (arith, accepted-place d ok)

  -- it holds what its profile keeps, and at most 8 values more
  pub kept-fits : kept_size (profile_of d) ≤ unit_bits * d.sub_size
  kept-fits = (accepted-size d ok).0

  pub little_over : unit_bits * d.sub_size ≤ kept_size (profile_of d) + 8
  little_over = (accepted-size d ok).1

-- ---- its bit rate: sixteen bits hold it, since a word of so many places keeps no more than a CIF has

-- at least one place in four is kept
count_more : (b : Bool) (ks : List Bool) → count ks ≤ count (b ∷ ks)
unfolding count
count_more true ks = omega arith
count_more false ks = omega arith

quarter : {ks : List Bool} → Firsts ks → length ks ≤ 4 * count ks
unfolding count
quarter no_more = omega arith
quarter (group {a} {b} {c} {ks} f) = omega (arith, quarter f, count_more c ks, count_more b (c ∷ ks), count_more a (b ∷ c ∷ ks))

-- so the mother code word has at most four times the places of a CIF
word_most : (d : Description) → Accepted d → length (mask (profile_of d)) ≤ 221184
unfolding kept_size
word_most d a = omega (arith, quarter (firsts-mask (profile_of d)), (accepted-size d a).0, accepted-place d a)

eep-small : (o l rate : ℕ) → length (mask (eep_profile o l rate)) ≤ 221184 → rate < 65536
unfolding eep_profile first level_of unit blocks_in
eep-small zero zero rate h = omega (arith, length-mask (eep_profile 0 0 rate))
eep-small zero (suc zero) rate h = omega (arith, length-mask (eep_profile 0 1 rate))
eep-small zero (suc (suc zero)) rate h = omega (arith, length-mask (eep_profile 0 2 rate))
eep-small zero (suc (suc (suc l))) rate h = omega (arith, length-mask (eep_profile 0 (suc (suc (suc l))) rate))
eep-small (suc o) zero rate h = omega (arith, length-mask (eep_profile (suc o) 0 rate))
eep-small (suc o) (suc zero) rate h = omega (arith, length-mask (eep_profile (suc o) 1 rate))
eep-small (suc o) (suc (suc zero)) rate h = omega (arith, length-mask (eep_profile (suc o) 2 rate))
eep-small (suc o) (suc (suc (suc l))) rate h = omega (arith, length-mask (eep_profile (suc o) (suc (suc (suc l))) rate))

uep-small : (rate l : ℕ) → first_of (uep_none rate l) ≡ 0 → length (mask (uep_profile rate l)) ≤ 221184 → rate < 65536
unfolding uep_none uep_profile
uep-small rate l e h = go (uep_row rate l) refl e h
  where
    go : (o : Option Row) → uep_row rate l ≡ o → first_of (check 4 (is_none o) ∷ []) ≡ 0 → length (mask (regions_of o)) ≤ 221184 → rate < 65536
    go none q z h = absurd (omega arith)
    go (some p) q z h = omega (arith, uep-length rate l q)

pub rate-fits : (d : Description) → Accepted d → d.bitrate < 65536
unfolding profile_of row_refusal_of row_refusals
rate-fits d a = go d.is_eep (row_of-accepted d a) (word_most d a)
  where
    go : (b : Bool) → first_of (cond b (eep_row d.eep_option d.protection_level d.bitrate) (uep_none d.bitrate d.protection_level)) ≡ 0
        → length (mask (cond b (eep_profile d.eep_option d.protection_level d.bitrate) (uep_profile d.bitrate d.protection_level))) ≤ 221184 → d.bitrate < 65536
    go true z h = eep-small d.eep_option d.protection_level d.bitrate h
    go false z h = uep-small d.bitrate d.protection_level z h

-- ---- and so what its profile and its code word are

module _ (d : Description) (ok : Accepted d) where
  pub rate_bound : d.bitrate < 2048
  rate_bound = accepted-rate d (rate-fits d ok) ok

  -- the mother code word: 96 places for each kbit/s, and the tail
  pub word_length : length (mask (profile_of d)) ≡ depunctured_length d
  word_length = accepted-length d (rate-fits d ok) ok

  -- at most four regions, short ones, under the vectors
  pub usable : Usable (profile_of d)
  usable = profile_usable d (rate-fits d ok) (row_of-accepted d ok)

  -- what is kept is a multiple of 4, so that no excess is 9
  pub kept_fours : kept_size (profile_of d) % 4 ≡ 0
  kept_fours = needed_fours d (rate-fits d ok) (row_of-accepted d ok)
