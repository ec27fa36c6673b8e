-- Document 01, "The numbers that turn a caller away": refusals 1 to 7 of a description, in its order; 0 stands for none.
use Rattle.std.specs.Prelude.{◌≡◌, Bool, true, false, cond, not, ◌||◌, List, [], ◌∷◌, ◌++◌, ℕ, ◌+◌, ◌*◌, ◌%◌, eqb, ltb}
use Rattle.std.proofs.Math.Option.{Option, none, some}
use Rattle.spec_en300401.specs.Puncturing.{Region, kept_size}
use Rattle.spec_en300401.specs.Interleaving.{units}
use Rattle.spec_en300401.specs.Eep.{unit, first, eep_profile}
use Rattle.spec_en300401.specs.Uep.{Row, uep_row, uep_profile}
use Rattle.refusal.specs.Outcome.{Outcome, refuses, outcome, check, first_of}
use Rattle.fec_protection.specs.declared.Description.{Description}

abbrev pub is_none : Option Row → Bool
is_none none = true
is_none (some p) = false

-- the protection profile of a description, EEP and UEP alike
unfoldable pub profile_of : Description → List Region
profile_of d =
    cond d.is_eep (eep_profile d.eep_option d.protection_level d.bitrate) (uep_profile d.bitrate d.protection_level)

-- 1: option above 1; 2: level above 3; 3: L1 negative
unfoldable pub eep_row : ℕ → ℕ → ℕ → List ℕ
eep_row option level rate = check 1 (ltb 1 option) ∷ check 2 (ltb 3 level) ∷ check 3 (ltb (first option level rate) 3) ∷ []

-- 4: no UEP profile for rate and level
unfoldable pub uep_none : ℕ → ℕ → List ℕ
uep_none rate level = check 4 (is_none (uep_row rate level)) ∷ []

-- 1 to 4: there is no row
unfoldable pub row_refusals : Description → List ℕ
row_refusals d = cond d.is_eep (eep_row d.eep_option d.protection_level d.bitrate) (uep_none d.bitrate d.protection_level)

-- 7: start plus size above 864
abbrev pub outside : ℕ → ℕ → ℕ
outside start size = check 7 (ltb units (start + size))

-- 5: the size differs; 6: the bitrate is no multiple of 8 or 32; 7
unfoldable pub eep_shape : ℕ → ℕ → ℕ → ℕ → ℕ → List ℕ
eep_shape option rate start size needed = check 5 (not (eqb (64 * size) needed)) ∷ check 6 (not (eqb (rate % unit option) 0)) ∷ outside start size ∷ []

-- 5: the size is less than needed, or over by more than 8 values; 7
unfoldable pub uep_shape : ℕ → ℕ → ℕ → List ℕ
uep_shape start size needed = check 5 (ltb (64 * size) needed || ltb (needed + 8) (64 * size)) ∷ outside start size ∷ []

-- 5 to 7
unfoldable pub shape_refusals : Description → List ℕ
shape_refusals d =
    cond d.is_eep (eep_shape d.eep_option d.bitrate d.start_addr d.sub_size (kept_size (profile_of d)))
    (uep_shape d.start_addr d.sub_size (kept_size (profile_of d)))

-- the first of 1 to 4
unfoldable pub row_refusal_of : Description → ℕ
row_refusal_of d = first_of (row_refusals d)

-- the first of 1 to 7
unfoldable pub refusal_of : Description → ℕ
refusal_of d = first_of (row_refusals d ++ shape_refusals d)

-- what is answered of a description: accepted, or its first refusal
abbrev pub judgement : Description → Outcome (Unit {0})
judgement d = outcome (refusal_of d) tt

-- none of 1 to 7
abbrev pub Accepted : Description → Type 0
Accepted d = refusal_of d ≡ 0

-- n is the first of 1 to 7
abbrev pub RefusedBy : ℕ → Description → Type 0
RefusedBy n d = judgement d ≡ refuses n

-- some refusal of 1 to 7, as a test
abbrev pub is_refused : Description → Bool
is_refused d = not (eqb (refusal_of d) 0)

-- 96 × bitrate + 24: the needed length of what is depunctured
abbrev pub depunctured_length : Description → ℕ
depunctured_length d = 96 * d.bitrate + 24
