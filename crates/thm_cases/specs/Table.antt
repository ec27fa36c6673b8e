-- Document 01, "Twelve cases proved as one table".
use Rattle.std.specs.Prelude.{◌≡◌, List, [], ◌∷◌, ◌++◌, ℕ, ◌+◌, ◌*◌, ◌≤◌, length, drop, replicate, ℤ, pos, neg_ℤ, Result, Ok}
use Rattle.spec_en300401.specs.Dispersal.{disperse}
use Rattle.spec_en300401.specs.Puncturing.{kept_size}
use Rattle.spec_trellis.specs.Trellis.{Ends, zero_end, free_end}
use Rattle.fec_protection.specs.declared.Description.{Description}
use Rattle.fec_protection.specs.Descriptions.{eep, uep}
use Rattle.fec_protection.specs.Refusals.{profile_of, judgement}
use Rattle.refusal.specs.Outcome.{Outcome, gives, refuses, told}
use Rattle.refusal.specs.declared.Refusal.{Refusal}
use Rattle.fec_viterbi.specs.declared.Score.{Score}
use Rattle.fec_viterbi.specs.Decoders.{steps, Decoded}
use Rattle.fec_viterbi.specs.Result.{Decodes}

-- a case: what is given, and what must come out
pub data Case : Type 0 where
  -- soft values, by the decoder of these ends: bits and metric
  decoded : Ends → List ℤ → List ℕ → ℤ → Case
  -- the same by either decoder
  decoded_by_both : List ℤ → List ℕ → ℤ → Case
  -- and the state that the path starts in
  decoded_from : Ends → List ℤ → List ℕ → ℤ → ℕ → Case
  -- values, and what they are dispersed to
  dispersed : List ℕ → List ℕ → Case
  -- a description, and whether it is accepted or by what number it is refused
  judged : Description → Outcome (Unit {0}) → Case
  -- the same, with how many values it needs and by how many its size is over
  sized : Description → ℕ → ℕ → Outcome (Unit {0}) → Case

-- decoding gives these bits and this metric, and no others
pub record Answers (ends : Ends) (xs : List ℤ) (bits : List ℕ) (metric : ℤ) : Type 0 where
  pub gives : Decodes ends xs (steps xs) bits metric
  pub only : {bs : List ℕ} {m : ℤ} → Decodes ends xs (steps xs) bs m → (bs ≡ bits) × (m ≡ metric)

-- and its path starts in this state
pub record AnswersFrom (ends : Ends) (xs : List ℤ) (bits : List ℕ) (metric : ℤ) (start : ℕ) : Type 0 where
  pub answers : Answers ends xs bits metric
  pub from : {bs : List ℕ} {m : ℤ} (f : Decodes ends xs (steps xs) bs m) → f.start ≡ start

pub record Sized (d : Description) (needed over : ℕ) (verdict : Outcome (Unit {0})) : Type 0 where
  pub needs : kept_size (profile_of d) ≡ needed
  pub has : 64 * d.sub_size ≡ needed + over
  pub judged : judgement d ≡ verdict

-- what a case says
unfoldable pub Holds : Case → Type 0
Holds (decoded ends xs bits m) = Answers ends xs bits m
Holds (decoded_by_both xs bits m) = Answers zero_end xs bits m × Answers free_end xs bits m
Holds (decoded_from ends xs bits m s) = AnswersFrom ends xs bits m s
Holds (dispersed xs ys) = disperse xs ≡ ys
Holds (judged d verdict) = judgement d ≡ verdict
Holds (sized d needed over verdict) = Sized d needed over verdict

unfoldable pub AllHold : List Case → Type 0
AllHold [] = Unit {0}
AllHold (c ∷ cs) = Holds c × AllHold cs

-- no refusal
abbrev pub accepted : Outcome (Unit {0})
accepted = gives tt

-- four soft values
abbrev pub four : ℤ → ℤ → ℤ → ℤ → List ℤ
four a b c d = a ∷ b ∷ c ∷ d ∷ []

abbrev pub minus : ℕ → ℤ
minus n = neg_ℤ (pos n)

-- cases 1 to 12, in their order
abbrev pub table : List Case
table =
    decoded_by_both [] [] (pos 0)
    ∷ decoded_from zero_end (four (pos 10) (pos 10) (pos 10) (pos 10)) (0 ∷ []) (minus 23) 32
    ∷ decoded free_end (four (pos 10) (pos 10) (pos 10) (pos 10)) (1 ∷ []) (pos 40)
    ∷ decoded_from zero_end (four (pos 8) (pos 8) (pos 8) (pos 7)) (0 ∷ []) (minus 31) 0
    ∷ decoded_from zero_end (four (pos 8) (pos 8) (pos 8) (pos 8)) (0 ∷ []) (minus 31) 32
    ∷ decoded_by_both (four (minus 128) (minus 128) (minus 128) (minus 128)) (0 ∷ []) (pos 512)
    ∷ decoded free_end (four (pos 0) (pos 0) (pos 0) (pos 0)) (0 ∷ []) (pos 0)
    ∷ dispersed (replicate 16 0) (0 ∷ 0 ∷ 0 ∷ 0 ∷ 0 ∷ 1 ∷ 1 ∷ 1 ∷ 1 ∷ 0 ∷ 1 ∷ 1 ∷ 1 ∷ 1 ∷ 1 ∷ 0 ∷ [])
    ∷ judged (eep 0 3 8 860 4) accepted
    ∷ judged (eep 0 3 8 861 4) (refuses 7)
    ∷ sized (uep 1 384 0 416) 26616 8 accepted
    ∷ sized (uep 1 384 0 417) 26616 72 (refuses 5)
    ∷ []

-- the descriptions among those that are run and compared
abbrev pub run_table : List Case
run_table =
    sized (uep 1 32 0 35) 2236 4 accepted
    ∷ judged (eep 0 1 8 0 8) (refuses 3)
    ∷ sized (eep 0 1 16 0 16) 1024 0 accepted
    ∷ []

-- what is claimed: every case of the two
abbrev pub TwelveCases : Type 0
TwelveCases = AllHold table

abbrev pub RunCases : Type 0
RunCases = AllHold run_table

-- and so of a call: with the needed lengths it is done, with this metric, and leaves these bits before the rest as it was
abbrev pub CasesAnswered : Type 0
CasesAnswered =
    (ends : Ends) (xs : List ℤ) (bits : List ℕ) (m : ℤ) → Answers ends xs bits m → steps xs ≤ 65536 → (words out : List ℕ) (r : Result Score Refusal) (words' out' : List ℕ)
    → steps xs ≤ length words → steps xs ≤ length out → Decoded ends xs words out (told r) words' out' → (r ≡ Ok (record { metric = m })) × (out' ≡ bits ++ drop (steps xs) out)
