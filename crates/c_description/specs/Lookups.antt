-- Document 01, "The numbers that turn a caller away": what a lookup by description returns and writes.
use Rattle.std.specs.Prelude.{List, [], ◌∷◌, ◌++◌, map, ℕ, length}
use Rattle.spec_en300401.specs.Puncturing.{Region}
use Rattle.refusal.specs.Outcome.{or_else}
use Rattle.fec_profiles.specs.declared.Section.{Section}
use Rattle.fec_profiles.specs.Rows.{sections_of}
use Rattle.fec_protection.specs.declared.Description.{Description}
use Rattle.fec_protection.specs.Refusals.{profile_of, row_refusal_of}
use Rattle.c_description.specs.Places.{short, Wrote}

-- a profile as eight numbers: the blocks of its four regions, then their vectors counted from 0
unfoldable pub row_of : List Region → List ℕ
row_of rs = map (λ (s : Section). s.blocks) (sections_of rs) ++ map (λ (s : Section). s.pi) (sections_of rs)

-- a size as one number
abbrev pub one : (List Region → ℕ) → List Region → List ℕ
one size rs = size rs ∷ []

-- the first of 1 to 4, then 8; 0 for none
abbrev pub lookup_number : Description → ℕ → ℕ → ℕ
lookup_number d need places = or_else (row_refusal_of d) (short need places)

-- what is looked up by description: the values of its profile in the needed places
abbrev pub Looked : Description → ℕ → (List Region → List ℕ) → List ℕ → List ℕ → ℕ → Type 0
Looked d need values before after number = Wrote (lookup_number d need (length before)) need (values (profile_of d)) before after number
