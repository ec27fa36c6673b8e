-- The table's row is the standard's.
use Rattle.std.proofs.Common.{ap, ◌∙◌, ℕ, List, [], ◌∷◌, get_or}
use Rattle.fec_profiles.specs.Rows.{section_by, sections_of, profile_row}
use Rattle.fec_profiles.proofs.Rules.{row_is}
use Rattle.fec_profiles.proofs.row_at.Goals as goal

pub returns : goal.returns
unfolding profile_row sections_of
returns c =
    let e = row_is [] c.args.k c.requires in
    let row : List ℕ → ℕ → ℕ = λ xs i. get_or xs i 0 in
    λ i.
    record {
      bitrate = row (e i) 0;
      level = row (e i) 1;
      sections =
          (c.new.ensures ∙ ap (λ (xs : List ℕ). section_by (row xs 2) (row xs 6)) e) i ∷ (c.new-2.ensures ∙ ap (λ (xs : List ℕ). section_by (row xs 3) (row xs 7)) e) i
          ∷ (c.new-3.ensures ∙ ap (λ (xs : List ℕ). section_by (row xs 4) (row xs 8)) e) i ∷ (c.new-4.ensures ∙ ap (λ (xs : List ℕ). section_by (row xs 5) (row xs 9)) e) i ∷ [];
    }
