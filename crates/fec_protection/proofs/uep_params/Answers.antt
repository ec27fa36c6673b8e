-- The scan's answer is a row of the table, or none.
use Rattle.std.proofs.Common.{◌≡◌, ◌∙◌, sym, subst, List, ℕ, get_or, set}
use Rattle.std.proofs.lemmas.List.{set-get_or}
use Rattle.std.specs.Prelude.{Ok, Some}
use Rattle.spec_en300401.specs.Uep.{uep_row, uep_profile}
use Rattle.fec_profiles.specs.declared.Section.{Section}
use Rattle.fec_profiles.specs.declared.UepProfile.{UepProfile}
use Rattle.fec_profiles.specs.Rows.{found}
use Rattle.refusal.specs.Outcome.{first_of}
use Rattle.fec_protection.specs.Promises.{RowPromise}
use Rattle.fec_protection.specs.Refusals.{uep_none}
use Rattle.fec_protection.proofs.Rows.{uep_made, uep_missing}
use Rattle.fec_protection.proofs.uep_params.Goals as goal

-- the row's sections, however they are put together
made : (k l : ℕ) (p : UepProfile) (s : List Section) → Some p ≡ found (uep_row k l) → s ≡ p.sections → RowPromise (first_of (uep_none k l)) (uep_profile k l) (Ok (record { sections = s }))
made k l p s given e = subst (λ (t : List Section). RowPromise (first_of (uep_none k l)) (uep_profile k l) (Ok (record { sections = t }))) (sym e) (uep_made k l p given)

-- an element put back as it was, field by field, as an edit writes another number there
put : (l : List Section) (i : ℕ) (d : Section) → set l i (record { blocks = (get_or l i d).blocks; pi = (get_or l i d).pi }) ≡ l
put l i d = set-get_or l i d

pub returns : goal.returns
returns c =
    let given = sym c.in-Some.is ∙ c.uep_profile.ensures in
    search (made c.args.d.bitrate c.args.d.protection_level c.in-Some.row, given, put)

pub returns-in_default : goal.returns-in_default
returns-in_default c = uep_missing c.args.d.bitrate c.args.d.protection_level (sym c.in_default.is ∙ c.uep_profile.ensures)
