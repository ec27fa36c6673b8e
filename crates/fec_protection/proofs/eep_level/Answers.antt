-- The table's rows are the standard's.
use Rattle.std.proofs.Common.{◌≡◌, ◌∙◌, ap₂, ℕ, List, [], get_or}
use Rattle.fec_protection.specs.declared.TheConstants.{EEP_LEVELS}
use Rattle.fec_protection.specs.Code.{level_row}
use Rattle.fec_protection.proofs.Rows.{numbers, level_is}
use Rattle.fec_protection.proofs.eep_level.Goals as goal

pub returns : goal.returns
returns c =
    let e : get_or (get_or EEP_LEVELS c.from.result []) c.from-2.result [] ≡ numbers (level_row c.args.option c.args.level) =
    ap₂ (λ (o l : ℕ). get_or (get_or EEP_LEVELS o []) l []) c.from.ensures c.from-2.ensures ∙ level_is [] [] c.args.option c.args.level c.requires.0 c.requires.1 in
    let field : List ℕ → ℕ → ℕ = λ xs i. get_or xs i 0 in
    λ i. record { fold1 = field (e i) 0; fold2 = field (e i) 1; pi1 = field (e i) 2; pi2 = field (e i) 3 }
