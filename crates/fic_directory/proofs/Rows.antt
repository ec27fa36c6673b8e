-- The code's 64 rows are the standard's: antt computes them whole.
-- Assumes nothing.
use mathlib.Core.Path.{◌≡◌, refl, sym, ap, ◌∙◌}
use mathlib.Core.Bool.{false}
use mathlib.Core.List.{List, map}
use Prim.Native.Nat.{ℕ, ◌+◌, ◌*◌, ◌%◌, ◌<◌}
use native.Mathlib.Nat.{mod-eq_of_lt}
use lib.ListN.{get_or}
use Rattle.std.proofs.lemmas.List.{get_or-map}
use Rattle.spec_en300401.specs.Organisation.{short_form}
use Rattle.spec_en300401.specs.Uep.{uep_table, no_row}
use Rattle.fec_protection.specs.declared.Description.{Description}
use Rattle.fic_directory_places.specs.Promises.{description_of}
use Rattle.fic_directory.specs.declared.TheConstants.{UEP_ROWS}
use Rattle.fic_directory.specs.Code.{row_of}

rows : UEP_ROWS ≡ map row_of uep_table
unfolding uep_table
rows = refl

-- a description of three numbers of a row
abbrev made : ℕ → ℕ × ℕ × ℕ → Description
made start r = record { start_addr = start; sub_size = r.2; bitrate = r.0; protection_level = r.1; eep_option = 0; is_eep = false }

pub row_is : (d : ℕ × ℕ × ℕ) (a b c k start : ℕ) → c < 64 → k ≡ c → start ≡ a % 4 * 256 + b → made start (get_or UEP_ROWS k d) ≡ description_of (short_form a b c)
unfolding short_form uep_table
row_is d a b c k start h e f =
    (λ i. made (f i) (get_or UEP_ROWS (e i) d)) ∙ ap (λ (xs : List (ℕ × ℕ × ℕ)). made (a % 4 * 256 + b) (get_or xs c d)) rows
    ∙ ap (made (a % 4 * 256 + b)) (get_or-map row_of uep_table c no_row d h)
    ∙ ap (λ (n : ℕ). made (a % 4 * 256 + b) (row_of (get_or uep_table n no_row))) (sym (mod-eq_of_lt h))
