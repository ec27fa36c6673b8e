-- What is known of a measurement by the number of its values.
-- Assumes nothing.
use mathlib.Core.Path.{◌≡◌}
use mathlib.Core.List.{List}
use Prim.Native.Nat.{◌/◌, ◌≤◌}
use borrow.Author.Tests.{le-ltb}
use lib.ListN.{length}
use lib.IntN.{ℤ}
use Rattle.refusal.proofs.Told.{is-ok}
use Rattle.refusal.specs.Outcome.{told}
use Rattle.std.specs.Prelude.{Result, Ok}
use Rattle.refusal.specs.declared.Refusal.{Refusal}
use Rattle.fec_quality.specs.declared.Quality.{Quality}
use Rattle.fec_quality.specs.Figures.{quality_of, measure_refusal, measured}

pub few-values : (xs : List ℤ) → length xs / 4 ≤ 65536 → measure_refusal xs ≡ 0
unfolding measure_refusal
few-values xs h = simp (le-ltb _ _ h)

-- few enough values are measured
pub is-measured : (r : Result Quality Refusal) (m : ℤ) (xs : List ℤ) → length xs / 4 ≤ 65536 → told r ≡ measured m xs → r ≡ Ok (quality_of m xs)
is-measured r m xs h e = is-ok r (measure_refusal xs) (quality_of m xs) e (few-values xs h)
