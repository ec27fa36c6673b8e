-- Document 01, "Quality": metric, sum of absolute depunctured values, and percentage.
use Rattle.std.specs.Prelude.{false, List, [], ◌∷◌, ℕ, zero, suc, ◌/◌, ltb, length, ℤ, pos, unsigned_abs, Float}
use Rattle.std.specs.List.{sum_by}
use Rattle.std.specs.Float.{binary64, fin}
use Rattle.std.specs.Float.Ieee.{mul, div, of_int}
use Rattle.refusal.specs.Outcome.{Outcome, outcome, check, first_of}
use Rattle.fec_quality.specs.declared.Quality.{Quality}

-- the sum of the absolute values; -128 has weight 128
abbrev pub sum_abs : List ℤ → ℕ
sum_abs vs = sum_by unsigned_abs vs

-- metric divided by sum, times 100.0, in f64, each operation rounded once, in that order; 0.0 if the sum is 0
unfoldable pub percent_of : ℤ → ℕ → Float
percent_of m zero = fin false 0 (pos 0)
percent_of m (suc n) = mul binary64 (div binary64 (of_int binary64 m) (of_int binary64 (pos (suc n)))) (of_int binary64 (pos 100))

-- the record of a metric and the values that it was decoded from
abbrev pub quality_of : ℤ → List ℤ → Quality
quality_of m xs = record { metric = m; sum = pos (sum_abs xs); percent = percent_of m (sum_abs xs) }

-- the first refusal for some values, 0 for none: 11 above 65,536 whole steps
unfoldable pub measure_refusal : List ℤ → ℕ
measure_refusal xs = first_of (check 11 (ltb 65536 (length xs / 4)) ∷ [])

-- the answer to a metric and some values
abbrev pub measured : ℤ → List ℤ → Outcome Quality
measured m xs = outcome (measure_refusal xs) (quality_of m xs)

-- the record of an absent block
abbrev pub nothing : Quality
nothing = record { metric = pos 0; sum = pos 0; percent = fin false 0 (pos 0) }
