-- How answers are counted: by kind, at sixteen places.
use Rattle.std.specs.Prelude.{Bool, true, false, cond, ℕ, ◌+◌, min, ltb, get_or, set, replicate}
use Rattle.test_records.specs.declared.Count.{Count}
use Rattle.test_records.specs.declared.Tally.{Tally}

abbrev pub no_answers : Count
no_answers = record { same = 0; other = 0 }

abbrev pub nothing_counted : Tally
nothing_counted = record { counts = replicate 16 no_answers }

-- held at the largest number
abbrev pub one_more : ℕ → ℕ
one_more n = min (n + 1) 18446744073709551615

abbrev pub one_answer : Count → Bool → Count
one_answer c true = record c { same = one_more c.same }
one_answer c false = record c { other = one_more c.other }

-- one more at one of sixteen places; as they were where there is no such place
abbrev pub counted : Tally → ℕ → Bool → Tally
counted t k same = record { counts = cond (ltb k 16) (set t.counts k (one_answer (get_or t.counts k no_answers) same)) t.counts }

-- some records counted, each as the judge said of one of its kind
pub data Tallied (says : ℕ → Bool → Type 0) : Tally → Type 0 where
  nothing : Tallied says nothing_counted
  one : (t : Tally) (kind : ℕ) (same : Bool) → Tallied says t → says kind same → Tallied says (counted t kind same)
