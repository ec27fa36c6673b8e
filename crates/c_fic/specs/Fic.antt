-- docs/DECISIONS.md, "For C": what document 01's FIC handling returns and writes, its figures into places of their own, and 8 for those.
use Rattle.std.specs.Prelude.{◌≡◌, List, [], ◌∷◌, ◌++◌, map, ℕ, length, drop, ℤ, Float, Ok}
use Rattle.refusal.specs.Outcome.{or_else, first_of, unless_refused}
use Rattle.fec_quality.specs.declared.Quality.{Quality}
use Rattle.fic_handler.specs.declared.Fic.{Fic}
use Rattle.fic_handler.specs.Blocks.{Buffers}
use Rattle.fic_handler.specs.Promise.{process_refusal, FicPromise}
use Rattle.c_description.specs.Places.{short}

-- the places of the figures
pub record Figures : Type 0 where
  pub counts : List ℕ
  pub metrics : List ℤ
  pub percents : List Float

abbrev pub figures : List ℕ → List ℤ → List Float → Figures
figures c m p = record { counts = c; metrics = m; percents = p }

-- 8: fewer than five counts, eight metrics and sums, or four percentages
abbrev pub few_figures : Figures → ℕ
few_figures f = first_of (short 5 (length f.counts) ∷ short 8 (length f.metrics) ∷ short 4 (length f.percents) ∷ [])

-- 11, then 8; 0 for none
unfoldable pub fic_number : List ℤ → List ℤ → List ℤ → Buffers → Figures → ℕ
fic_number s1 s2 s3 l f = or_else (process_refusal s1 s2 s3 l) (few_figures f)

-- the figures of an answer: FIBs in all and of each block; the metric of each block, then the sum of each; the percentage of each
abbrev pub counts_of : Fic → List ℕ
counts_of r = r.fibs ∷ r.passed

abbrev pub metrics_of : List Quality → List ℤ
metrics_of qs = map (λ (q : Quality). q.metric) qs ++ map (λ (q : Quality). q.sum) qs

abbrev pub percents_of : List Quality → List Float
percents_of qs = map (λ (q : Quality). q.percent) qs

-- refused: nothing changed
pub record FicUntouched (before : Buffers) (f : Figures) (after : Buffers) (f' : Figures) : Type 0 where
  pub buffers_are : after ≡ before
  pub figures_are : f' ≡ f

-- done: as the handler promises, and the figures of its answer before the rest as it was
pub record FicWritten (s1 s2 s3 : List ℤ) (before : Buffers) (f : Figures) (after : Buffers) (f' : Figures) : Type 0 where
  pub fic : Fic
  pub processed : FicPromise s1 s2 s3 before (Ok fic) after
  pub counts_are : f'.counts ≡ counts_of fic ++ drop 5 f.counts
  pub metrics_are : f'.metrics ≡ metrics_of fic.quality ++ drop 8 f.metrics
  pub percents_are : f'.percents ≡ percents_of fic.quality ++ drop 4 f.percents

pub record FicCall (s1 s2 s3 : List ℤ) (before : Buffers) (f : Figures) (number : ℕ) (after : Buffers) (f' : Figures) : Type 0 where
  pub answer : number ≡ fic_number s1 s2 s3 before f
  pub left : unless_refused (fic_number s1 s2 s3 before f) (FicWritten s1 s2 s3 before f after f') (FicUntouched before f after f')
