-- The promise of FIC handling for C admits one result.
-- Assumes nothing.
use mathlib.Core.Path.{◌≡◌, sym, ap, ◌∙◌}
use mathlib.Core.List.{List, ◌++◌}
use Prim.Native.Nat.{ℕ, zero, suc}
use lib.ListN.{drop}
use lib.IntN.{ℤ}
use Rattle.std.specs.Prelude.{Ok}
use Rattle.refusal.specs.Outcome.{unless_refused}
use Rattle.fic_handler.specs.declared.Fic.{Fic}
use Rattle.fic_handler.specs.Blocks.{Buffers}
use Rattle.fic_handler.proofs.Unique.{fic_unique}
use Rattle.c_fic.specs.Fic.{Figures, figures, counts_of, metrics_of, percents_of, fic_number, FicUntouched, FicWritten, FicCall}

pub record SameFicCall (k : ℕ) (after : Buffers) (g : Figures) (k' : ℕ) (after' : Buffers) (g' : Figures) : Type 0 where
  pub number_is : k ≡ k'
  pub buffers_are : after ≡ after'
  pub figures_are : g ≡ g'

module _ {a b c : List ℤ} {l : Buffers} {f : Figures} {after after' : Buffers} {g g' : Figures} where
  figures-one : (x : FicWritten a b c l f after g) (y : FicWritten a b c l f after' g') → x.fic ≡ y.fic → g ≡ g'
  figures-one x y e =
      λ i. figures ((x.counts_are ∙ ap (λ (r : Fic). counts_of r ++ drop 5 f.counts) e ∙ sym y.counts_are) i)
      ((x.metrics_are ∙ ap (λ (r : Fic). metrics_of r.quality ++ drop 8 f.metrics) e ∙ sym y.metrics_are) i)
      ((x.percents_are ∙ ap (λ (r : Fic). percents_of r.quality ++ drop 4 f.percents) e ∙ sym y.percents_are) i)

  pub fic_call_unique : {k k' : ℕ} → FicCall a b c l f k after g → FicCall a b c l f k' after' g' → SameFicCall k after g k' after' g'
  fic_call_unique {k} {k'} x y = go (fic_number a b c l f) x.left y.left
    where
      number-one : k ≡ k'
      number-one = x.answer ∙ sym y.answer

      go : (n : ℕ) → unless_refused n (FicWritten a b c l f after g) (FicUntouched l f after g) → unless_refused n (FicWritten a b c l f after' g') (FicUntouched l f after' g') → SameFicCall k after g k' after' g'
      go zero p q =
          let same = fic_unique a b c l (Ok p.fic) (Ok q.fic) after after' p.processed q.processed in
          record { number_is = number-one; buffers_are = same.buffers_are; figures_are = figures-one p q (let z : p.fic ≡ q.fic = cc (same.answer_is) in z) }
      go (suc n) p q = record { number_is = number-one; buffers_are = p.buffers_are ∙ sym q.buffers_are; figures_are = p.figures_are ∙ sym q.figures_are }
