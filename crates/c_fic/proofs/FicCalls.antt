-- FIC handling: from the handler's answer to a number and to figures in their places.
-- Assumes nothing.
use mathlib.Core.Path.{◌≡◌, refl, sym, ap, ◌∙◌, subst}
use mathlib.Core.List.{List, ◌++◌}
use Prim.Native.Nat.{ℕ, suc, ◌*◌, ◌<◌, ◌≤◌}
use native.Mathlib.Omega.{arith}
use borrow.Author.Tests.{lt-ltb, le-ltb}
use lib.Dec.{ltb}
use lib.ListN.{length, drop}
use lib.IntN.{ℤ}
use Rattle.std.specs.Prelude.{Result, Ok, Err}
use Rattle.refusal.specs.declared.Refusal.{Refusal}
use Rattle.refusal.specs.Outcome.{or_else, number_of, told}
use Rattle.refusal.proofs.Checks.{same_check, no_more, passed_by}
use Rattle.refusal.proofs.Laws.{or_else-zero, done_by, untouched_by, untouched_of, refused-number, given_number, is_refusal}
use Rattle.fic_handler.specs.declared.Fic.{Fic}
use Rattle.fic_handler.specs.Blocks.{joined, blocks_in, Buffers}
use Rattle.fic_handler.specs.Promise.{too_long, too_few, process_refusal, Processed, Outcomes, FicPromise}
use Rattle.c_fic.specs.Fic.{Figures, few_figures, fic_number, counts_of, metrics_of, percents_of, FicUntouched, FicWritten, FicCall}

module _ (a b c : List ℤ) (l : Buffers) (f : Figures) where
  -- 8 of the places, whatever the handler's own buffers are
  pub short_places : length a ≤ 3072 → length b ≤ 3072 → length c ≤ 3072 → few_figures f ≡ 8 → fic_number a b c l f ≡ 8
  unfolding fic_number process_refusal too_long too_few
  short_places h k m e =
      ap (or_else (process_refusal a b c l)) e
      ∙ simp (le-ltb _ _ h, le-ltb _ _ k, le-ltb _ _ m)
      (passed_by 7 (same_check (ltb (length l.depunctured) 3096) (same_check (ltb (length l.words) 774) (same_check (ltb (length l.bits) 774) (same_check (ltb (length l.fibs) (96 * blocks_in (joined a b c))) no_more)))))

  pub long_symbol : process_refusal a b c l ≡ 11 → fic_number a b c l f ≡ 11
  unfolding fic_number
  long_symbol e = ap (λ (n : ℕ). or_else n (few_figures f)) e

  pub away : {k : ℕ} → fic_number a b c l f ≡ suc k → FicCall a b c l f (suc k) l f
  away {k} e =
      record {
        answer = sym e;
        left = untouched_by (FicWritten a b c l f l f) (FicUntouched l f l f) (fic_number a b c l f) (λ z. omega (arith, e, z)) (record { buffers_are = refl; figures_are = refl });
      }

  module _ (enough : few_figures f ≡ 0) where
    number_is : fic_number a b c l f ≡ process_refusal a b c l
    unfolding fic_number
    number_is = ap (or_else (process_refusal a b c l)) enough ∙ or_else-zero (process_refusal a b c l)

    -- the handler has refused, and its refusal is passed on
    pub refused : {r : Result Fic Refusal} {s : Result (Unit {0}) Refusal} {x : Refusal} {after : Buffers} → r ≡ Err x → s ≡ Err x → FicPromise a b c l r after → FicCall a b c l f (number_of (told s)) after f
    unfolding Outcomes
    refused {x = x} {after} e q p =
        let said = sym (ap told e) ∙ p.answer in
        let not_zero = is_refusal (process_refusal a b c l) p.fic _ said in
        record {
          answer = ap (λ (t : Result (Unit {0}) Refusal). number_of (told t)) q ∙ sym (number_is ∙ refused-number (process_refusal a b c l) p.fic _ said);
          left =
              untouched_by (FicWritten a b c l f after f) (FicUntouched l f after f) (fic_number a b c l f) (λ z. not_zero (sym number_is ∙ z))
              (record { buffers_are = untouched_of (Processed (joined a b c) (blocks_in (joined a b c)) l p.fic after) (after ≡ l) (process_refusal a b c l) not_zero p.outcome; figures_are = refl });
        }

    -- the handler has answered, and its figures are in their places
    pub written : {fic : Fic} {r : Result Fic Refusal} {after : Buffers} {f' : Figures} → r ≡ Ok fic → FicPromise a b c l r after → f'.counts ≡ counts_of fic ++ drop 5 f.counts
        → f'.metrics ≡ metrics_of fic.quality ++ drop 8 f.metrics → f'.percents ≡ percents_of fic.quality ++ drop 4 f.percents → FicCall a b c l f 0 after f'
    written {fic} {r} {after} {f'} e p s t u =
        let n : fic_number a b c l f ≡ 0 = number_is ∙ given_number (process_refusal a b c l) p.fic fic (sym (ap told e) ∙ p.answer) in
        record {
          answer = sym n;
          left =
              done_by (FicWritten a b c l f after f') (FicUntouched l f after f') (fic_number a b c l f) n
              (record { fic = fic; processed = subst (λ (x : Result Fic Refusal). FicPromise a b c l x after) e p; counts_are = s; metrics_are = t; percents_are = u });
        }

-- fewer than five counts, eight metrics and sums, or four percentages
module _ (f : Figures) where
  pub few_counts : length f.counts < 5 → few_figures f ≡ 8
  few_counts h = simp (lt-ltb _ _ h)

  pub few_metrics : 5 ≤ length f.counts → length f.metrics < 8 → few_figures f ≡ 8
  few_metrics g h = simp (le-ltb _ _ g, lt-ltb _ _ h)

  pub few_percents : 5 ≤ length f.counts → 8 ≤ length f.metrics → length f.percents < 4 → few_figures f ≡ 8
  few_percents g h k = simp (le-ltb _ _ g, le-ltb _ _ h, lt-ltb _ _ k)

  pub enough_figures : 5 ≤ length f.counts → 8 ≤ length f.metrics → 4 ≤ length f.percents → few_figures f ≡ 0
  enough_figures g h k = simp (le-ltb _ _ g, le-ltb _ _ h, le-ltb _ _ k)
