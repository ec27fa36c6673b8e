-- The refusals of `process_fic`, from its tests in document 01's order.
-- Assumes nothing.
use mathlib.Core.Path.{◌≡◌, sym, ap, ◌∙◌, subst}
use mathlib.Core.List.{List, []}
use Rattle.std.specs.Prelude.{Result}
use Prim.Native.Nat.{ℕ, suc, ◌*◌, ◌<◌, ◌≤◌}
use borrow.Author.Tests.{lt-ltb, le-ltb}
use lib.IntN.{ℤ}
use lib.ListN.{length}
use Rattle.refusal.specs.declared.Refusal.{Refusal}
use Rattle.refusal.specs.Outcome.{gives, refuses, outcome, told}
use Rattle.fic_handler.specs.declared.Fic.{Fic}
use Rattle.fic_handler.specs.Blocks.{joined, blocks_in, Buffers}
use Rattle.fic_handler.specs.Promise.{too_long, too_few, process_refusal, Outcomes, Processed, FicPromise}

module _ (s1 s2 s3 : List ℤ) (l : Buffers) where
  pub first-long : 3072 < length s1 → process_refusal s1 s2 s3 l ≡ 11
  unfolding process_refusal too_long
  first-long a = simp (lt-ltb _ _ a)

  pub second-long : length s1 ≤ 3072 → 3072 < length s2 → process_refusal s1 s2 s3 l ≡ 11
  unfolding process_refusal too_long
  second-long a b = simp (le-ltb _ _ a, lt-ltb _ _ b)

  pub third-long : length s1 ≤ 3072 → length s2 ≤ 3072 → 3072 < length s3 → process_refusal s1 s2 s3 l ≡ 11
  unfolding process_refusal too_long
  third-long a b c = simp (le-ltb _ _ a, le-ltb _ _ b, lt-ltb _ _ c)

  module _ (a : length s1 ≤ 3072) (b : length s2 ≤ 3072) (c : length s3 ≤ 3072) where
    pub no_depunctured : length l.depunctured < 3096 → process_refusal s1 s2 s3 l ≡ 8
    unfolding process_refusal too_long too_few
    no_depunctured d = simp (le-ltb _ _ a, le-ltb _ _ b, le-ltb _ _ c, lt-ltb _ _ d)

    pub no_words : 3096 ≤ length l.depunctured → length l.words < 774 → process_refusal s1 s2 s3 l ≡ 8
    unfolding process_refusal too_long too_few
    no_words d w = simp (le-ltb _ _ a, le-ltb _ _ b, le-ltb _ _ c, le-ltb _ _ d, lt-ltb _ _ w)

    pub no_bits : 3096 ≤ length l.depunctured → 774 ≤ length l.words → length l.bits < 774 → process_refusal s1 s2 s3 l ≡ 8
    unfolding process_refusal too_long too_few
    no_bits d w e = simp (le-ltb _ _ a, le-ltb _ _ b, le-ltb _ _ c, le-ltb _ _ d, le-ltb _ _ w, lt-ltb _ _ e)

    pub no_fibs : 3096 ≤ length l.depunctured → 774 ≤ length l.words → 774 ≤ length l.bits → length l.fibs < 96 * blocks_in (joined s1 s2 s3) → process_refusal s1 s2 s3 l ≡ 8
    unfolding process_refusal too_long too_few
    no_fibs d w e f = simp (le-ltb _ _ a, le-ltb _ _ b, le-ltb _ _ c, le-ltb _ _ d, le-ltb _ _ w, le-ltb _ _ e, lt-ltb _ _ f)

    pub no_refusal : 3096 ≤ length l.depunctured → 774 ≤ length l.words → 774 ≤ length l.bits → 96 * blocks_in (joined s1 s2 s3) ≤ length l.fibs → process_refusal s1 s2 s3 l ≡ 0
    unfolding process_refusal too_long too_few
    no_refusal d w e f = simp (le-ltb _ _ a, le-ltb _ _ b, le-ltb _ _ c, le-ltb _ _ d, le-ltb _ _ w, le-ltb _ _ e, le-ltb _ _ f)

  pub away : {k : ℕ} {r : Result Fic Refusal} {after : Buffers} → process_refusal s1 s2 s3 l ≡ suc k → told r ≡ refuses (suc k) → after ≡ l → FicPromise s1 s2 s3 l r after
  unfolding Outcomes
  away {k} {r} {after} e p same =
      let none : Fic = record { fibs = 0; passed = []; quality = [] } in
      record {
        fic = none;
        answer = p ∙ ap (λ (n : ℕ). outcome n none) (sym e);
        outcome = subst (λ (n : ℕ). Outcomes n (joined s1 s2 s3) l none after) (sym e) same;
      }

  pub done : {fic : Fic} {r : Result Fic Refusal} {after : Buffers} → process_refusal s1 s2 s3 l ≡ 0 → told r ≡ gives fic → Processed (joined s1 s2 s3) (blocks_in (joined s1 s2 s3)) l fic after → FicPromise s1 s2 s3 l r after
  unfolding Outcomes
  done {fic} {r} {after} e p h =
      record {
        fic = fic;
        answer = p ∙ ap (λ (n : ℕ). outcome n fic) (sym e);
        outcome = subst (λ (n : ℕ). Outcomes n (joined s1 s2 s3) l fic after) (sym e) h;
      }
