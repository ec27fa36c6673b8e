-- What `process_fic` gives of three full symbols that are parts of one slice.
-- Assumes nothing.
use mathlib.Core.Path.{◌≡◌, sym, ap, ◌∙◌, subst}
use mathlib.Core.List.{List, ◌++◌}
use Prim.Native.Nat.{ℕ, zero, suc, ◌*◌, ◌≤◌}
use native.Mathlib.Omega.{arith}
use lib.IntN.{ℤ}
use lib.ListN.{length, take, drop, take-append-drop, length-drop}
use lib.Seq.{take_at, drop-drop, length-take-le, take_all}
use Rattle.std.specs.Prelude.{Result, Ok}
use Rattle.refusal.specs.declared.Refusal.{Refusal}
use Rattle.refusal.proofs.Told.{is-ok, ok_same}
use Rattle.fic_handler.specs.declared.Fic.{Fic}
use Rattle.fic_handler.specs.Blocks.{joined, blocks_in, data_bits, Block, Buffers, written, total}
use Rattle.fic_handler.specs.Promise.{Processed, process_refusal, Outcomes, FicPromise}
use Rattle.fic_handler.proofs.Fibs.{count-le}
use Rattle.fic_handler.proofs.Refusals.{no_refusal}
use Rattle.fic_handler.proofs.Run.{written-length}
use Rattle.fic.specs.Decoded.{FibsOf}

-- symbol k of the three
abbrev pub symbol : ℕ → List ℤ → List ℤ
symbol k soft = take 3072 (drop (3072 * k) soft)

-- the three symbols of 9,216 values are those values
module _ (soft : List ℤ) (long : length soft ≡ 9216) where
  symbol_long : (k : ℕ) → k ≤ 2 → length (symbol k soft) ≤ 3072
  symbol_long k h = omega (arith, length-take-le 3072 (drop (3072 * k) soft) (omega (arith, length-drop (3072 * k) soft)))

  all-symbols : joined (symbol 0 soft) (symbol 1 soft) (symbol 2 soft) ≡ soft
  all-symbols =
      ap (λ (r : List ℤ). take 3072 soft ++ (symbol 1 soft ++ r)) (take_all 3072 (drop 6144 soft) (omega (arith, length-drop 6144 soft)) ∙ sym (drop-drop 3072 3072 soft))
      ∙ ap (λ (r : List ℤ). take 3072 soft ++ r) (take-append-drop 3072 (drop 3072 soft))
      ∙ take-append-drop 3072 soft

total-le : (k : ℕ → Block) (n : ℕ) → total k n ≤ 3 * n
unfolding total
total-le k zero = omega arith
total-le k (suc n) = omega (arith, total-le k n, count-le (data_bits (k n).decoded) 3)

-- given memory that has what three full symbols need
pub record Enough (l : Buffers) : Type 0 where
  pub values : length l.depunctured ≡ 3096
  pub choices : length l.words ≡ 774
  pub places : length l.bits ≡ 774
  pub out : length l.fibs ≡ 384

module _ (soft : List ℤ) (long : length soft ≡ 9216) {l after : Buffers} {r : Result Fic Refusal}
    (promise : FicPromise (symbol 0 soft) (symbol 1 soft) (symbol 2 soft) l r after) (enough : Enough l) where
  accepted : process_refusal (symbol 0 soft) (symbol 1 soft) (symbol 2 soft) l ≡ 0
  accepted =
      no_refusal (symbol 0 soft) (symbol 1 soft) (symbol 2 soft) l (symbol_long soft long 0 (omega arith)) (symbol_long soft long 1 (omega arith)) (symbol_long soft long 2 (omega arith))
      (omega (arith, enough.values)) (omega (arith, enough.choices)) (omega (arith, enough.places)) (omega (arith, enough.out, ap length (all-symbols soft long)))

  pub done : r ≡ Ok promise.fic
  done = is-ok r _ promise.fic promise.answer accepted

  processed : Processed soft 4 l promise.fic after
  unfolding Outcomes
  processed =
      subst (λ (n : ℕ). Processed soft n l promise.fic after) (omega (arith, long))
      (subst (λ (xs : List ℤ). Processed xs (blocks_in xs) l promise.fic after) (all-symbols soft long)
      (subst (λ (n : ℕ). Outcomes n (joined (symbol 0 soft) (symbol 1 soft) (symbol 2 soft)) l promise.fic after) accepted promise.outcome))

  module _ (fic : Fic) (given : r ≡ Ok fic) where
    same : fic.fibs ≡ total processed.block 4
    same = ap (λ (f : Fic). f.fibs) (ok_same given done) ∙ processed.answer

    pub few : fic.fibs ≤ 12
    few = omega (arith, same, total-le processed.block 4)

    pub fibs_of_lem : FibsOf soft (32 * fic.fibs) after.fibs
    fibs_of_lem =
        let k : ℕ → Block = processed.block in
        let bytes : 32 * fic.fibs ≡ 32 * total k 4 = ap (λ (m : ℕ). 32 * m) same in
        record {
          block = k;
          each = processed.each;
          long = bytes;
          few = omega (arith, few);
          bytes = ap (take (32 * fic.fibs)) processed.fibs ∙ take_at (written k 4) (drop (32 * total k 4) l.fibs) (32 * fic.fibs) (written-length k 4 processed.each ∙ sym bytes);
        }
