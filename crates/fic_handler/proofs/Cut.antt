-- A call's work buffers are each cut to what a block needs: what is done to the front leaves the rest as it was.
-- Assumes nothing.
use mathlib.Core.Path.{◌≡◌, ap, ◌∙◌}
use mathlib.Core.List.{List, [], ◌++◌, append_assoc}
use Prim.Native.Nat.{ℕ, zero, suc}
use Rattle.std.specs.Array.{IsFirstChunk}
use Rattle.std.proofs.lemmas.List.{take-append-drop, drop_all}
use lib.IntN.{ℤ}
use lib.ListN.{take, drop, length-take}
use native.Mathlib.Omega.{arith}
use Rattle.fic_handler.specs.declared.Fic.{Fic}
use Rattle.fic_handler.specs.Blocks.{Block, Buffers, fic_buffers, blocks_in}
use Rattle.fic_handler.specs.Promise.{work_after, Processed}

pub put_back : {X : Type 0} {n : ℕ} {xs ys : List X} → IsFirstChunk xs ys n → ys ++ drop n xs ≡ xs
put_back {X} {n} {xs} f = ap (λ (l : List X). l ++ drop n xs) f.same ∙ take-append-drop n xs

-- nothing stands behind the front
drop-take-same : {X : Type 0} (n : ℕ) (xs : List X) → drop n (take n xs) ≡ []
drop-take-same n xs = drop_all n (take n xs) (omega (arith, length-take n xs))

behind_front : {X : Type 0} (n : ℕ) (ys xs : List X) → (ys ++ drop n (take n xs)) ++ drop n xs ≡ ys ++ drop n xs
behind_front {X} n ys xs = append_assoc ys (drop n (take n xs)) (drop n xs) ∙ ap (λ (l : List X). ys ++ (l ++ drop n xs)) (drop-take-same n xs)

-- the fronts that are cut, and the buffers with other fronts
abbrev pub fronts : Buffers → Buffers
fronts l = fic_buffers (take 3096 l.depunctured) (take 774 l.words) (take 774 l.bits) l.fibs

abbrev pub with_fronts : Buffers → Buffers → Buffers
with_fronts l a = fic_buffers (a.depunctured ++ drop 3096 l.depunctured) (a.words ++ drop 774 l.words) (a.bits ++ drop 774 l.bits) a.fibs

module _ (xs : List ℤ) (k : ℕ → Block) (l : Buffers) where
  depunctured_are : (n : ℕ) → (work_after xs k n (fronts l)).depunctured ++ drop 3096 l.depunctured ≡ (work_after xs k n l).depunctured
  unfolding work_after
  depunctured_are zero = take-append-drop 3096 l.depunctured
  depunctured_are (suc n) = behind_front 3096 _ l.depunctured

  words_are : (n : ℕ) → (work_after xs k n (fronts l)).words ++ drop 774 l.words ≡ (work_after xs k n l).words
  unfolding work_after
  words_are zero = take-append-drop 774 l.words
  words_are (suc n) = behind_front 774 _ l.words

  bits_are : (n : ℕ) → (work_after xs k n (fronts l)).bits ++ drop 774 l.bits ≡ (work_after xs k n l).bits
  unfolding work_after
  bits_are zero = take-append-drop 774 l.bits
  bits_are (suc n) = behind_front 774 _ l.bits

pub widened : {xs : List ℤ} {n : ℕ} {l a : Buffers} {fic : Fic} → Processed xs n (fronts l) fic a → Processed xs n l fic (with_fronts l a)
widened {xs} {n} {l} p =
    record {
      block = p.block;
      each = p.each;
      answer = p.answer;
      passed = p.passed;
      quality = p.quality;
      depunctured = ap (λ (d : List ℤ). d ++ drop 3096 l.depunctured) p.depunctured ∙ depunctured_are xs p.block l n;
      words = ap (λ (w : List ℕ). w ++ drop 774 l.words) p.words ∙ words_are xs p.block l n;
      bits = ap (λ (b : List ℕ). b ++ drop 774 l.bits) p.bits ∙ bits_are xs p.block l n;
      fibs = p.fibs;
    }

-- from what the code was given
pub whole_call : {xs values d : List ℤ} {w b : List ℕ} {l a : Buffers} {fic : Fic} → values ≡ xs → d ≡ take 3096 l.depunctured → w ≡ take 774 l.words → b ≡ take 774 l.bits
    → Processed values (blocks_in values) (fic_buffers d w b l.fibs) fic a → Processed xs (blocks_in xs) l fic (with_fronts l a)
whole_call e p q r h = widened (rw (e, p, q, r) at h)
