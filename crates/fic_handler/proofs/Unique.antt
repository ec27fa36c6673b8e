-- Two results that the promise of `process_fic` allows are one: the answer, the counts, the records and every byte of the buffers.
-- Assumes nothing.
use mathlib.Core.Path.{◌≡◌, refl, sym, ap, ap₂, ◌∙◌}
use mathlib.Core.Bool.{Bool, true, false, cond}
use mathlib.Core.List.{List, ◌∷◌, [], ◌++◌}
use Prim.Native.Nat.{ℕ, zero, suc, ◌*◌, ◌<◌}
use native.Mathlib.Omega.{arith}
use borrow.Author.Tests.{ltb-true}
use lib.Dec.{ltb}
use lib.IntN.{ℤ}
use lib.ListN.{drop}
use Rattle.laws.specs.Lists.{list_from}
use Rattle.refusal.specs.Outcome.{Outcome, outcome}
use Rattle.refusal.proofs.Told.{told_one}
use Rattle.fec_quality.specs.Figures.{quality_of, nothing}
use Rattle.fec_viterbi.proofs.Result.{bits-one, metric-one, words-one}
use Rattle.fic_handler.specs.declared.Fic.{Fic}
use Rattle.fic_handler.specs.Blocks.{joined, depunctured_block, data_bits, count_of, Block, IsBlock, Buffers, fic_buffers, total}
use Rattle.fic_handler.specs.Promise.{four, work_after, process_refusal, Processed, Outcomes}
use Rattle.fic_handler.specs.Theorems.{FicUnique}
use Rattle.fic_handler.proofs.Run.{total_ext, written_ext}

fic-one : (r s : Fic) → r.fibs ≡ s.fibs → r.passed ≡ s.passed → r.quality ≡ s.quality → r ≡ s
fic-one r s a p q = λ i. record { fibs = a i; passed = p i; quality = q i }

block_one : {xs : List ℤ} {b : ℕ} {k l : Block} → IsBlock xs b k → IsBlock xs b l → k ≡ l
block_one {k = k} {l} f g =
    λ i. record { decoded = bits-one f.decodes g.decodes i; choices = words-one f.chosen g.chosen i; metric = metric-one f.decodes g.decodes i }

-- a value for each block, where the blocks agree
four_ext : {A : Type 0} (n : ℕ) (f g : ℕ → A) (absent : A) → ((b : ℕ) → b < n → f b ≡ g b) → four n f absent ≡ four n g absent
unfolding list_from
four_ext {A} n f g absent h = λ i. same 0 i ∷ same 1 i ∷ same 2 i ∷ same 3 i ∷ []
  where
    go : (b : ℕ) (t : Bool) → ltb b n ≡ t → cond t (f b) absent ≡ cond t (g b) absent
    go b true e = h b (ltb-true b n e)
    go b false e = refl

    same : (b : ℕ) → cond (ltb b n) (f b) absent ≡ cond (ltb b n) (g b) absent
    same b = go b (ltb b n) refl

work_ext : (xs : List ℤ) (k l : ℕ → Block) (n : ℕ) (before : Buffers) → ((b : ℕ) → b < n → k b ≡ l b) → work_after xs k n before ≡ work_after xs l n before
unfolding work_after
work_ext xs k l zero before h = refl
work_ext xs k l (suc n) before h =
    ap
    (λ (x : Block). fic_buffers (depunctured_block xs n ++ drop 3096 before.depunctured) (x.choices ++ drop 774 before.words) ((data_bits x.decoded ++ drop 768 x.decoded) ++ drop 774 before.bits) before.fibs)
    (h n (omega arith))

-- two outcomes of some whole blocks
record Same (r : Fic) (after : Buffers) (s : Fic) (also : Buffers) : Type 0 where
  fic_is : r ≡ s
  buffers_are : after ≡ also

processed-one : {xs : List ℤ} {n : ℕ} {before : Buffers} {r s : Fic} {after also : Buffers} → Processed xs n before r after → Processed xs n before s also → Same r after s also
processed-one {xs} {n} {before} {r} {s} {after} {also} f g =
    record {
      fic_is =
          fic-one r s (f.answer ∙ sums ∙ sym g.answer)
          (f.passed ∙ four_ext n _ _ 0 (λ b h. ap (λ (k : Block). count_of (data_bits k.decoded) 3) (blocks b h)) ∙ sym g.passed)
          (f.quality ∙ four_ext n _ _ nothing (λ b h. ap (λ (k : Block). quality_of k.metric (depunctured_block xs b)) (blocks b h)) ∙ sym g.quality);
      buffers_are =
          λ i. fic_buffers ((f.depunctured ∙ ap (λ (l : Buffers). l.depunctured) works ∙ sym g.depunctured) i) ((f.words ∙ ap (λ (l : Buffers). l.words) works ∙ sym g.words) i)
          ((f.bits ∙ ap (λ (l : Buffers). l.bits) works ∙ sym g.bits) i)
          ((f.fibs ∙ ap₂ (λ (w : List ℕ) (m : ℕ). w ++ drop (32 * m) before.fibs) (written_ext f.block g.block n blocks) sums ∙ sym g.fibs) i);
    }
  where
    blocks : (b : ℕ) → b < n → f.block b ≡ g.block b
    blocks b h = block_one (f.each b h) (g.each b h)

    sums : total f.block n ≡ total g.block n
    sums = total_ext f.block g.block n blocks

    works : work_after xs f.block n before ≡ work_after xs g.block n before
    works = work_ext xs f.block g.block n before blocks

outcomes_one : (k : ℕ) (xs : List ℤ) (before : Buffers) (r s : Fic) (after also : Buffers) → Outcomes k xs before r after → Outcomes k xs before s also → {a b : Outcome Fic} → a ≡ outcome k r → b ≡ outcome k s → (a ≡ b) × (after ≡ also)
unfolding Outcomes
outcomes_one zero xs before r s after also f g p q = let same = processed-one f g in (p ∙ ap (outcome 0) same.fic_is ∙ sym q, same.buffers_are)
outcomes_one (suc k) xs before r s after also f g p q = (p ∙ sym q, f ∙ sym g)

-- for every input the promise allows one result
pub fic_unique : FicUnique
fic_unique s1 s2 s3 before r s after also f g =
    let same = outcomes_one (process_refusal s1 s2 s3 before) (joined s1 s2 s3) before f.fic g.fic after also f.outcome g.outcome f.answer g.answer in
    record { answer_is = told_one r s same.0; buffers_are = same.1 }
