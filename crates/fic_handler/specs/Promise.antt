-- Document 01, fic/handler.rs, refusals 11 and 8, and the needed lengths: what three symbols give.
use Rattle.std.specs.Prelude.{◌≡◌, cond, List, [], ◌∷◌, ◌++◌, ℕ, zero, suc, ◌*◌, ◌<◌, ltb, length, drop, ℤ, Result}
use Rattle.laws.specs.Lists.{list_of}
use Rattle.refusal.specs.declared.Refusal.{Refusal}
use Rattle.refusal.specs.Outcome.{check, first_of, outcome as outcomeBy, unless_refused, told}
use Rattle.fec_quality.specs.Figures.{quality_of, nothing}
use Rattle.fic_handler.specs.declared.Fic.{Fic}
use Rattle.fic_handler.specs.Blocks.{joined, blocks_in, depunctured_block, data_bits, count_of, Block, IsBlock, Buffers, written, total}

-- 11: a symbol over 3,072 values
unfoldable pub too_long : List ℤ → ℕ
too_long s = check 11 (ltb 3072 (length s))

-- 8: a buffer shorter than its needed length: 3,096 values, 774 words, 774 bits, and 96 bytes for each whole block
unfoldable pub too_few : ℕ → Buffers → List ℕ
too_few blocks l =
    check 8 (ltb (length l.depunctured) 3096) ∷ check 8 (ltb (length l.words) 774) ∷ check 8 (ltb (length l.bits) 774) ∷ check 8 (ltb (length l.fibs) (96 * blocks)) ∷ []

-- the first refusal of a call, 11 before 8; 0 for none
unfoldable pub process_refusal : List ℤ → List ℤ → List ℤ → Buffers → ℕ
process_refusal s1 s2 s3 l = first_of (too_long s1 ∷ too_long s2 ∷ too_long s3 ∷ too_few (blocks_in (joined s1 s2 s3)) l)

-- a value for each of the four blocks: of the first n its own, of the others none
module _ {ℓ} {A : Type ℓ} where
  abbrev pub four : ℕ → (ℕ → A) → A → List A
  four n f absent = list_of 4 (λ (b : ℕ). cond (ltb b n) (f b) absent)

-- the work buffers after n blocks: the last block's values, choices and bits, each before the rest as it was; as they were after none
unfoldable pub work_after : List ℤ → (ℕ → Block) → ℕ → Buffers → Buffers
work_after xs k zero l = l
work_after xs k (suc n) l =
    record {
      depunctured = depunctured_block xs n ++ drop 3096 l.depunctured;
      words = (k n).choices ++ drop 774 l.words;
      bits = (data_bits (k n).decoded ++ drop 768 (k n).decoded) ++ drop 774 l.bits;
      fibs = l.fibs;
    }

-- the outcome of n whole blocks
pub record Processed (xs : List ℤ) (n : ℕ) (before : Buffers) (r : Fic) (after : Buffers) : Type 0 where
  pub block : ℕ → Block
  pub each : (b : ℕ) → b < n → IsBlock xs b (block b)
  pub answer : r.fibs ≡ total block n
  pub passed : r.passed ≡ four n (λ (b : ℕ). count_of (data_bits (block b).decoded) 3) 0
  pub quality : r.quality ≡ four n (λ (b : ℕ). quality_of (block b).metric (depunctured_block xs b)) nothing
  pub depunctured : after.depunctured ≡ (work_after xs block n before).depunctured
  pub words : after.words ≡ (work_after xs block n before).words
  pub bits : after.bits ≡ (work_after xs block n before).bits
  pub fibs : after.fibs ≡ written block n ++ drop (32 * total block n) before.fibs

-- by the number of the first refusal: the whole blocks are processed, or nothing is changed
unfoldable pub Outcomes : ℕ → List ℤ → Buffers → Fic → Buffers → Type 0
Outcomes n xs before fic after = unless_refused n (Processed xs (blocks_in xs) before fic after) (after ≡ before)

-- the promise of `process_fic`: what the symbols came to, or the first refusal; and what is written
pub record FicPromise (s1 s2 s3 : List ℤ) (before : Buffers) (r : Result Fic Refusal) (after : Buffers) : Type 0 where
  pub fic : Fic
  pub answer : told r ≡ outcomeBy (process_refusal s1 s2 s3 before) fic
  pub outcome : Outcomes (process_refusal s1 s2 s3 before) (joined s1 s2 s3) before fic after
