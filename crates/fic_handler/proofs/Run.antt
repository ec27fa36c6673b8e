-- The blocks done so far, and that one more block keeps what is said of them.
-- Assumes nothing.
use mathlib.Core.Path.{◌≡◌, refl, sym, ap, ap₂, ◌∙◌, subst, subst₂}
use mathlib.Core.Bool.{Bool, cond}
use mathlib.Core.List.{List, [], ◌∷◌, ◌++◌, append_assoc}
use Prim.Native.Nat.{ℕ, zero, suc, ◌+◌, ◌*◌, ◌<◌, ◌≤◌}
use native.Mathlib.Omega.{arith}
use native.Mathlib.Decide.{ℕ_discrete, dec_lt}
use native.Mathlib.Nat.{not-suc-le-zero}
use native.Mathlib.Numerals.{add-one}
use borrow.Author.Tests.{lt-ltb, le-ltb, eq-eqb, ne_eqb}
use lib.Dec.{eqb, ltb}
use lib.IntN.{ℤ, pos}
use lib.Ieee.{binary64, of_bits}
use lib.ListN.{length, get_or, set, take, drop, length-set, length-append, length-drop}
use lib.Seq.{ext_get_or, take_at, drop_at, drop-drop, get_or-set_same, get_or-set_other}
use Rattle.laws.specs.Lists.{list_from}
use Rattle.laws.proofs.Lists.{length-list_of, list_of-at}
use Rattle.fec_quality.specs.declared.Quality.{Quality}
use Rattle.fec_quality.specs.Figures.{quality_of, nothing}
use Rattle.fec_viterbi.proofs.Result.{decoded-length}
use Rattle.fic_handler.specs.Blocks.{block_of, depunctured_block, data_bits, count_of, passed_bytes, Block, IsBlock, Buffers, fic_buffers, blocks_in, written, total}
use Rattle.fic_handler.specs.Code.{BlockProcessed}
use Rattle.fic_handler.specs.declared.Fic.{Fic}
use Rattle.std.specs.Array.{AllOfLen}
use Rattle.fic_handler.specs.Promise.{four, work_after, Processed}
use Rattle.fic_handler.proofs.Fibs.{count-le, passed_length}
use Rattle.fic_handler.proofs.Blocks.{restored_length, data_length}

-- ---- a value for each of four blocks

module _ {ℓ} {A : Type ℓ} (d : A) where
  four-length : (n : ℕ) (f : ℕ → A) (absent : A) → length (four n f absent) ≡ 4
  four-length n f absent = length-list_of 4 (λ (b : ℕ). cond (ltb b n) (f b) absent)

  pub four-at : (n : ℕ) (f : ℕ → A) (absent : A) (i : ℕ) → i < 4 → get_or (four n f absent) i d ≡ cond (ltb i n) (f i) absent
  four-at n f absent i h = list_of-at 4 (λ (b : ℕ). cond (ltb b n) (f b) absent) d i h

  -- block n takes its value, and those before it keep theirs
  pub four_next : (n : ℕ) (f g : ℕ → A) (absent x : A) (xs : List A) → n < 4 → xs ≡ four n f absent → ((i : ℕ) → i < n → f i ≡ g i) → x ≡ g n → set xs n x ≡ four (n + 1) g absent
  four_next n f g absent x xs h e same q =
      ext_get_or d (set xs n x) (four (n + 1) g absent) (length-set xs n x ∙ long ∙ sym (four-length (n + 1) g absent))
      (λ i l. go i (subst (λ (m : ℕ). i < m) (length-set xs n x ∙ long) l) (ℕ_discrete i n) (dec_lt i n) ∙ sym (four-at (n + 1) g absent i (subst (λ (m : ℕ). i < m) (length-set xs n x ∙ long) l)))
    where
      long : length xs ≡ 4
      long = ap length e ∙ four-length n f absent

      go : (i : ℕ) → i < 4 → Dec (i ≡ n) → Dec (i < n) → get_or (set xs n x) i d ≡ cond (ltb i (n + 1)) (g i) absent
      go i l (yes p) t =
          subst (λ (m : ℕ). get_or (set xs n x) m d ≡ cond (ltb m (n + 1)) (g m) absent) (sym p)
          (get_or-set_same xs n x d (omega (arith, long)) ∙ q ∙ ap (λ (b : Bool). cond b (g n) absent) (sym (lt-ltb n (n + 1) (omega arith))))
      go i l (no p) (yes t) =
          get_or-set_other xs n i x d p ∙ ap (λ (r : List A). get_or r i d) e ∙ four-at n f absent i l ∙ ap (λ (b : Bool). cond b (f i) absent) (lt-ltb i n t) ∙ same i t
          ∙ ap (λ (b : Bool). cond b (g i) absent) (sym (lt-ltb i (n + 1) (omega arith)))
      go i l (no p) (no t) =
          get_or-set_other xs n i x d p ∙ ap (λ (r : List A). get_or r i d) e ∙ four-at n f absent i l ∙ ap (λ (b : Bool). cond b (f i) absent) (le-ltb i n (omega arith))
          ∙ ap (λ (b : Bool). cond b (g i) absent) (sym (le-ltb i (n + 1) (omega arith)))

-- ---- one block more in a row of blocks

with_block : (ℕ → Block) → ℕ → Block → ℕ → Block
with_block k n x i = cond (eqb i n) x (k i)

with_same : (k : ℕ → Block) (n : ℕ) (x : Block) → with_block k n x n ≡ x
unfolding with_block
with_same k n x = ap (λ (b : Bool). cond b x (k n)) (eq-eqb n n refl)

with_other : (k : ℕ → Block) (n : ℕ) (x : Block) (i : ℕ) → i < n → k i ≡ with_block k n x i
unfolding with_block
with_other k n x i h = ap (λ (b : Bool). cond b x (k i)) (sym (ne_eqb i n (λ e. omega arith)))

pub total_ext : (k l : ℕ → Block) (n : ℕ) → ((i : ℕ) → i < n → k i ≡ l i) → total k n ≡ total l n
unfolding total
total_ext k l zero h = refl
total_ext k l (suc n) h = ap₂ (λ (a : ℕ) (b : Block). a + count_of (data_bits b.decoded) 3) (total_ext k l n (λ i g. h i (omega arith))) (h n (omega arith))

pub written_ext : (k l : ℕ → Block) (n : ℕ) → ((i : ℕ) → i < n → k i ≡ l i) → written k n ≡ written l n
unfolding written
written_ext k l zero h = refl
written_ext k l (suc n) h = ap₂ (λ (a : List ℕ) (b : Block). a ++ passed_bytes (data_bits b.decoded) 3) (written_ext k l n (λ i g. h i (omega arith))) (h n (omega arith))

-- 32 bytes for each FIB that passed
pub written-length : (k : ℕ → Block) {xs : List ℤ} (n : ℕ) → ((b : ℕ) → b < n → IsBlock xs b (k b)) → length (written k n) ≡ 32 * total k n
unfolding written total
written-length k zero each = refl
written-length k (suc n) each =
    length-append (written k n) (passed_bytes (data_bits (k n).decoded) 3)
    ∙ omega (arith, written-length k n (λ b l. each b (omega arith)), passed_length (data_bits (k n).decoded) 3 (data_length (each n (omega arith)).decodes) (omega arith))

-- what the run has done after n blocks
pub record Run (xs : List ℤ) (before : Buffers) (n sum : ℕ) (counts : List ℕ) (qualities : List Quality) (after : Buffers) : Type 0 where
  pub block : ℕ → Block
  pub each : (b : ℕ) → b < n → IsBlock xs b (block b)
  pub sum_is : sum ≡ total block n
  pub few : sum ≤ 3 * n
  pub counts_are : counts ≡ four n (λ (b : ℕ). count_of (data_bits (block b).decoded) 3) 0
  pub qualities_are : qualities ≡ four n (λ (b : ℕ). quality_of (block b).metric (depunctured_block xs b)) nothing
  pub depunctured_are : after.depunctured ≡ (work_after xs block n before).depunctured
  pub words_are : after.words ≡ (work_after xs block n before).words
  pub bits_are : after.bits ≡ (work_after xs block n before).bits
  pub fibs_are : after.fibs ≡ written block n ++ drop (32 * sum) before.fibs

pub run_none : (xs : List ℤ) (before : Buffers) (counts : List ℕ) (qualities : List Quality) → counts ≡ four 0 (λ (b : ℕ). 0) 0 → qualities ≡ four 0 (λ (b : ℕ). nothing) nothing → Run xs before 0 0 counts qualities before
unfolding total written work_after list_from
run_none xs before counts qualities c q =
    record {
      block = λ b. record { decoded = []; choices = []; metric = pos 0 };
      each = λ b l. absurd (not-suc-le-zero l);
      sum_is = refl;
      few = omega arith;
      counts_are = c;
      qualities_are = q;
      depunctured_are = refl;
      words_are = refl;
      bits_are = refl;
      fibs_are = refl;
    }

-- what lies behind a block's own values, choices and bits is as it was before the first
rest_depunctured : (xs : List ℤ) (k : ℕ → Block) (n : ℕ) (before : Buffers) → drop 3096 (work_after xs k n before).depunctured ≡ drop 3096 before.depunctured
unfolding work_after depunctured_block
rest_depunctured xs k zero before = refl
rest_depunctured xs k (suc n) before = drop_at (depunctured_block xs n) (drop 3096 before.depunctured) 3096 (restored_length (block_of xs n))

rest_words : (xs : List ℤ) (k : ℕ → Block) (n : ℕ) (before : Buffers) → ((b : ℕ) → b < n → IsBlock xs b (k b)) → drop 774 (work_after xs k n before).words ≡ drop 774 before.words
unfolding work_after
rest_words xs k zero before e = refl
rest_words xs k (suc n) before e = drop_at (k n).choices (drop 774 before.words) 774 (e n (omega arith)).chosen.long

bits-length : {xs : List ℤ} {b : ℕ} {k : Block} → IsBlock xs b k → length (data_bits k.decoded ++ drop 768 k.decoded) ≡ 774
bits-length {k = k} e =
    length-append (data_bits k.decoded) (drop 768 k.decoded) ∙ omega (arith, data_length e.decodes, length-drop 768 k.decoded, decoded-length e.decodes)

rest_bits : (xs : List ℤ) (k : ℕ → Block) (n : ℕ) (before : Buffers) → ((b : ℕ) → b < n → IsBlock xs b (k b)) → drop 774 (work_after xs k n before).bits ≡ drop 774 before.bits
unfolding work_after
rest_bits xs k zero before e = refl
rest_bits xs k (suc n) before e = drop_at (data_bits (k n).decoded ++ drop 768 (k n).decoded) (drop 774 before.bits) 774 (bits-length (e n (omega arith)))

-- the caller's buffers after a block that wrote its FIBs from byte 32 sum on
abbrev pub behind : Buffers → ℕ → Buffers
behind l sum = fic_buffers l.depunctured l.words l.bits (drop (32 * sum) l.fibs)

abbrev pub before_and : Buffers → ℕ → Buffers → Buffers
before_and old sum new = fic_buffers new.depunctured new.words new.bits (take (32 * sum) old.fibs ++ new.fibs)

module _ (xs : List ℤ) (before : Buffers) (n sum count : ℕ) (counts : List ℕ) (qualities : List Quality) (after new : Buffers) (q : Quality) (h : n < 4)
    (r : Run xs before n sum counts qualities after) (p : BlockProcessed (block_of xs n) (behind after sum) count q new) where
  blocks : ℕ → Block
  blocks = with_block r.block n p.block

  last : blocks n ≡ p.block
  unfolding blocks
  last = with_same r.block n p.block

  earlier : (i : ℕ) → i < n → r.block i ≡ blocks i
  unfolding blocks
  earlier = with_other r.block n p.block

  this : IsBlock xs n p.block
  unfolding depunctured_block
  this = record { decodes = p.decodes; chosen = p.chosen }

  every : (b : ℕ) → b < n + 1 → IsBlock xs b (blocks b)
  every b l = go (ℕ_discrete b n)
    where
      go : Dec (b ≡ n) → IsBlock xs b (blocks b)
      go (yes e) = subst (λ (m : ℕ). IsBlock xs m (blocks m)) (sym e) (subst (IsBlock xs n) (sym last) this)
      go (no e) = let g : b < n = omega arith in subst (IsBlock xs b) (earlier b g) (r.each b g)

  count_is : count ≡ count_of (data_bits (blocks n).decoded) 3
  count_is = p.count_is ∙ ap (λ (k : Block). count_of (data_bits k.decoded) 3) (sym last)

  sum_next : sum + count ≡ total blocks (n + 1)
  unfolding total
  sum_next = ap₂ (λ (a b : ℕ). a + b) (r.sum_is ∙ total_ext r.block blocks n earlier) count_is ∙ ap (total blocks) (sym (add-one n))

  next_written : written blocks (n + 1) ≡ written r.block n ++ passed_bytes (data_bits p.block.decoded) 3
  unfolding written
  next_written = ap (written blocks) (add-one n) ∙ ap₂ (λ (a : List ℕ) (b : Block). a ++ passed_bytes (data_bits b.decoded) 3) (sym (written_ext r.block blocks n earlier)) last

  long : length (written r.block n) ≡ 32 * sum
  long = written-length r.block n r.each ∙ ap (λ (m : ℕ). 32 * m) (sym r.sum_is)

  front : take (32 * sum) after.fibs ≡ written r.block n
  front = ap (take (32 * sum)) r.fibs_are ∙ take_at (written r.block n) (drop (32 * sum) before.fibs) (32 * sum) long

  back : drop (32 * sum) after.fibs ≡ drop (32 * sum) before.fibs
  back = ap (drop (32 * sum)) r.fibs_are ∙ drop_at (written r.block n) (drop (32 * sum) before.fibs) (32 * sum) long

  at_end : 32 * sum + 32 * count ≡ 32 * (sum + count)
  at_end = omega arith

  next_fibs : take (32 * sum) after.fibs ++ new.fibs ≡ written blocks (n + 1) ++ drop (32 * (sum + count)) before.fibs
  next_fibs =
      ap₂ (λ (a b : List ℕ). a ++ b) front (p.fibs_are ∙ ap (λ (l : List ℕ). passed_bytes (data_bits p.block.decoded) 3 ++ drop (32 * count) l) back)
      ∙ sym (append_assoc (written r.block n) (passed_bytes (data_bits p.block.decoded) 3) (drop (32 * count) (drop (32 * sum) before.fibs)))
      ∙ ap₂ (λ (a b : List ℕ). a ++ b) (sym next_written) (drop-drop (32 * count) (32 * sum) before.fibs ∙ ap (λ (m : ℕ). drop m before.fibs) at_end)

  pub run_next : Run xs before (n + 1) (sum + count) (set counts n count) (set qualities n q) (before_and after sum new)
  unfolding work_after depunctured_block
  run_next =
      record {
        block = blocks;
        each = every;
        sum_is = sum_next;
        few = omega (arith, r.few, p.count_is, count-le (data_bits p.block.decoded) 3);
        counts_are =
            four_next 0 n (λ (b : ℕ). count_of (data_bits (r.block b).decoded) 3) (λ (b : ℕ). count_of (data_bits (blocks b).decoded) 3) 0 count counts h r.counts_are
            (λ i l. ap (λ (k : Block). count_of (data_bits k.decoded) 3) (earlier i l)) count_is;
        qualities_are =
            four_next nothing n (λ (b : ℕ). quality_of (r.block b).metric (depunctured_block xs b)) (λ (b : ℕ). quality_of (blocks b).metric (depunctured_block xs b)) nothing q qualities h r.qualities_are
            (λ i l. ap (λ (k : Block). quality_of k.metric (depunctured_block xs i)) (earlier i l)) (p.quality_is ∙ ap (λ (k : Block). quality_of k.metric (depunctured_block xs n)) (sym last));
        depunctured_are =
            p.depunctured_are ∙ ap (λ (l : List ℤ). depunctured_block xs n ++ l) (ap (drop 3096) r.depunctured_are ∙ rest_depunctured xs r.block n before)
            ∙ ap (λ (m : ℕ). (work_after xs blocks m before).depunctured) (sym (add-one n));
        words_are =
            p.words_are ∙ ap₂ (λ (k : Block) (l : List ℕ). k.choices ++ l) (sym last) (ap (drop 774) r.words_are ∙ rest_words xs r.block n before r.each)
            ∙ ap (λ (m : ℕ). (work_after xs blocks m before).words) (sym (add-one n));
        bits_are =
            p.bits_are ∙ ap₂ (λ (k : Block) (l : List ℕ). (data_bits k.decoded ++ drop 768 k.decoded) ++ l) (sym last) (ap (drop 774) r.bits_are ∙ rest_bits xs r.block n before r.each)
            ∙ ap (λ (m : ℕ). (work_after xs blocks m before).bits) (sym (add-one n));
        fibs_are = next_fibs;
      }

-- after the last block
pub whole_run : {xs : List ℤ} {n b sum : ℕ} {before after : Buffers} {passed : List ℕ} {quality : List Quality} → b ≡ n → Run xs before b sum passed quality after → Processed xs n before (record { fibs = sum; passed = passed; quality = quality }) after
whole_run {xs} {n} {b} {sum} {before} {after} {passed} {quality} same r = subst (λ (m : ℕ). Processed xs m before (record { fibs = sum; passed = passed; quality = quality }) after) same made
  where
    made : Processed xs b before (record { fibs = sum; passed = passed; quality = quality }) after
    made =
        record {
          block = r.block;
          each = r.each;
          answer = r.sum_is;
          passed = r.counts_are;
          quality = r.qualities_are;
          depunctured = r.depunctured_are;
          words = r.words_are;
          bits = r.bits_are;
          fibs = r.fibs_are ∙ ap (λ (m : ℕ). written r.block b ++ drop (32 * m) before.fibs) r.sum_is;
        }

pub no_percent : of_bits binary64 0 ≡ nothing.percent
unfolding of_bits
no_percent = refl

-- an array of four that are each x
same_at : {A : Type 0} (x : A) (i : ℕ) → get_or (x ∷ x ∷ x ∷ x ∷ []) i x ≡ x
same_at x zero = refl
same_at x (suc zero) = refl
same_at x (suc (suc zero)) = refl
same_at x (suc (suc (suc zero))) = refl
same_at x (suc (suc (suc (suc i)))) = refl

pub four_same : {A : Type 0} {P : A → Type 0} {xs : List A} (x : A) → ((y : A) → P y → y ≡ x) → AllOfLen P xs 4 → xs ≡ x ∷ x ∷ x ∷ x ∷ []
four_same {xs = xs} x one h = ext_get_or x xs (x ∷ x ∷ x ∷ x ∷ []) h.long (λ i l. one _ (h.at i x (omega (arith, h.long))) ∙ sym (same_at x i))

-- no whole block: nothing is changed
pub no_block : {xs : List ℤ} {l after : Buffers} {fic : Fic} → length xs < 2304 → after ≡ l → fic.fibs ≡ 0 → fic.passed ≡ four 0 (λ (b : ℕ). 0) 0 → fic.quality ≡ four 0 (λ (b : ℕ). nothing) nothing → Processed xs (blocks_in xs) l fic after
no_block {xs} {l} {after} {fic} short same e p q =
    let none : 0 ≡ blocks_in xs = omega arith in
    whole_run none (subst₂ (λ (n : ℕ) (a : Buffers). Run xs l 0 n fic.passed fic.quality a) (sym e) (sym same) (run_none xs l fic.passed fic.quality p q))
