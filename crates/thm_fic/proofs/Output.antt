-- The FIC's theorem (specs/Theorems.antt): a block that was heard clean gives its three FIBs, whatever the other blocks hold.
-- Assumes nothing.
use mathlib.Core.Path.{◌≡◌, refl, sym, ap, ap₂, ◌∙◌, subst}
use mathlib.Core.Bool.{Bool, cond}
use mathlib.Core.List.{List, [], ◌++◌, append_assoc, append-nil}
use Prim.Native.Nat.{ℕ, zero, suc, ◌+◌, ◌*◌, ◌/◌, ◌<◌, ◌≤◌}
use native.Mathlib.Omega.{arith}
use native.Mathlib.Decide.{ℕ_discrete, dec_lt}
use borrow.Author.Tests.{lt-ltb}
use lib.ListN.{length, get_or, take, drop, length-append}
use lib.Seq.{take_at, drop_at}
use lib.IntN.{ℤ}
use Rattle.std.specs.Prelude.{Result, Ok}
use Rattle.refusal.specs.declared.Refusal.{Refusal}
use Rattle.refusal.proofs.Laws.{given_number, given_value}
use Rattle.refusal.proofs.Told.{is-ok}
use Rattle.fic_handler.specs.declared.Fic.{Fic}
use Rattle.fic_handler.specs.Blocks.{joined, blocks_in, data_bits, passed_bytes, count_of, Block, IsBlock, written, total}
use Rattle.fic_handler.specs.Promise.{process_refusal, four, Processed, Outcomes, FicPromise}
use Rattle.fic_handler.proofs.Run.{four-at, written-length}
use Rattle.fic_handler.proofs.Refusals.{first-long, second-long, third-long, no_refusal}
use Rattle.spec_sender.specs.Fic.{fibs_of}
use Rattle.spec_sender.proofs.Fic.{fibs-length}
use Rattle.thm_fic.specs.Heard.{TakenCall, values_of, Heard, passed_before, AllComeOut}
use Rattle.thm_fic.specs.Theorems.{CleanBlockComesOut, CleanBlocksComeOut, WholeFicComesOut}
use Rattle.thm_fic.proofs.Chain.{block-passed, block-counted}

-- ---- the bytes of block b among all

module _ (k : ℕ → Block) where
  abbrev bytes_by : ℕ → List ℕ
  bytes_by b = passed_bytes (data_bits (k b).decoded) 3

  -- those of the blocks before it, its own, and others
  pub record Split (b n : ℕ) : Type 0 where
    pub others : List ℕ
    pub is : written k n ≡ written k b ++ (bytes_by b ++ others)

  split : (b n : ℕ) → b < n → Split b n
  unfolding written
  split b zero h = absurd (omega arith)
  split b (suc n) h = go (ℕ_discrete b n) (split b n)
    where
      go : Dec (b ≡ n) → (b < n → Split b n) → Split b (suc n)
      go (yes e) earlier = record { others = []; is = ap (λ (m : ℕ). written k m ++ bytes_by m) (sym e) ∙ ap (λ (r : List ℕ). written k b ++ r) (sym (append-nil (bytes_by b))) }
      go (no e) earlier =
          let s : Split b n = earlier (omega arith) in
          record {
            others = s.others ++ bytes_by n;
            is =
                ap (λ (r : List ℕ). r ++ bytes_by n) s.is ∙ append_assoc (written k b) (bytes_by b ++ s.others) (bytes_by n)
                ∙ ap (λ (r : List ℕ). written k b ++ r) (append_assoc (bytes_by b) s.others (bytes_by n));
          }

  -- a block's own 96 bytes, where all three passed
  own-bytes : {xs : List ℤ} (n b : ℕ) → b < n → ((i : ℕ) → i < n → IsBlock xs i (k i)) → length (bytes_by b) ≡ 96 → (rest : List ℕ) → take 96 (drop (32 * total k b) (written k n ++ rest)) ≡ bytes_by b
  own-bytes n b h each long rest =
      let s : Split b n = split b n h in
      let all : written k n ++ rest ≡ written k b ++ (bytes_by b ++ (s.others ++ rest)) =
      ap (λ (r : List ℕ). r ++ rest) s.is ∙ append_assoc (written k b) (bytes_by b ++ s.others) rest ∙ ap (λ (r : List ℕ). written k b ++ r) (append_assoc (bytes_by b) s.others rest) in
      ap (λ (r : List ℕ). take 96 (drop (32 * total k b) r)) all
      ∙ ap (take 96) (drop_at (written k b) (bytes_by b ++ (s.others ++ rest)) (32 * total k b) (written-length k b (λ i l. each i (omega arith))))
      ∙ take_at (bytes_by b) (s.others ++ rest) 96 long

-- ---- the counts

count_at : (n b : ℕ) (f : ℕ → ℕ) → b < n → b < 4 → get_or (four n f 0) b 0 ≡ f b
count_at n b f h l = four-at 0 n f 0 b l ∙ ap (λ (t : Bool). cond t (f b) 0) (lt-ltb b n h)

before-is : (k : ℕ → Block) (n b : ℕ) → b ≤ n → b ≤ 4 → passed_before (four n (λ (i : ℕ). count_of (data_bits (k i).decoded) 3) 0) b ≡ total k b
unfolding passed_before total
before-is k n zero h l = refl
before-is k n (suc b) h l = ap₂ (λ (x y : ℕ). x + y) (before-is k n b (omega arith) (omega arith)) (count_at n b (λ (i : ℕ). count_of (data_bits (k i).decoded) 3) (omega arith) (omega arith))

-- three of each
counted-all : (k : ℕ → Block) (n : ℕ) → ((b : ℕ) → b < n → count_of (data_bits (k b).decoded) 3 ≡ 3) → total k n ≡ 3 * n
unfolding total
counted-all k zero each = refl
counted-all k (suc n) each = omega (arith, counted-all k n (λ b l. each b (omega arith)), each n (omega arith))

-- ---- what comes out

module _ (c : TakenCall) where
  abbrev values : List ℤ
  values = values_of c

  abbrev refusal : ℕ
  refusal = process_refusal c.s1 c.s2 c.s3 c.before

  -- the call was not refused: it has no refusal
  none_given : refusal ≡ 0
  none_given = given_number refusal c.promise.fic c.result c.promise.answer

  -- so it has four blocks at the most
  short : (s : List ℤ) → (3072 < length s → refusal ≡ 11) → length s ≤ 3072
  short s long = go (dec_lt 3072 (length s))
    where
      go : Dec (3072 < length s) → length s ≤ 3072
      go (yes h) = absurd (omega (arith, long h, none_given))
      go (no h) = omega arith

  few : blocks_in values ≤ 4
  few =
      let l1 : length c.s1 ≤ 3072 = short c.s1 (first-long c.s1 c.s2 c.s3 c.before) in
      let l2 : length c.s2 ≤ 3072 = short c.s2 (second-long c.s1 c.s2 c.s3 c.before l1) in
      let l3 : length c.s3 ≤ 3072 = short c.s3 (third-long c.s1 c.s2 c.s3 c.before l1 l2) in
      omega (arith, length-append c.s1 (c.s2 ++ c.s3), length-append c.s2 c.s3)

  processed : Processed values (blocks_in values) c.before c.result c.after
  unfolding Outcomes
  processed =
      subst (λ (fic : Fic). Processed values (blocks_in values) c.before fic c.after) (sym (given_value refusal c.promise.fic c.result c.promise.answer))
      (subst (λ (n : ℕ). Outcomes n values c.before c.promise.fic c.after) none_given c.promise.outcome)

pub fibs_come_out : CleanBlockComesOut
fibs_come_out c f b h =
    let p = processed c in
    let n : ℕ = blocks_in (values c) in
    let k : ℕ → Block = p.block in
    let l : b < 4 = omega (arith, h.whole, few c) in
    let its : passed_bytes (data_bits (k b).decoded) 3 ≡ fibs_of f = block-passed f h (p.each b h.whole) in
    record {
      three = ap (λ (m : List ℕ). get_or m b 0) p.passed ∙ count_at n b (λ (i : ℕ). count_of (data_bits (k i).decoded) 3) h.whole l ∙ block-counted f h (p.each b h.whole);
      bytes =
          ap₂ (λ (m : ℕ) (out : List ℕ). take 96 (drop (32 * m) out)) (ap (λ (m : List ℕ). passed_before m b) p.passed ∙ before-is k n b (omega (arith, h.whole)) (omega arith)) p.fibs
          ∙ own-bytes k n b h.whole p.each (ap length its ∙ fibs-length f) _ ∙ its;
    }

pub all_come_out : CleanBlocksComeOut
all_come_out c fs h =
    record {
      count = p.answer ∙ counted-all k n three;
      bytes = λ b l. ap (λ (m : ℕ). take 96 (drop m c.after.fibs)) (sym (earlier b l)) ∙ (fibs_come_out c (fs b) b (h b l)).bytes;
    }
  where
    n : ℕ
    n = blocks_in (values c)

    p : Processed (values c) n c.before c.result c.after
    p = processed c

    k : ℕ → Block
    k = p.block

    three : (b : ℕ) → b < n → count_of (data_bits (k b).decoded) 3 ≡ 3
    three b l = block-counted (fs b) (h b l) (p.each b l)

    -- those of the blocks before it
    earlier : (b : ℕ) → b < n → 32 * passed_before c.result.passed b ≡ 96 * b
    earlier b l =
        let e : passed_before c.result.passed b ≡ total k b = ap (λ (m : List ℕ). passed_before m b) p.passed ∙ before-is k n b (omega (arith, l)) (omega (arith, l, few c)) in
        let u : total k b ≡ 3 * b = counted-all k b (λ i j. three i (omega (arith, j, l))) in
        omega (arith, e, u)

pub whole_fic_comes_out : WholeFicComesOut
whole_fic_comes_out s1 s2 s3 full before long r after promise fs agrees =
    record { fic = promise.fic; given = given; all = subst (λ (n : ℕ). AllComeOut fs n promise.fic after) four-blocks (all_come_out call fs heard) }
  where
    joined-long : length (joined s1 s2 s3) ≡ 9216
    joined-long = length-append s1 (s2 ++ s3) ∙ omega (arith, length-append s2 s3, full.first, full.second, full.third)

    four-blocks : blocks_in (joined s1 s2 s3) ≡ 4
    four-blocks = ap (λ (n : ℕ). n / 2304) joined-long

    none : process_refusal s1 s2 s3 before ≡ 0
    none =
        no_refusal s1 s2 s3 before (omega (arith, full.first)) (omega (arith, full.second)) (omega (arith, full.third)) long.values long.words long.bits (omega (arith, four-blocks, long.fibs))

    given : r ≡ Ok promise.fic
    given = is-ok r (process_refusal s1 s2 s3 before) promise.fic promise.answer none

    call : TakenCall
    call =
        record {
          s1 = s1;
          s2 = s2;
          s3 = s3;
          before = before;
          result = promise.fic;
          after = after;
          promise = subst (λ (a : Result Fic Refusal). FicPromise s1 s2 s3 before a after) given promise;
        }

    heard : (b : ℕ) → b < blocks_in (joined s1 s2 s3) → Heard (fs b) (joined s1 s2 s3) b
    heard b l = record { whole = l; agrees = λ i h. agrees b i (omega (arith, l, four-blocks)) h }
