-- One block more at each turn: its FIBs are written behind those before it.
use Rattle.std.proofs.Common.{◌≡◌, sym, ap, ◌∙◌, subst, subst₂, List, [], ℕ, ◌+◌, ◌*◌, ◌-◌, ◌/◌, ◌<◌, ◌≤◌, ℤ, length, get_or, take, drop, arith}
use Rattle.std.specs.Simd.{first_chunks}
use borrow.Rule.Slice.PartMut.{put_mid}
use lib.ListN.{set}
use Rattle.laws.specs.Lists.{list_from}
use Rattle.laws.proofs.Slices.{tail_part, tail_put}
use Rattle.fec_quality.specs.declared.Quality.{Quality}
use Rattle.fec_quality.specs.Figures.{nothing}
use Rattle.fic_handler.specs.Blocks.{block_of, blocks_in, data_bits, Buffers, fic_buffers}
use Rattle.fic_handler.specs.Code.{BlockProcessed}
use Rattle.laws.proofs.Chunks.{chunk_at}
use Rattle.fic_handler.proofs.Fibs.{count-le}
use Rattle.fic_handler.proofs.Run.{Run, run_none, run_next, behind, whole_run, no_percent, four_same}
use Rattle.fic_handler.proofs.process_blocks.Goals as goal

at_most_three : {values : List ℤ} {before after : Buffers} {count : ℕ} {q : Quality} → BlockProcessed values before count q after → count ≤ 3
at_most_three p = omega (arith, p.count_is, count-le (data_bits p.block.decoded) 3)

-- one block more: the part of the output from byte 32 sum on was given
next : {xs : List ℤ} {b sum count : ℕ} {before after : Buffers} {passed : List ℕ} {quality : List Quality} {q : Quality} {blocks : List (List ℤ)} {dep : List ℤ} {ws bs new : List ℕ} → b < 4 → b < blocks_in xs → 32 * sum ≤ length after.fibs
    → blocks ≡ first_chunks 2304 (length xs / 2304) xs → Run xs before b sum passed quality after
    → BlockProcessed (get_or blocks b []) (fic_buffers after.depunctured after.words after.bits (take (length after.fibs - 32 * sum) (drop (32 * sum) after.fibs))) count q (fic_buffers dep ws bs new)
    → Run xs before (b + 1) (sum + count) (set passed b count) (set quality b q) (fic_buffers dep ws bs (put_mid (32 * sum) (length after.fibs - 32 * sum) after.fibs new))
next {xs} {b} {sum} {count} {before} {after} {passed} {quality} {q} {blocks} {dep} {ws} {bs} {new} few there fits e r p =
    let this : get_or blocks b [] ≡ block_of xs b = ap (λ (l : List (List ℤ)). get_or l b []) e ∙ chunk_at 2304 (blocks_in xs) xs b [] there in
    let one : BlockProcessed (block_of xs b) (behind after sum) count q (fic_buffers dep ws bs new) =
    subst₂ (λ (vs : List ℤ) (fs : List ℕ). BlockProcessed vs (fic_buffers after.depunctured after.words after.bits fs) count q (fic_buffers dep ws bs new)) this (tail_part (32 * sum) after.fibs fits) p in
    subst (λ (fs : List ℕ). Run xs before (b + 1) (sum + count) (set passed b count) (set quality b q) (fic_buffers dep ws bs fs)) (sym (tail_put (32 * sum) after.fibs fits new)) (run_next xs before b sum count passed quality after (fic_buffers dep ws bs new) q few r one)

pub loop-b-init : goal.loop-b-init
unfolding list_from
loop-b-init c =
    let fic = c.default-fic.result in
    let e = c.default-fic.ensures in
    let l = fic_buffers c.args.depunctured.now c.args.words.now c.args.bits.now c.args.fibs.now in
    let absent = four_same nothing (λ y q. (λ i. record { metric = q.0 i; sum = q.1.0 i; percent = (q.1.1 ∙ no_percent) i })) e.1.1 in
    subst (λ (n : ℕ). Run c.args.values.now l 0 n fic.passed fic.quality l) (sym e.0) (run_none c.args.values.now l _ _ (four_same 0 (λ y q. q) e.1.0) absent)

pub overflow_add-fic : goal.overflow_add-fic
overflow_add-fic c = omega (arith, at_most_three c.process_block-one.ensures, c.loop-b.invariant.few)

pub loop-b-preserved : goal.loop-b-preserved
loop-b-preserved c =
    let v = c.loop-b.invariant in
    let fits : 32 * c.loop-b.fic.fibs ≤ length c.loop-b.fibs = omega (arith, v.few) in
    next (omega (arith, c.requires.few)) (omega arith) fits c.as_chunks.ensures.front v c.process_block-one.ensures

pub returns : goal.returns
returns c = whole_run (omega arith) c.loop-b.invariant
