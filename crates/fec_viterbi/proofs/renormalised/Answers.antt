use Rattle.std.proofs.Common.{true, false, ◌≡◌, ◌≤◌, ◌<◌, ◌^◌, ℕ, ℤ, List, pos, nat_abs, fold, length, refl, ap, ◌∙◌, arith, rules, to_z, of_z, w32, ◌-ℤ◌, ◌≤ℤ◌, ◌<ℤ◌}
use lib.Signed.{mag, le_z}
use Rattle.std.specs.Int.{int_max}
use Rattle.std.proofs.Math.ListN.{length-set}
use Rattle.std.proofs.Math.Seq.{get_or-set_other}
use Rattle.std.proofs.lemmas.Int.{ints}
use Rattle.laws.specs.Integers.{at}
use Rattle.laws.proofs.Machine.{back}
use Rattle.laws.proofs.Slices.{filled}
use Rattle.spec_trellis.specs.Program.{Greatest, stays, falls}
use Rattle.fec_viterbi.specs.Code.{Within}
use Rattle.fec_viterbi.proofs.Steps.{greatest_is}
use Rattle.fec_viterbi.proofs.renormalised.Goals as goal

-- a difference, read back from its bits
diff_is : (a b : ℤ) → nat_abs a ≤ 1000000 → nat_abs b ≤ 1000000 → to_z w32 (of_z w32 (to_z w32 (of_z w32 a) -ℤ b)) ≡ a -ℤ b
diff_is a b ha hb = omega (arith, ints)

at_most : (a b : ℤ) → le_z a b ≡ true → a ≤ℤ b
at_most a b e = grind (arith, ints)

above : (a b : ℤ) → le_z a b ≡ false → b <ℤ a
above a b e = grind (arith, ints)

-- the best score, read back from its bits
module _ (scores : List ℤ) (best : ℤ) (long : length scores ≡ 64) (ok : mag best < 2 ^ 31) (e : best ≡ fold int_max (at scores 0) scores) where
  top : Greatest (at scores) 64 (to_z w32 (of_z w32 best))
  top = rw (back w32 ok e) (greatest_is scores 64 long (omega arith))

  small : Within 64 1000000 scores → nat_abs (to_z w32 (of_z w32 best)) ≤ 1000000
  small w = rw top.is (w top.place top.place_lt)

pub returns-then-best-le-MAX_SCORE : goal.returns-then-best-le-MAX_SCORE
returns-then-best-le-MAX_SCORE c = let g = c.greatest-best in stays _ (top c.args.scores g.result (omega arith) g.type_inv g.ensures) (at_most _ _ c.if-best-le-MAX_SCORE.true) (λ t h. refl)

pub overflow_sub-score : goal.overflow_sub-score
overflow_sub-score c =
    let g = c.greatest-best in
    let s = small c.args.scores g.result (omega arith) g.type_inv g.ensures c.requires in
    let i = c.loop-score.score-index in
    let w : nat_abs (at c.loop-score.score-items i) ≤ 1000000 = rw (c.loop-score.invariant.rest i (omega arith)) (c.requires i (omega arith)) in
    search rules

pub loop-score-preserved : goal.loop-score-preserved
loop-score-preserved c =
    let g = c.greatest-best in
    let xs = c.args.scores in
    let l = c.loop-score in
    let i = l.score-index in
    let was : at l.score-items i ≡ at xs i = l.invariant.rest i (omega arith) in
    let within : nat_abs (at l.score-items i) ≤ 1000000 = rw was (c.requires i (omega arith)) in
    let best : ℤ = to_z w32 (of_z w32 g.result) in
    record {
      size = length-set l.score-items i _ ∙ l.invariant.size;
      each = filled (pos 0) l.score-items i _ (λ (t : ℕ). at xs t -ℤ best) (omega arith) l.invariant.each
          (diff_is (at l.score-items i) best within (small xs g.result (omega arith) g.type_inv g.ensures c.requires) ∙ ap (λ (z : ℤ). z -ℤ best) was);
      rest = λ t h. get_or-set_other l.score-items i t _ (pos 0) (omega arith) ∙ l.invariant.rest t (omega arith);
    }

pub returns : goal.returns
returns c =
    let g = c.greatest-best in
    falls _ (top c.args.scores g.result (omega arith) g.type_inv g.ensures) (above _ _ c.if-best-le-MAX_SCORE.false) (λ t h. c.loop-score.invariant.each t (omega arith))
