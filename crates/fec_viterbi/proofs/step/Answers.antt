use Rattle.std.proofs.Common.{◌≡◌, ◌≤◌, ◌<◌, ◌^◌, ◌/◌, ◌%◌, ◌+◌, ◌*◌, ℕ, List, refl, sym, ap, ap₂, ◌∙◌, arith, rules, ℤ, pos, nat_abs, ◌+ℤ◌, to_z, of_z, w32}
use Rattle.std.proofs.Math.ListN.{length-set}
use Rattle.std.proofs.lemmas.Int.{ints}
use Rattle.std.specs.Int.{int_max, from_bool}
use Rattle.std.specs.Int.Signed.{lt_z}
use Rattle.laws.specs.Integers.{at}
use Rattle.laws.specs.Words.{pick_n}
use Rattle.laws.proofs.Machine.{back}
use Rattle.laws.proofs.Slices.{filled}
use Rattle.laws.proofs.Words.{word_zero, word_next, word_lt}
use Rattle.spec_trellis.specs.Trellis.{branch}
use Rattle.spec_trellis.specs.Program.{takes, acs, low_way, high_way}
use Rattle.fec_viterbi.specs.Code.{pattern_of, correlation_of, Within}
use Rattle.fec_viterbi.proofs.Steps.{pattern_lt, correlation_branch, max_is, flag_is, bit_above, bit_fits}
use Rattle.fec_viterbi.proofs.step.Goals as goal

-- a score and what is added to it, read back from the bits of their sum
sum_is : (a b : ℤ) → nat_abs a ≤ 1000000 → nat_abs b ≤ 512 → to_z w32 (of_z w32 (to_z w32 (of_z w32 a) +ℤ to_z w32 (of_z w32 b))) ≡ a +ℤ b
sum_is a b ha hb = omega (arith, ints)

-- the score of the way out of state s at input b
way_is : (scores added v : List ℤ) (s b q : ℕ) → Within 64 1000000 scores → Within 16 512 added → ((p : ℕ) → p < 16 → at added p ≡ correlation_of v p) → s < 64 → q ≡ pattern_of s b
    → to_z w32 (of_z w32 (to_z w32 (of_z w32 (at scores s)) +ℤ to_z w32 (of_z w32 (at added q)))) ≡ at scores s +ℤ branch v 0 s b
way_is scores added v s b q small few each h e =
    sum_is (at scores s) (at added q) (small s h) (few q (omega (arith, pattern_lt s b)))
    ∙ ap (λ (z : ℤ). at scores s +ℤ z) (ap (at added) e ∙ each (pattern_of s b) (pattern_lt s b) ∙ correlation_branch v s b)

pub loop-t-init : goal.loop-t-init
loop-t-init c = record { size = refl; word_is = sym (word_zero _); each = λ k h. absurd (omega arith) }

pub overflow_add-low : goal.overflow_add-low
overflow_add-low c =
    let a = c.requires (c.loop-t.t / 2) (omega arith) in
    let b = c.correlations-added.ensures.small c.of.result c.of.ensures.below in
    search rules

pub overflow_add-high-in-loop-t : goal.overflow_add-high-in-loop-t
overflow_add-high-in-loop-t c =
    let a = c.requires (c.loop-t.t / 2 + 32) (omega arith) in
    let b = c.correlations-added.ensures.small c.of-in-loop-t.result c.of-in-loop-t.ensures.below in
    search rules

pub overflow_add-word : goal.overflow_add-word
overflow_add-word c =
    let t = c.loop-t.t in
    let f = takes (at c.args.scores) (branch c.args.soft 0) in
    rw (c.from.ensures ∙ flag_is _) (record { fits = bit_fits _ t c.loop-t.word (omega arith) (omega (arith, c.loop-t.invariant.word_is, word_lt f t)) })

pub loop-t-preserved : goal.loop-t-preserved
unfolding low_way high_way takes acs
loop-t-preserved c =
    let t = c.loop-t.t in
    let σ = at c.args.scores in
    let β = branch c.args.soft 0 in
    let k = c.correlations-added.ensures in
    let added = c.correlations-added.result in
    let lo = way_is c.args.scores added c.args.soft (t / 2) (t % 2) c.of.result c.requires k.small k.by_pattern (omega arith) c.of.ensures.value in
    let hi = way_is c.args.scores added c.args.soft (t / 2 + 32) (t % 2) c.of-in-loop-t.result c.requires k.small k.by_pattern (omega arith) (c.of-in-loop-t.ensures.value ∙ ap₂ pattern_of (omega arith) (omega arith)) in
    let new : to_z w32 (of_z w32 c.max.result) ≡ acs σ β t = back w32 c.max.type_inv (c.max.ensures.value ∙ ap₂ int_max lo hi ∙ max_is (low_way σ β t) (high_way σ β t)) in
    let bit : c.from.result ≡ pick_n (takes σ β t) 1 0 = c.from.ensures ∙ ap from_bool (ap₂ lt_z lo hi) ∙ flag_is (takes σ β t) in
    record {
      size = length-set c.loop-t.score-items t _ ∙ c.loop-t.invariant.size;
      word_is = ap₂ ◌+◌ c.loop-t.invariant.word_is (ap (λ (n : ℕ). n * 2 ^ t % 2 ^ 64) bit ∙ bit_above (takes σ β t) t (omega arith)) ∙ sym (word_next (takes σ β) t);
      each = filled (pos 0) c.loop-t.score-items t _ (acs σ β) (omega arith) c.loop-t.invariant.each new;
    }
