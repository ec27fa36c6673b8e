use Rattle.std.proofs.Common.{◌≡◌, ◌≤◌, ◌/◌, ◌%◌, ℤ, nat_abs, ◌+ℤ◌, arith, rules, to_z, of_z, to_z-of_z, ap, ◌∙◌, w8, w32, SFits}
use Rattle.std.proofs.lemmas.Int.{ints}
use Rattle.laws.specs.Integers.{at}
use Rattle.laws.proofs.Integers.{abs_sum}
use Rattle.spec_trellis.specs.Trellis.{sign_by}
use Rattle.fec_viterbi.specs.Code.{correlation_of}
use Rattle.fec_viterbi.proofs.correlation.Goals as goal

-- a sum of four small values, read back from its bits
module _ (a b c d : ℤ) (ha : nat_abs a ≤ 128) (hb : nat_abs b ≤ 128) (hc : nat_abs c ≤ 128) (hd : nat_abs d ≤ 128) where
  three : ℤ
  three = to_z w32 (of_z w32 (to_z w32 (of_z w32 (to_z w32 (of_z w32 a) +ℤ to_z w32 (of_z w32 b))) +ℤ to_z w32 (of_z w32 c)))

  sum_fits : SFits w32 (three +ℤ to_z w32 (of_z w32 d))
  unfolding three
  sum_fits = omega (arith, ints)

  sum_is : to_z w32 (of_z w32 (three +ℤ to_z w32 (of_z w32 d))) ≡ a +ℤ b +ℤ c +ℤ d
  unfolding three
  sum_is = omega (arith, ints)

  sum_small : nat_abs (to_z w32 (of_z w32 (three +ℤ to_z w32 (of_z w32 d)))) ≤ 512
  sum_small = rw sum_is (omega (arith, abs_sum (a +ℤ b +ℤ c) d, abs_sum (a +ℤ b) c, abs_sum a b))

pub overflow_add-result-3 : goal.overflow_add-result-3
unfolding three
overflow_add-result-3 c =
    sum_fits c.signed.result c.signed-2.result c.signed-3.result c.signed-4.result c.signed.ensures.small c.signed-2.ensures.small c.signed-3.ensures.small c.signed-4.ensures.small

pub returns-clause-value : goal.returns-clause-value
unfolding three correlation_of
returns-clause-value c =
    let v = c.args.soft in
    let p = c.args.pattern in
    let f0 : SFits w8 (at v 0) = search rules in
    let f1 : SFits w8 (at v 1) = search rules in
    let f2 : SFits w8 (at v 2) = search rules in
    let f3 : SFits w8 (at v 3) = search rules in
    let s0 = c.signed.ensures in
    let s1 = c.signed-2.ensures in
    let s2 = c.signed-3.ensures in
    let s3 = c.signed-4.ensures in
    sum_is c.signed.result c.signed-2.result c.signed-3.result c.signed-4.result s0.small s1.small s2.small s3.small
    ∙ (λ i. (s0.value ∙ ap (sign_by (p % 2)) (to_z-of_z f0)) i +ℤ (s1.value ∙ ap (sign_by (p / 2 % 2)) (to_z-of_z f1)) i
    +ℤ (s2.value ∙ ap (sign_by (p / 4 % 2)) (to_z-of_z f2)) i +ℤ (s3.value ∙ ap (sign_by (p / 8 % 2)) (to_z-of_z f3)) i)

pub returns-clause-small : goal.returns-clause-small
unfolding three
returns-clause-small c =
    sum_small c.signed.result c.signed-2.result c.signed-3.result c.signed-4.result c.signed.ensures.small c.signed-2.ensures.small c.signed-3.ensures.small c.signed-4.ensures.small
