-- A copy of the vector for each sub-block, four for each block.
use Rattle.std.proofs.Common.{◌≡◌, ◌+◌, ◌*◌, ◌<◌, ℕ, ap, ◌∙◌, length, arith}
use borrow.Author.Tests.{lt-ltb}
use Rattle.laws.specs.Lists.{copies}
use Rattle.laws.proofs.Lists.{copies-zero, copies_next, length-copies}
use Rattle.spec_en300401.specs.Puncturing.{vector, region_mask}
use Rattle.spec_en300401.proofs.Puncturing.{length-vector}
use Rattle.fec_profiles.specs.Rows.{vector_at}
use Rattle.fec_depuncturing.specs.Code.{flags}
use Rattle.fec_depuncturing.proofs.Fills.{part_length, filled_none, filled_on, flags_of_bits}
use Rattle.fec_depuncturing.proofs.fill_region.Goals as goal

-- 32 places for each copy
long_of : (n pi : ℕ) → length (copies n (vector (pi + 1))) ≡ n * 32
long_of n pi = length-copies n (vector (pi + 1)) ∙ ap (λ (m : ℕ). n * m) (length-vector (pi + 1))

pub loop-i-init : goal.loop-i-init
loop-i-init c = rw copies-zero (filled_none _ _)

pub loop-i-preserved : goal.loop-i-preserved
unfolding vector_at
loop-i-preserved c =
    let s = c.args.section in
    let i = c.loop-i.i in
    let h : i < 4 * s.blocks = c.loop-i-test.true in
    let some : 0 < s.blocks = omega arith in
    let e : flags c.vector_of-kept.result ≡ vector_at s.pi = ap flags c.vector_of-kept.ensures ∙ flags_of_bits (vector_at s.pi) in
    let v : flags c.vector_of-kept.result ≡ vector (s.pi + 1) = rw (lt-ltb s.pi 24 (c.requires.1 some)) at e in
    let long = long_of i s.pi in
    rw (copies_next i (vector (s.pi + 1))) (filled_on c.loop-i.invariant (32 * i) (omega (arith, long)) (omega arith) (rw v at c.fill.ensures))

pub fill-requires : goal.fill-requires
fill-requires c =
    let i = c.loop-i.i in
    let h : i < 4 * c.args.section.blocks = c.loop-i-test.true in
    omega (arith, part_length (32 * i) c.loop-i.out (omega arith))

pub returns : goal.returns
unfolding region_mask
returns c =
    let e : c.args.section.blocks * 4 ≡ c.loop-i.i = omega arith in
    rw e c.loop-i.invariant
