-- Turn by turn one value more is read; then one value more of the slice stands in slot x.
use Rattle.std.proofs.Common.{rules, ◌≡◌, ◌+◌, ◌*◌, ℕ, ℤ, List, [], ◌∷◌, Bool, true, false, pos, length, set, get_or, ap, refl, sym, ◌∙◌, arith, SFits, w8, to_z, of_z, to_z-of_z}
use mir.Val.{bool_byte}
use Rattle.std.proofs.Math.Seq.{paste, ext_get_or}
use Rattle.laws.proofs.Lists.{length-list_of, list_of-at}
use Rattle.laws.proofs.Pasted.{pasted_next}
use Rattle.laws.proofs.Slices.{filled}
use Rattle.spec_en300401.specs.Interleaving.{delays}
use Rattle.spec_en300401.proofs.Interleaving.{delay-lt}
use Rattle.msc_handler.specs.Ring.{in_slot, slot_of, read_out, refilled}
use Rattle.msc_handler.proofs.Ring.{slot_end}
use Rattle.msc_handler.proofs.deinterleave.Goals as goal

pub overflow_add-slot : goal.overflow_add-slot
unfolding delays
overflow_add-slot c = omega (arith, delay-lt c.loop-i.i)

-- a value that is picked of two is k where both are, as an edit picks
picked : (a b d k : ℤ) (t : Bool) → a ≡ k → b ≡ k → get_or (a ∷ b ∷ []) (bool_byte t) d ≡ k
picked a b d k true p q = q
picked a b d k false p q = p

pub loop-i-preserved : goal.loop-i-preserved
unfolding delays
loop-i-preserved c =
    let ring = c.args.ring.now in
    let n = length c.args.out.now in
    let x = c.args.x in
    let i = c.loop-i.i in
    let value = in_slot ring n (slot_of x i) i in
    let fits : SFits w8 value = search rules in
    let one : to_z w8 (of_z w8 value) ≡ value = to_z-of_z fits in
    let pick : (a b d : ℤ) (t : Bool) → a ≡ value → b ≡ value → to_z w8 (of_z w8 (get_or (a ∷ b ∷ []) (bool_byte t) d)) ≡ value =
    λ a b d t p q. ap (λ (z : ℤ). to_z w8 (of_z w8 z)) (picked a b d value t p q) ∙ one in
    filled (pos 0) c.loop-i.out i _ (λ (k : ℕ). in_slot ring n (slot_of x k) k) (omega arith) c.loop-i.invariant (search (one, pick))

pub loop-k-preserved : goal.loop-k-preserved
loop-k-preserved c =
    let own = c.args.own.now in
    let ring = c.args.ring.now in
    let n = length c.args.out.now in
    let x = c.args.x in
    let k = c.loop-k.k in
    let fits : SFits w8 (get_or own k (pos 0)) = search rules in
    rw (to_z-of_z fits)
    (ap (λ (l : List ℤ). set l (x * n + k) (get_or own k (pos 0))) c.loop-k.invariant
    ∙ pasted_next (pos 0) ring (x * n) own k (get_or own k (pos 0)) (omega (arith, slot_end x 16 n k c.requires.0 (omega arith))) (omega arith) refl)

pub returns : goal.returns
unfolding read_out refilled
returns c =
    let ring = c.args.ring.now in
    let own = c.args.own.now in
    let n = length c.args.out.now in
    let x = c.args.x in
    let read = λ (k : ℕ). in_slot ring n (slot_of x k) k in
    let all : c.loop-k.k ≡ n = omega arith in (
      ext_get_or (pos 0) _ _ (c.loop-i.auto.out ∙ sym (length-list_of n read)) (λ k h. c.loop-i.invariant k (omega arith) ∙ sym (list_of-at n read (pos 0) k (omega arith))),
      c.loop-k.invariant ∙ ap (λ (m : ℕ). paste ring (x * n) own m) all,
    )
