-- The next place holds what is depunctured under the next flag.
use Rattle.std.proofs.Common.{◌≡◌, ◌∙◌, ap, sym, ℕ, ◌+◌, ◌<◌, ◌≤◌, ℤ, pos, List, length, get_or, set, take, drop, arith, w8}
use Rattle.laws.specs.Integers.{at, pick_z}
use Rattle.laws.specs.Words.{pick_n}
use Rattle.laws.proofs.Machine.{back}
use Rattle.std.proofs.lemmas.List.{take_all}
use Rattle.fec_depuncturing.specs.Code.{flag, flags, Filled}
use Rattle.fec_depuncturing.proofs.Fills.{filled_none, filled_one, flags_next, length-flags}
use Rattle.fec_depuncturing.proofs.fill.Goals as goal

pub loop-j-init : goal.loop-j-init
loop-j-init c = filled_none _ _

-- one place more, wherever the values that are left are read from
place : (kept : List ℕ) (j : ℕ) {values a b r : List ℤ} → j < length kept → length kept ≤ length a → Filled (flags (take j kept)) values a b r → (v : ℤ) (s : List ℤ) → v ≡ pick_z (flag (get_or kept j 0)) (at r 0) (pos 0) → s ≡ drop (pick_n (flag (get_or kept j 0)) 1 0) r → Filled (flags (take (j + 1) kept)) values a (set b j v) s
place kept j h room f v s e l =
    let long = length-flags kept j (omega arith) in
    rw (flags_next kept j h) (rw long at (filled_one f (flag (get_or kept j 0)) v s (omega (arith, long)) e l))

-- the values that are left, through a slice of them
moved : (n : ℕ) (q m r s : List ℤ) → s ≡ drop n q → q ≡ m → m ≡ r → s ≡ drop n r
moved n q m r s e f g = e ∙ ap (drop n) (f ∙ g)

pub loop-j-preserved : goal.loop-j-preserved
loop-j-preserved c =
    let l = c.loop-j in
    let room : length c.args.kept.now ≤ length c.args.out.now = omega arith in
    let e = back w8 c.next_value.type_inv c.next_value.ensures.value in
    search (place c.args.kept.now l.j c.loop-j-test.true room l.invariant, e, moved)

pub returns : goal.returns
returns c = rw (sym (take_all c.loop-j.j c.args.kept.now (omega arith))) (c.loop-j.invariant)
