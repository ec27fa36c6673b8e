-- Turn by turn one value more of the part is replaced.
use Rattle.std.proofs.Common.{rules, ◌≡◌, ap, ◌∙◌, ℕ, ◌+◌, List, ℤ, pos, get_or, set, refl, SFits, w8, to_z-of_z, arith}
use Rattle.std.proofs.Math.Seq.{paste}
use Rattle.laws.proofs.Pasted.{pasted_next}
use Rattle.msc_handler.proofs.store.Goals as goal

pub loop-i-preserved : goal.loop-i-preserved
loop-i-preserved c =
    let i = c.loop-i.i in
    let soft = c.args.soft.now in
    let from = c.args.from in
    let fits : SFits w8 (get_or soft i (pos 0)) = search rules in
    rw (to_z-of_z fits)
    (ap (λ (l : List ℤ). set l (from + i) (get_or soft i (pos 0))) c.loop-i.invariant
    ∙ pasted_next (pos 0) c.args.cif.now from soft i (get_or soft i (pos 0)) (omega arith) (omega arith) refl)

pub returns : goal.returns
returns c =
    let all : c.loop-i.i ≡ 3072 = omega arith in
    c.loop-i.invariant ∙ ap (λ (n : ℕ). paste c.args.cif.now c.args.from c.args.soft.now n) all
