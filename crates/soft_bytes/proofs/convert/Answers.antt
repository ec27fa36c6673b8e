-- `soft_bytes::convert` meets its contract: turn by turn one value more is converted.
-- Assumes nothing.
use mathlib.Core.Path.{◌≡◌, sym, ap, ◌∙◌}
use mathlib.Core.List.{List, map}
use Prim.Native.Nat.{ℕ, ◌<◌}
use native.Mathlib.Omega.{arith}
use native.Mathlib.Nat.{zero-add}
use lib.IntN.{ℤ, pos}
use lib.ListN.{length, get_or, set, take, length-map, length-take, get_or-map}
use lib.Seq.{paste, get_or-take}
use mir.Syntax.{w8}
use mir.Val.{to_z, of_z}
use Rattle.laws.proofs.Machine.{back}
use Rattle.laws.proofs.Pasted.{pasted_next}
use Rattle.soft_bytes.specs.Soft.{soft_of}
use Rattle.soft_bytes.proofs.convert.Goals as goal

-- value i of those converted
at : (bytes : List ℕ) (i : ℕ) → get_or (map soft_of bytes) i (pos 0) ≡ soft_of (get_or bytes i 0)
unfolding soft_of
at bytes i = get_or-map soft_of bytes i 0

pub loop-i-preserved : goal.loop-i-preserved
loop-i-preserved c =
    let bytes = c.args.bytes.now in
    let old = c.args.soft.now in
    let i = c.loop-i.i in
    let x = to_z w8 (of_z w8 c.soft_of.result) in
    let long : i < length (take c.min-n.result bytes) = c.loop-i-test.true in
    let within = length-take c.min-n.result bytes in
    let e = back w8 c.soft_of.type_inv (c.soft_of.ensures ∙ ap soft_of (get_or-take c.min-n.result bytes i 0 (omega arith))) in
    ap (λ (l : List ℤ). set l i x) c.loop-i.invariant
    ∙ ap (λ (k : ℕ). set (paste old 0 (map soft_of bytes) i) k x) (sym (zero-add i))
    ∙ pasted_next (pos 0) old 0 (map soft_of bytes) i x (omega arith) (omega (arith, length-map bytes soft_of)) (e ∙ sym (at bytes i))
