-- The size is the first that is judged, and then the place.
use Rattle.std.proofs.Common.{◌≡◌, ◌∙◌, refl, sym, ap, ℕ, ◌*◌, ◌<◌, arith}
use native.Mathlib.Decide.{dec_lt}
use Rattle.refusal.specs.Outcome.{outcome, first_of}
use Rattle.fec_protection.specs.Refusals.{uep_shape}
use Rattle.fec_protection.proofs.Shapes.{short-refused, long-refused, uep-place}
use Rattle.fec_protection.proofs.judge_uep.Goals as goal

pub returns-then-have-needed : goal.returns-then-have-needed
returns-then-have-needed c = rw (go (dec_lt (64 * c.args.d.sub_size) c.args.needed)) refl
  where
    go : Dec (64 * c.args.d.sub_size < c.args.needed) → first_of (uep_shape c.args.d.start_addr c.args.d.sub_size c.args.needed) ≡ 5
    go (yes h) = short-refused c.args.d.start_addr c.args.d.sub_size c.args.needed h
    go (no h) = long-refused c.args.d.start_addr c.args.d.sub_size c.args.needed (omega arith) (omega (arith, c.from-have.ensures))

pub returns : goal.returns
returns c =
    let a = c.args.d in
    c.judge_place.ensures
    ∙ ap (λ (n : ℕ). outcome n tt)
    (sym (uep-place a.start_addr a.sub_size c.args.needed (omega (arith, c.from-have.ensures)) (omega (arith, c.from-have.ensures))))
