-- Each test is the first that holds in document 01's order.
use Rattle.std.proofs.Common.{◌≡◌, ◌∙◌, refl, sym, ap, ap₂, ℕ, ◌%◌, ◌*◌, arith}
use Rattle.spec_en300401.specs.Eep.{unit}
use Rattle.refusal.specs.Outcome.{outcome}
use Rattle.fec_protection.proofs.Shapes.{size-refused, unit-refused, eep-place}
use Rattle.fec_protection.proofs.judge_eep.Goals as goal

pub returns-then-from-needed : goal.returns-then-from-needed
returns-then-from-needed c =
    let a = c.args.d in
    rw (size-refused a.start_addr a.sub_size a.eep_option a.bitrate c.args.needed (λ e. c.if-from-needed.true (ap (λ (n : ℕ). 64 * n) c.from.ensures ∙ e))) refl

pub returns-then-from-unit-ne0 : goal.returns-then-from-unit-ne0
returns-then-from-unit-ne0 c =
    let a = c.args.d in
    let fits : 64 * a.sub_size ≡ c.args.needed = omega (arith, c.from.ensures) in
    rw (unit-refused a.start_addr a.sub_size a.eep_option a.bitrate c.args.needed fits (λ e. c.if-from-unit-ne0.true (ap₂ (λ (n m : ℕ). n % m) c.from-2.ensures c.unit.ensures.value ∙ e))) refl

pub returns : goal.returns
returns c =
    let a = c.args.d in
    let fits : 64 * a.sub_size ≡ c.args.needed = omega (arith, c.from.ensures) in
    let even : a.bitrate % unit a.eep_option ≡ 0 = sym (ap₂ (λ (n m : ℕ). n % m) c.from-2.ensures c.unit.ensures.value) ∙ c.if-from-unit-ne0.false in
    c.judge_place.ensures ∙ ap (λ (n : ℕ). outcome n tt) (sym (eep-place a.start_addr a.sub_size a.eep_option a.bitrate c.args.needed fits even))
