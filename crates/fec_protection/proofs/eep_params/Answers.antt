-- Each test is the first that holds in document 01's order.
use Rattle.std.proofs.Common.{refl, ap₂, ℕ, ◌<◌, ◌≤◌, ◌/◌, subst, arith}
use Rattle.fec_protection.proofs.Rows.{option-refused, level-refused, first-refused, row_given, first-is, first_small, second-small, eep_made, given_row}
use Rattle.fec_protection.proofs.eep_params.Goals as goal

pub returns-then-d-gt1 : goal.returns-then-d-gt1
returns-then-d-gt1 c = record { answer = rw (option-refused c.args.d.eep_option c.args.d.protection_level c.args.d.bitrate c.if-d-gt1.true) refl }

pub returns-then-d-gt3 : goal.returns-then-d-gt3
returns-then-d-gt3 c = record { answer = rw (level-refused c.args.d.eep_option c.args.d.protection_level c.args.d.bitrate c.if-d-gt1.false c.if-d-gt3.true) refl }

pub overflow_mul-first : goal.overflow_mul-first
overflow_mul-first c =
    let a = c.args.d in
    let u = ap₂ (λ (n m : ℕ). n / m) c.from.ensures c.unit.ensures.value in
    record { fits = omega (arith, first_small a.eep_option a.protection_level a.bitrate _ _ c.eep_level-row.ensures u (omega arith)) }

pub returns-then-first-lt3 : goal.returns-then-first-lt3
returns-then-first-lt3 c =
    let a = c.args.d in
    let u = ap₂ (λ (n m : ℕ). n / m) c.from.ensures c.unit.ensures.value in
    let e = first-is a.eep_option a.protection_level a.bitrate _ _ c.eep_level-row.ensures u in
    record { answer = rw (first-refused a.eep_option a.protection_level a.bitrate c.if-d-gt1.false c.if-d-gt3.false (subst (λ (m : ℕ). m < 3) e c.if-first-lt3.true)) refl }

pub overflow_mul-second : goal.overflow_mul-second
overflow_mul-second c =
    let a = c.args.d in
    let u = ap₂ (λ (n m : ℕ). n / m) c.from.ensures c.unit.ensures.value in
    record { fits = omega (arith, second-small a.eep_option a.protection_level a.bitrate _ _ c.eep_level-row.ensures u (omega arith)) }

pub overflow_add-result : goal.overflow_add-result
overflow_add-result c =
    let a = c.args.d in
    let u = ap₂ (λ (n m : ℕ). n / m) c.from.ensures c.unit.ensures.value in
    record { fits = omega (arith, second-small a.eep_option a.protection_level a.bitrate _ _ c.eep_level-row.ensures u (omega arith)) }

pub returns : goal.returns
returns c =
    let a = c.args.d in
    let u = ap₂ (λ (n m : ℕ). n / m) c.from.ensures c.unit.ensures.value in
    let e = first-is a.eep_option a.protection_level a.bitrate _ _ c.eep_level-row.ensures u in
    let h = c.if-first-lt3.false in
    given_row (row_given a.eep_option a.protection_level a.bitrate c.if-d-gt1.false c.if-d-gt3.false (subst (λ (m : ℕ). 3 ≤ m) e h))
    (eep_made a.eep_option a.protection_level a.bitrate _ _ c.eep_level-row.ensures u h)
