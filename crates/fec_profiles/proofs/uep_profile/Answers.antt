-- The scan's answer is the table's first row for the bit rate and level.
use Rattle.std.proofs.Common.{◌≡◌, ◌∙◌, refl, sym, ap, Some, false, true, ◌<◌, ◌≤◌, get_or, length, arith, below_more}
use borrow.Author.Tests.{eq-eqb, ne_eqb}
use Rattle.laws.proofs.Lists.{find_at, find_none}
use Rattle.spec_en300401.specs.Uep.{uep_table, is_for, uep_row, no_row}
use Rattle.fec_profiles.specs.Rows.{found}
use Rattle.fec_profiles.proofs.Rules.{other_rate, by_level}
use Rattle.fec_profiles.proofs.uep_profile.Goals as goal
use Rattle.fec_profiles.proofs.uep_profile.Goals.{else-p-bitrate-via-then-p-bitrate+else-p-wanted, else-p-bitrate-via-else-p-bitrate}

rows : length uep_table ≡ 64
unfolding uep_table
rows = refl

pub returns-then-k-ge64 : goal.returns-then-k-ge64
unfolding uep_row
returns-then-k-ge64 c =
    let i = c.loop-k.invariant in
    let h : 64 ≤ c.loop-k.k = c.if-k-ge64.true in
    let e = find_none (is_for c.args.bitrate c.args.level) no_row uep_table (λ j l. i.passed j (omega (arith, rows))) in
    sym (ap found e)

pub loop-k-preserved : goal.loop-k-preserved
loop-k-preserved c =
    let i = c.loop-k.invariant in
    let k = c.loop-k.k in
    let a = c.args in
    let h : k < 64 = c.if-k-ge64.false in
    let e = c.row_at-p.ensures in
    let p = get_or uep_table k no_row in
    record {
      same = i.same;
      upto = omega arith;
      passed =
          below_more _ _ i.passed
          (elim c.else-p-bitrate.branch [
            | else-p-bitrate-via-then-p-bitrate+else-p-wanted w ↦ by_level a.bitrate a.level p _ e false w.if-p-bitrate.true (ne_eqb _ _ (λ q. w.if-p-wanted.false (q ∙ sym i.same)))
            | else-p-bitrate-via-else-p-bitrate w ↦ other_rate a.bitrate a.level p _ e w.if-p-bitrate.false
          ]);
    }

pub returns : goal.returns
unfolding uep_row
returns c =
    let i = c.loop-k.invariant in
    let k = c.loop-k.k in
    let a = c.args in
    let h : k < 64 = c.if-k-ge64.false in
    let e = c.row_at-p.ensures in
    let p = get_or uep_table k no_row in
    let f = find_at (is_for a.bitrate a.level) no_row uep_table k (omega (arith, rows)) i.passed (by_level a.bitrate a.level p _ e true c.if-p-bitrate.true (eq-eqb _ _ (c.if-p-wanted.true ∙ i.same))) in
    ap Some e ∙ sym (ap found f)
