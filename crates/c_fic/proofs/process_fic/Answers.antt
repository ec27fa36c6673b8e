-- Test by test, and then the handler's answer.
use Rattle.std.proofs.Common.{◌≡◌, Ok, Err, arith, rules}
use Rattle.fic_handler.specs.Blocks.{fic_buffers}
use Rattle.fic_handler.specs.Promise.{process_refusal}
use Rattle.fic_handler.proofs.Refusals.{first-long, second-long, third-long}
use Rattle.c_fic.specs.Fic.{figures, few_figures}
use Rattle.c_fic.proofs.FicCalls.{short_places, long_symbol, away, refused, written, few_counts, few_metrics, few_percents, enough_figures}
use Rattle.c_fic.proofs.process_fic.Goals as goal
use Rattle.c_fic.proofs.process_fic.Goals.{then-first-gt3072-via-then-first-gt3072, then-first-gt3072-via-else-first-gt3072+then-second-gt3072, then-first-gt3072-via-else-first-gt3072+else-second-gt3072+then-third-gt3072}
use Rattle.c_fic.proofs.process_fic.Goals.{then-counts-lt5-via-then-counts-lt5, then-counts-lt5-via-else-counts-lt5+then-metrics-lt8, then-counts-lt5-via-else-counts-lt5+else-metrics-lt8+then-percents-lt4}

pub returns-then-first-gt3072 : goal.returns-then-first-gt3072
returns-then-first-gt3072 c =
    let a = c.args in
    let l = fic_buffers a.depunctured.now a.words.now a.bits.now a.fibs.now in
    let long : process_refusal a.first.now a.second.now a.third.now l ≡ 11 =
    elim c.then-first-gt3072.branch [
      | then-first-gt3072-via-then-first-gt3072 w ↦ first-long a.first.now a.second.now a.third.now l w.if-first-gt3072.true
      | then-first-gt3072-via-else-first-gt3072+then-second-gt3072 w ↦ second-long a.first.now a.second.now a.third.now l w.if-first-gt3072.false w.if-second-gt3072.true
      | then-first-gt3072-via-else-first-gt3072+else-second-gt3072+then-third-gt3072 w ↦
          third-long a.first.now a.second.now a.third.now l w.if-first-gt3072.false w.if-second-gt3072.false (omega arith)
    ] in
    away _ _ _ _ _ (long_symbol _ _ _ _ _ long)

pub returns-then-counts-lt5 : goal.returns-then-counts-lt5
returns-then-counts-lt5 c =
    let f = figures c.args.counts.now c.args.metrics.now c.args.percents.now in
    let few : few_figures f ≡ 8 =
    elim c.then-counts-lt5.branch [
      | then-counts-lt5-via-then-counts-lt5 w ↦ few_counts f w.if-counts-lt5.true
      | then-counts-lt5-via-else-counts-lt5+then-metrics-lt8 w ↦ few_metrics f w.if-counts-lt5.false w.if-metrics-lt8.true
      | then-counts-lt5-via-else-counts-lt5+else-metrics-lt8+then-percents-lt4 w ↦ few_percents f w.if-counts-lt5.false w.if-metrics-lt8.false w.if-percents-lt4.true
    ] in
    away _ _ _ _ _ (short_places _ _ _ _ _ c.if-first-gt3072.false c.if-second-gt3072.false (omega arith) few)

pub returns-in_err-fic : goal.returns-in_err-fic
returns-in_err-fic c =
    let given : c.process_fic.result ≡ Err c.in_err-fic.field-0.0 = search rules in
    let passed_on : c.from_residual.result ≡ Err c.in_err-fic.field-0.0 = search rules in
    refused _ _ _ _ _ (enough_figures _ c.if-counts-lt5.false c.if-metrics-lt8.false c.if-percents-lt4.false) given passed_on c.process_fic.ensures

pub returns : goal.returns
returns c =
    let given : c.process_fic.result ≡ Ok c.in_ok-fic.fic = search rules in
    written _ _ _ _ (figures c.args.counts.now c.args.metrics.now c.args.percents.now) (enough_figures _ c.if-counts-lt5.false c.if-metrics-lt8.false c.if-percents-lt4.false) given c.process_fic.ensures
    c.put_counts.ensures c.put_qualities.ensures.metrics c.put_qualities.ensures.percents
