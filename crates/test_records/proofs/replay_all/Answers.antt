-- Each record counted is one that the judge was asked of.
use Rattle.std.proofs.Common.{◌∙◌, sym, ap, subst, ℕ}
use Rattle.test_records.specs.Tally.{Tallied, counted, nothing, one}
use Rattle.test_records.proofs.replay_all.Goals as goal

pub loop-init : goal.loop-init
loop-init g c = subst (Tallied _) (sym c.new-tally.ensures) nothing

pub loop-preserved : goal.loop-preserved
loop-preserved g c = subst (Tallied _) (sym (c.count.ensures ∙ ap (λ (k : ℕ). counted c.loop.tally k c.is_same-same.result) c.from.ensures)) (one _ _ _ c.loop.invariant (_, _, c.is_same-same.ensures))
