-- What was counted so far, the judge said.
use Rattle.test_records.specs.Tally.{Tallied}
use Rattle.test_records.proofs.replay_all.Given as goal

abbrev pub invariant-loop : goal.invariant-loop
invariant-loop g l = Tallied (λ kind same. (input : _) × (answer : _) × g.J.Judge.says l.judge kind input answer same) l.tally
