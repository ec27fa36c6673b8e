use Rattle.laws.specs.Integers.{at}
use Rattle.spec_trellis.specs.Program.{FirstGreatest}
use Rattle.fec_viterbi.proofs.best_end.Given as goal

abbrev pub invariant-loop-state : goal.invariant-loop-state
invariant-loop-state l = FirstGreatest (at l.scores) l.state l.best
