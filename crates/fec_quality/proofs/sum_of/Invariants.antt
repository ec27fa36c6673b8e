-- What the loop of `fec_quality::sum_of` keeps: the sum is that of the values passed, at most 128 for each.
use Rattle.std.proofs.Common.{◌≡◌, ◌*◌, ◌≤◌, take}
use Rattle.fec_quality.specs.Figures.{sum_abs}
use Rattle.fec_quality.proofs.sum_of.Given as goal

abbrev pub invariant-loop-v : goal.invariant-loop-v
invariant-loop-v l = record { same : l.sum ≡ sum_abs (take l.v-index l.soft); few : l.sum ≤ 128 * l.v-index }
