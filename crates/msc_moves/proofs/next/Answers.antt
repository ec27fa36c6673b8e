use Rattle.std.proofs.Math.Nat.{mod-add-mod}
use Rattle.msc_moves.proofs.next.Goals as goal

pub returns : goal.returns
returns c = mod-add-mod _ _ 1
