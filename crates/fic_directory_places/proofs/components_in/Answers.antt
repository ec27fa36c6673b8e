use Rattle.std.proofs.Common.{arith}
use Rattle.fic_directory_places.specs.Code.{component_at}
use Rattle.fic_directory_places.proofs.Looked.{zeros_behind}
use Rattle.fic_directory_places.proofs.components_in.Goals as goal

pub returns : goal.returns
returns c = zeros_behind (component_at c.args.numbers.now 0) c.args.count _ c.requires c.loop-k.invariant.size (λ k h. c.loop-k.invariant.each k (omega arith))
