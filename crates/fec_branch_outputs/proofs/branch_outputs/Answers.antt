use Rattle.std.proofs.Common.{refl}
use lib.Count.{ones, ones_in}
use Rattle.laws.specs.Lists.{list_from}
use Rattle.spec_trellis.specs.Trellis.{parity, out_bit}
use Rattle.fec_branch_outputs.specs.Outputs.{branch_outputs}
use Rattle.fec_branch_outputs.proofs.branch_outputs.Goals as goal

-- one computation over all 512 entries
pub returns : goal.returns
unfolding branch_outputs list_from out_bit parity ones ones_in
returns c = refl
