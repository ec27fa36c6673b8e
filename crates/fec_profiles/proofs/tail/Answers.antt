-- The table is the tail's 24 places.
use Rattle.std.proofs.Common.{refl}
use Rattle.laws.specs.Lists.{copies}
use Rattle.spec_en300401.specs.Puncturing.{tail_mask}
use Rattle.fec_profiles.proofs.tail.Goals as goal

pub returns : goal.returns
unfolding tail_mask copies
returns c = refl
