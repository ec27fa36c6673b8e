use Rattle.std.proofs.Common.{arith, rules}
use Rattle.std.proofs.lemmas.Grind.{common_steps}
use Rattle.fic_directory_places.specs.Places.{service_at}
use Rattle.fic_directory_places.proofs.Looked.{audio_there}
use Rattle.fic_directory_places.proofs.audio_in.Goals as goal

pub returns-then-head-eq0 : goal.returns-then-head-eq0
unfolding service_at
returns-then-head-eq0 c = grind (arith, common_steps)

pub returns : goal.returns
returns c = audio_there _ _ _ _ c.if-head-eq0.false c.count_in.ensures.count c.first_audio.ensures (search rules)
