use Rattle.std.proofs.Common.{rules}
use Rattle.fic_directory_places.proofs.Looked.{audio_heard}
use Rattle.fic_directory_places.proofs.audio_sub_channel.Goals as goal

pub returns : goal.returns
returns c = audio_heard _ _ _ c.get.result _ c.in_ok-places_in.ensures.long.0 c.in_ok-places_in.ensures.long.1 c.get.ensures.lookup (search rules)
