use Rattle.std.proofs.Common.{rules}
use Rattle.fic_directory_places.proofs.Looked.{service_found}
use Rattle.fic_directory_places.proofs.service.Goals as goal

pub returns : goal.returns
returns c = service_found _ _ _ c.get.result _ c.in_ok-places_in.ensures.long.0 c.in_ok-places_in.ensures.long.1 c.get.ensures.lookup (search rules)
