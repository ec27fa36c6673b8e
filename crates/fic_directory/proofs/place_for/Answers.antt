-- Its own place, or else the lowest free one.
use Rattle.std.proofs.Common.{rules}
use Rattle.spec_en300401.specs.Directory.{is_service}
use Rattle.fic_directory.specs.Code.{is_key}
use Rattle.fic_directory.proofs.Found.{is-own, lowest, either}
use Rattle.fic_directory.proofs.place_for.Goals as goal

pub returns : goal.returns
returns c =
    either c.lowest_place.result _ c.lowest_place.ensures
    (λ s h e. lowest (is_key c.args.key) (is_service s) c.args.services.now c.lowest_place.result (λ w b a. search rules) (λ i. is-own s c.args.services.now i c.args.key h e) c.lowest_place.ensures)
    (search rules)
