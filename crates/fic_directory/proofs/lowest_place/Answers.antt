use Rattle.std.proofs.Common.{◌*◌, true, false, get_or, rules}
use Rattle.std.proofs.lemmas.Iterator.{first_from_Range}
use Rattle.fic_directory_places.proofs.Looked.{from_zero}
use Rattle.fic_directory.proofs.lowest_place.Goals as goal

pub returns : goal.returns
returns g c =
    record {
      found =
          from_zero _ _ _ c.find.result
          (first_from_Range _ _ _ c.find.result (λ p. goal.F-post g c.args.test (get_or c.args.services.now (4 * p) 0) true) (λ p. goal.F-post g c.args.test (get_or c.args.services.now (4 * p) 0) false) c.find.ensures.ran
          (λ x q k. search rules) (λ x q k. (search rules, search rules)));
    }
