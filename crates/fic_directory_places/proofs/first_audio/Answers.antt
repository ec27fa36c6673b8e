use Rattle.std.proofs.Common.{◌≡◌, true, false, rules}
use Rattle.spec_en300401.specs.Organisation.{primary_audio}
use Rattle.std.proofs.lemmas.Iterator.{first_from_Range}
use Rattle.fic_directory_places.specs.Code.{component_at}
use Rattle.fic_directory_places.proofs.Looked.{from_zero}
use Rattle.fic_directory_places.proofs.first_audio.Goals as goal

pub returns : goal.returns
returns c =
    record {
      found =
          from_zero _ _ _ c.find.result
          (first_from_Range _ _ _ c.find.result (λ k. primary_audio (component_at c.args.numbers.now 0 k) ≡ true) (λ k. primary_audio (component_at c.args.numbers.now 0 k) ≡ false) c.find.ensures.ran
          (λ x q k. search rules) (λ x q k. (search rules, search rules)));
    }
