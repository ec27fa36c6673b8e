-- The code's test of a place's first number is the standard's of the place.
use Rattle.std.proofs.Common.{◌/◌, ◌%◌, ◌^◌, eqb, rules}
use Rattle.spec_en300401.specs.Directory.{is_free_place}
use Rattle.fic_directory.proofs.Found.{is_free, lowest}
use Rattle.fic_directory.proofs.free_place.Goals as goal

pub returns : goal.returns
returns c = lowest (λ w. eqb (w / 2 ^ 48 % 2) 0) is_free_place c.args.services.now c.lowest_place.result (λ w b a. search rules) (is_free c.args.services.now) c.lowest_place.ensures
