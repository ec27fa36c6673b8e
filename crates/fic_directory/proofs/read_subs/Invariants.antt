-- What is left of the entries makes of the numbers what all of them make of those before.
use Rattle.std.proofs.Common.{◌≡◌, ℕ, List, ◌++◌, length}
use Rattle.spec_en300401.specs.Organisation.{sub_channels}
use Rattle.fic_directory_places.specs.Places.{held}
use Rattle.fic_directory.specs.Promises.{entered, put_all}
use Rattle.fic_directory.proofs.read_subs.Given as goal

pub record Inv (body old rest subs : List ℕ) : Type 0 where
  pub puts : (beyond services : List ℕ) (n : ℕ) → put_all (sub_channels body) (entered (held (old ++ beyond) services) n) ≡ put_all (sub_channels rest) (entered (held (subs ++ beyond) services) n)

abbrev pub invariant-loop-rest : goal.invariant-loop-rest
invariant-loop-rest l = Inv l.body l.initial.subs l.rest l.subs

abbrev pub decreases-loop-rest : goal.decreases-loop-rest
decreases-loop-rest l = length l.rest
