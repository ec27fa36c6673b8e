-- What the private functions of the crate ask and promise: the code's own terms, over the standard's definitions.
use Rattle.std.specs.Prelude.{◌≡◌, Bool, not, List, map, ℕ, ◌+◌, ◌*◌, ◌<◌, ◌≤◌, ◌++◌, eqb, length, drop, ℤ}
use Rattle.laws.specs.Lists.{count}
use Rattle.spec_en300401.specs.Puncturing.{depuncture}
use Rattle.fec_protection.specs.declared.ProtectionParams.{ProtectionParams}
use Rattle.fec_protection.specs.Code.{blocks_by, section_in}

-- a place of a vector is kept where its number is not 0
abbrev pub flag : ℕ → Bool
flag x = not (eqb x 0)

abbrev pub flags : List ℕ → List Bool
flags xs = map flag xs

-- each region that is not empty has a vector, and an output of this length holds them all
pub record Fillable (p : ProtectionParams) (long : ℕ) : Type 0 where
  pub vectors : (i : ℕ) → 0 < (section_in p i).blocks → (section_in p i).pi < 24
  pub fits : 128 * blocks_by p + 24 ≤ long

-- the front holds what is depunctured under ks, and the values that are left go on behind those used
pub record Filled (ks : List Bool) (values before after rest : List ℤ) : Type 0 where
  pub places : after ≡ depuncture ks values ++ drop (length ks) before
  pub left : rest ≡ drop (count ks) values
