-- What is claimed of `process_fic` beside its promise; proved in proofs/.
use Rattle.std.specs.Prelude.{◌≡◌, List, ℤ, Result}
use Rattle.refusal.specs.declared.Refusal.{Refusal}
use Rattle.fic_handler.specs.declared.Fic.{Fic}
use Rattle.fic_handler.specs.Blocks.{Buffers}
use Rattle.fic_handler.specs.Promise.{FicPromise}

-- two results of one call
pub record SameFic (r : Result Fic Refusal) (after : Buffers) (s : Result Fic Refusal) (also : Buffers) : Type 0 where
  pub answer_is : r ≡ s
  pub buffers_are : after ≡ also

-- for every input the promise allows one result (fic_unique)
abbrev pub FicUnique : Type 0
FicUnique = (s1 s2 s3 : List ℤ) (before : Buffers) (r s : Result Fic Refusal) (after also : Buffers) → FicPromise s1 s2 s3 before r after → FicPromise s1 s2 s3 before s also → SameFic r after s also
