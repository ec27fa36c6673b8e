-- The code's tables are the standard's: antt computes each whole.
-- Assumes nothing.
use mathlib.Core.Path.{◌≡◌, refl, sym, ap, ap₂, ◌∙◌}
use mathlib.Core.Bool.{Bool, false, ◌&&◌}
use mathlib.Core.List.{List, [], ◌∷◌, map}
use Prim.Native.Nat.{ℕ, ◌+◌, ◌<◌}
use borrow.Author.Tests.{lt-ltb, eq-eqb, ne_eqb}
use lib.Dec.{eqb}
use lib.ListN.{get_or}
use Rattle.std.proofs.lemmas.List.{get_or-map}
use Rattle.laws.specs.Lists.{list_from, list_of}
use Rattle.laws.proofs.Lists.{list_of-at}
use Rattle.spec_en300401.specs.Puncturing.{keeps, rank, vector}
use Rattle.spec_en300401.specs.Uep.{Row, uep_table, is_for, no_row}
use Rattle.fec_profiles.specs.declared.TheConstants.{P_CODES, UEP_PROFILES}
use Rattle.fec_profiles.specs.declared.UepProfile.{UepProfile}
use Rattle.fec_profiles.specs.Rows.{bits, vector_at, index, region_at, profile_row}

-- the 24 vectors
pub vectors : P_CODES ≡ list_of 24 (λ (k : ℕ). bits (vector (k + 1)))
unfolding list_from vector keeps rank
vectors = refl

pub vector_is : (d : List ℕ) (pi : ℕ) → pi < 24 → get_or P_CODES pi d ≡ bits (vector_at pi)
unfolding vector_at
vector_is d pi h =
    rw (lt-ltb pi 24 h) (ap (λ (xs : List (List ℕ)). get_or xs pi d) vectors ∙ list_of-at 24 (λ (k : ℕ). bits (vector (k + 1))) d pi h)

-- the 64 rows
abbrev pub numbers : Row → List ℕ
numbers p =
    p.rate ∷ p.level ∷ (region_at p.regions 0).blocks ∷ (region_at p.regions 1).blocks ∷ (region_at p.regions 2).blocks ∷ (region_at p.regions 3).blocks
    ∷ index (region_at p.regions 0) ∷ index (region_at p.regions 1) ∷ index (region_at p.regions 2) ∷ index (region_at p.regions 3) ∷ []

pub rows : UEP_PROFILES ≡ map numbers uep_table
unfolding index uep_table
rows = refl

pub row_is : (d : List ℕ) (k : ℕ) → k < 64 → get_or UEP_PROFILES k d ≡ numbers (get_or uep_table k no_row)
unfolding uep_table
row_is d k h = ap (λ (xs : List (List ℕ)). get_or xs k d) rows ∙ get_or-map numbers uep_table k no_row d h

-- the scan's two tests of a row, as the code makes them
module _ (k l : ℕ) (p : Row) (r : UepProfile) (e : r ≡ profile_row p) where
  pub other_rate : (r.bitrate ≡ k → ⊥) → is_for k l p ≡ false
  unfolding is_for profile_row
  other_rate n = ap (λ (b : Bool). b && eqb p.level l) (ne_eqb p.rate k (λ q. n (ap (λ (x : UepProfile). x.bitrate) e ∙ q)))

  -- the same bit rate: the test of the level decides
  pub by_level : (b : Bool) → r.bitrate ≡ k → eqb r.level l ≡ b → is_for k l p ≡ b
  unfolding is_for profile_row
  by_level b q n = sym (ap (λ (x : UepProfile). eqb x.bitrate k && eqb x.level l) e) ∙ ap₂ (λ (a c : Bool). a && c) (eq-eqb r.bitrate k q) n
