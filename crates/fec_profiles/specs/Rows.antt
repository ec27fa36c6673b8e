-- Document 01, "eep.rs" and "uep.rs": the standard's tables with `pi` counted from 0.
use Rattle.std.specs.Prelude.{Bool, false, cond, List, [], ◌∷◌, map, ℕ, ◌+◌, ◌-◌, eqb, ltb, get_or, replicate, Option, Some, None}
use Rattle.std.proofs.Math.Option.{«Option» as Perhaps, none, some}
use Rattle.laws.specs.Words.{pick_n}
use Rattle.spec_en300401.specs.Puncturing.{Region, no_region, vector}
use Rattle.spec_en300401.specs.Uep.{Row}
use Rattle.fec_profiles.specs.declared.Section.{Section}
use Rattle.fec_profiles.specs.declared.UepProfile.{UepProfile}

-- flags as the code holds them, 1 and 0
abbrev pub bits : List Bool → List ℕ
bits ks = map (λ (b : Bool). pick_n b 1 0) ks

-- P_CODES[k] is the standard's PI k+1; a number above 23 is none of the 24, and keeps nothing
unfoldable pub vector_at : ℕ → List Bool
vector_at pi = cond (ltb pi 24) (vector (pi + 1)) (replicate 32 false)

-- `pi` counts from 0; an empty region's is none of the 24
unfoldable pub index : Region → ℕ
index r = pick_n (eqb r.blocks 0) 24 (r.pi - 1)

-- region i of a list of regions, without blocks beyond the list's end
abbrev pub region_at : List Region → ℕ → Region
region_at rs i = get_or rs i no_region

abbrev pub section_by : ℕ → ℕ → Section
section_by blocks pi = record { blocks = blocks; pi = pi }

-- a region as the code holds it
abbrev pub section_of : Region → Section
section_of r = section_by r.blocks (index r)

-- four regions
unfoldable pub sections_of : List Region → List Section
sections_of rs = map (λ i. section_of (region_at rs i)) (0 ∷ 1 ∷ 2 ∷ 3 ∷ [])

-- a row of the standard's table as the code holds it
unfoldable pub profile_row : Row → UepProfile
profile_row p = record { bitrate = p.rate; level = p.level; sections = sections_of p.regions }

-- the row for a bit rate and level, where the table has one
abbrev pub found : Perhaps Row → Option UepProfile
found none = None
found (some p) = Some (profile_row p)
