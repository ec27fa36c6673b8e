-- Clause 11.3.1, unequal error protection: the table of the 64 profiles, in the order of clause 6.2.1's short-form table.
use Rattle.std.specs.Prelude.{Bool, ◌&&◌, List, [], ◌∷◌, ℕ, eqb}
use Rattle.std.proofs.Math.Option.{Option, none, some}
use Rattle.laws.specs.Lists.{find}
use Rattle.spec_en300401.specs.Puncturing.{Region}

-- a row: kbit/s, level, size in units, four regions, padding bits; an empty region has 0 blocks and no vector, written 0
pub record Row : Type 0 where
  pub rate : ℕ
  pub level : ℕ
  pub units : ℕ
  pub regions : List Region
  pub pad : ℕ

abbrev r : ℕ → ℕ → Region
r l p = record { blocks = l; pi = p }

abbrev row : ℕ → ℕ → ℕ → List Region → ℕ → Row
row k l u rs p = record { rate = k; level = l; units = u; regions = rs; pad = p }

-- no row: of no bit rate
abbrev pub no_row : Row
no_row = record { rate = 0; level = 0; units = 0; regions = []; pad = 0 }

unfoldable pub uep_table : List Row
uep_table =
    row 32 5 16 (r 3 5 ∷ r 4 3 ∷ r 17 2 ∷ r 0 0 ∷ []) 0
    ∷ row 32 4 21 (r 3 11 ∷ r 3 6 ∷ r 18 5 ∷ r 0 0 ∷ []) 0
    ∷ row 32 3 24 (r 3 15 ∷ r 4 9 ∷ r 14 6 ∷ r 3 8 ∷ []) 0
    ∷ row 32 2 29 (r 3 22 ∷ r 4 13 ∷ r 14 8 ∷ r 3 13 ∷ []) 0
    ∷ row 32 1 35 (r 3 24 ∷ r 5 17 ∷ r 13 12 ∷ r 3 17 ∷ []) 4
    ∷ row 48 5 24 (r 4 5 ∷ r 3 4 ∷ r 26 2 ∷ r 3 3 ∷ []) 0
    ∷ row 48 4 29 (r 3 9 ∷ r 4 6 ∷ r 26 4 ∷ r 3 6 ∷ []) 0
    ∷ row 48 3 35 (r 3 15 ∷ r 4 10 ∷ r 26 6 ∷ r 3 9 ∷ []) 4
    ∷ row 48 2 42 (r 3 24 ∷ r 4 14 ∷ r 26 8 ∷ r 3 15 ∷ []) 0
    ∷ row 48 1 52 (r 3 24 ∷ r 5 18 ∷ r 25 13 ∷ r 3 18 ∷ []) 0
    ∷ row 56 5 29 (r 6 5 ∷ r 10 4 ∷ r 23 2 ∷ r 3 3 ∷ []) 0
    ∷ row 56 4 35 (r 6 9 ∷ r 10 6 ∷ r 23 4 ∷ r 3 5 ∷ []) 0
    ∷ row 56 3 42 (r 6 16 ∷ r 12 7 ∷ r 21 6 ∷ r 3 9 ∷ []) 0
    ∷ row 56 2 52 (r 6 23 ∷ r 10 13 ∷ r 23 8 ∷ r 3 13 ∷ []) 8
    ∷ row 64 5 32 (r 6 5 ∷ r 9 3 ∷ r 31 2 ∷ r 2 3 ∷ []) 0
    ∷ row 64 4 42 (r 6 11 ∷ r 9 6 ∷ r 33 5 ∷ r 0 0 ∷ []) 0
    ∷ row 64 3 48 (r 6 16 ∷ r 12 8 ∷ r 27 6 ∷ r 3 9 ∷ []) 0
    ∷ row 64 2 58 (r 6 23 ∷ r 10 13 ∷ r 29 8 ∷ r 3 13 ∷ []) 8
    ∷ row 64 1 70 (r 6 24 ∷ r 11 18 ∷ r 28 12 ∷ r 3 18 ∷ []) 4
    ∷ row 80 5 40 (r 6 6 ∷ r 10 3 ∷ r 41 2 ∷ r 3 3 ∷ []) 0
    ∷ row 80 4 52 (r 6 11 ∷ r 10 6 ∷ r 41 5 ∷ r 3 6 ∷ []) 0
    ∷ row 80 3 58 (r 6 16 ∷ r 11 8 ∷ r 40 6 ∷ r 3 7 ∷ []) 0
    ∷ row 80 2 70 (r 6 23 ∷ r 10 13 ∷ r 41 8 ∷ r 3 13 ∷ []) 8
    ∷ row 80 1 84 (r 6 24 ∷ r 10 17 ∷ r 41 12 ∷ r 3 18 ∷ []) 4
    ∷ row 96 5 48 (r 7 5 ∷ r 9 4 ∷ r 53 2 ∷ r 3 4 ∷ []) 0
    ∷ row 96 4 58 (r 7 9 ∷ r 10 6 ∷ r 52 4 ∷ r 3 6 ∷ []) 0
    ∷ row 96 3 70 (r 6 16 ∷ r 12 9 ∷ r 51 6 ∷ r 3 10 ∷ []) 4
    ∷ row 96 2 84 (r 6 22 ∷ r 10 12 ∷ r 53 9 ∷ r 3 12 ∷ []) 0
    ∷ row 96 1 104 (r 6 24 ∷ r 13 18 ∷ r 50 13 ∷ r 3 19 ∷ []) 0
    ∷ row 112 5 58 (r 14 5 ∷ r 17 4 ∷ r 50 2 ∷ r 3 5 ∷ []) 0
    ∷ row 112 4 70 (r 11 9 ∷ r 21 6 ∷ r 49 4 ∷ r 3 8 ∷ []) 0
    ∷ row 112 3 84 (r 11 16 ∷ r 23 8 ∷ r 47 6 ∷ r 3 9 ∷ []) 0
    ∷ row 112 2 104 (r 11 23 ∷ r 21 12 ∷ r 49 9 ∷ r 3 14 ∷ []) 4
    ∷ row 128 5 64 (r 12 5 ∷ r 19 3 ∷ r 62 2 ∷ r 3 4 ∷ []) 0
    ∷ row 128 4 84 (r 11 11 ∷ r 21 6 ∷ r 61 5 ∷ r 3 7 ∷ []) 0
    ∷ row 128 3 96 (r 11 16 ∷ r 22 9 ∷ r 60 6 ∷ r 3 10 ∷ []) 4
    ∷ row 128 2 116 (r 11 22 ∷ r 21 12 ∷ r 61 9 ∷ r 3 14 ∷ []) 0
    ∷ row 128 1 140 (r 11 24 ∷ r 20 17 ∷ r 62 13 ∷ r 3 19 ∷ []) 8
    ∷ row 160 5 80 (r 11 5 ∷ r 19 4 ∷ r 87 2 ∷ r 3 4 ∷ []) 0
    ∷ row 160 4 104 (r 11 11 ∷ r 23 6 ∷ r 83 5 ∷ r 3 9 ∷ []) 0
    ∷ row 160 3 116 (r 11 16 ∷ r 24 8 ∷ r 82 6 ∷ r 3 11 ∷ []) 0
    ∷ row 160 2 140 (r 11 22 ∷ r 21 11 ∷ r 85 9 ∷ r 3 13 ∷ []) 0
    ∷ row 160 1 168 (r 11 24 ∷ r 22 18 ∷ r 84 12 ∷ r 3 19 ∷ []) 0
    ∷ row 192 5 96 (r 11 6 ∷ r 20 4 ∷ r 110 2 ∷ r 3 5 ∷ []) 0
    ∷ row 192 4 116 (r 11 10 ∷ r 22 6 ∷ r 108 4 ∷ r 3 9 ∷ []) 0
    ∷ row 192 3 140 (r 11 16 ∷ r 24 10 ∷ r 106 6 ∷ r 3 11 ∷ []) 0
    ∷ row 192 2 168 (r 11 22 ∷ r 20 13 ∷ r 110 9 ∷ r 3 13 ∷ []) 8
    ∷ row 192 1 208 (r 11 24 ∷ r 21 20 ∷ r 109 13 ∷ r 3 24 ∷ []) 0
    ∷ row 224 5 116 (r 12 8 ∷ r 22 6 ∷ r 131 2 ∷ r 3 6 ∷ []) 4
    ∷ row 224 4 140 (r 12 12 ∷ r 26 8 ∷ r 127 4 ∷ r 3 11 ∷ []) 0
    ∷ row 224 3 168 (r 11 16 ∷ r 20 10 ∷ r 134 7 ∷ r 3 9 ∷ []) 0
    ∷ row 224 2 208 (r 11 24 ∷ r 22 16 ∷ r 132 10 ∷ r 3 15 ∷ []) 0
    ∷ row 224 1 232 (r 11 24 ∷ r 24 20 ∷ r 130 12 ∷ r 3 20 ∷ []) 4
    ∷ row 256 5 128 (r 11 6 ∷ r 24 5 ∷ r 154 2 ∷ r 3 5 ∷ []) 0
    ∷ row 256 4 168 (r 11 12 ∷ r 24 9 ∷ r 154 5 ∷ r 3 10 ∷ []) 4
    ∷ row 256 3 192 (r 11 16 ∷ r 27 10 ∷ r 151 7 ∷ r 3 10 ∷ []) 0
    ∷ row 256 2 232 (r 11 24 ∷ r 22 14 ∷ r 156 10 ∷ r 3 13 ∷ []) 8
    ∷ row 256 1 280 (r 11 24 ∷ r 26 19 ∷ r 152 14 ∷ r 3 18 ∷ []) 4
    ∷ row 320 5 160 (r 11 8 ∷ r 26 5 ∷ r 200 2 ∷ r 3 6 ∷ []) 4
    ∷ row 320 4 208 (r 11 13 ∷ r 25 9 ∷ r 201 5 ∷ r 3 10 ∷ []) 8
    ∷ row 320 2 280 (r 11 24 ∷ r 26 17 ∷ r 200 9 ∷ r 3 17 ∷ []) 0
    ∷ row 384 5 192 (r 11 8 ∷ r 27 6 ∷ r 247 2 ∷ r 3 7 ∷ []) 0
    ∷ row 384 3 280 (r 11 16 ∷ r 24 9 ∷ r 250 7 ∷ r 3 10 ∷ []) 4
    ∷ row 384 1 416 (r 12 24 ∷ r 28 20 ∷ r 245 14 ∷ r 3 23 ∷ []) 8
    ∷ []

-- a row is for this bit rate and level
unfoldable pub is_for : ℕ → ℕ → Row → Bool
is_for k l p = eqb p.rate k && eqb p.level l

-- the row for a bit rate and level, if the table has one
unfoldable pub uep_row : ℕ → ℕ → Option Row
uep_row k l = find (is_for k l) uep_table

-- the regions of a row, and none of no row
abbrev pub regions_of : Option Row → List Region
regions_of none = []
regions_of (some p) = p.regions

-- the four regions for a bit rate and level
unfoldable pub uep_profile : ℕ → ℕ → List Region
uep_profile k l = regions_of (uep_row k l)
