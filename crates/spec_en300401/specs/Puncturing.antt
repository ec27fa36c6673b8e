-- Clause 11.1.2, puncturing: which bits of the mother code word are sent.
use Rattle.std.specs.Prelude.{Bool, true, false, List, [], ◌∷◌, ◌++◌, ℕ, ◌+◌, ◌*◌, ◌/◌, ◌%◌, ltb, get_or, ℤ, pos}
use Rattle.laws.specs.Lists.{list_of, copies, count}

-- when a group of four gains its next place: the groups' order 0, 4, 2, 6, 1, 5, 3, 7, which is its own inverse
abbrev pub turn : ℕ → ℕ
turn g = get_or (0 ∷ 4 ∷ 2 ∷ 6 ∷ 1 ∷ 5 ∷ 3 ∷ 7 ∷ []) g 0

-- the places of a sub-block of 32 in the order in which they are kept: all first places of the groups, then second, third and fourth places
unfoldable pub rank : ℕ → ℕ
rank j = 8 * (j % 4) + turn (j / 4)

-- vector PI, 1 to 24, keeps 8 + PI of the 32 places
unfoldable pub keeps : ℕ → ℕ → Bool
keeps pi j = ltb (rank j) (8 + pi)

-- a vector's 32 places
unfoldable pub vector : ℕ → List Bool
vector pi = list_of 32 (keeps pi)

-- a region of the code word: blocks of 128, each four sub-blocks of 32, under one vector
pub record Region : Type 0 where
  pub blocks : ℕ
  pub pi : ℕ

-- no region: no blocks, and no vector
abbrev pub no_region : Region
no_region = record { blocks = 0; pi = 0 }

unfoldable pub region_mask : Region → List Bool
region_mask r = copies (r.blocks * 4) (vector r.pi)

-- the tail's 24 places: 1100 six times over
unfoldable pub tail_mask : List Bool
tail_mask = copies 6 (true ∷ true ∷ false ∷ false ∷ [])

-- a protection profile is its regions; its mask has a flag for each bit of the mother code word
unfoldable pub mask : List Region → List Bool
mask [] = tail_mask
mask (r ∷ rs) = region_mask r ++ mask rs

-- how many bits are sent
unfoldable pub kept_size : List Region → ℕ
kept_size rs = count (mask rs)

-- what the sender does: the places that are kept, in order
module _ {ℓ} {A : Type ℓ} where
  unfoldable pub puncture : List Bool → List A → List A
  puncture [] xs = []
  puncture (k ∷ ks) [] = []
  puncture (true ∷ ks) (x ∷ xs) = x ∷ puncture ks xs
  puncture (false ∷ ks) (x ∷ xs) = puncture ks xs

-- what the receiver does: each value received goes to the next kept place; 0 where nothing was sent or the input is short; surplus is unread
unfoldable pub depuncture : List Bool → List ℤ → List ℤ
depuncture [] vs = []
depuncture (true ∷ ks) [] = pos 0 ∷ depuncture ks []
depuncture (true ∷ ks) (v ∷ vs) = v ∷ depuncture ks vs
depuncture (false ∷ ks) vs = pos 0 ∷ depuncture ks vs

-- Clause 11.2, the FIC in mode I: 21 blocks of PI 16, 3 of PI 15
abbrev pub fic_profile : List Region
fic_profile = record { blocks = 21; pi = 16 } ∷ record { blocks = 3; pi = 15 } ∷ []
