-- Laws of the UEP table, each by one test over the whole table.
-- Assumes nothing.
use mathlib.Core.Path.{◌≡◌, refl, ◌∙◌}
use mathlib.Core.Bool.{Bool, true, false, cond, ◌&&◌, ◌||◌}
use mathlib.Core.List.{List, [], ◌∷◌}
use mathlib.Core.Option.{some}
use Prim.Native.Nat.{ℕ, zero, suc, ◌+◌, ◌*◌, ◌<◌, ◌≤◌}
use native.Mathlib.Omega.{arith}
use lib.Dec.{T, eqb, leb, ltb, eqb→eq, leb→le, ltb→lt}
use lib.ListN.{length, get_or}
use borrow.Author.Tests.{eqb-true}
use Rattle.laws.specs.Tables.{every}
use Rattle.laws.proofs.Lists.{found_passes, found_every}
use Rattle.laws.proofs.Tables.{both_left, both_right, rule_at}
use Rattle.spec_en300401.specs.Puncturing.{Region, no_region, mask, kept_size}
use Rattle.spec_en300401.specs.Uep.{Row, no_row, uep_table, is_for, uep_row}
use Rattle.spec_en300401.specs.Theorems.{RowFills}
use Rattle.spec_en300401.proofs.Puncturing.{OkRegion, Usable, blocks_in, sent_in, in_table, length-mask, kept-size}

-- the tests of a region and of a row
is_short : Region → Bool
is_short r = ltb r.blocks 65536

has_top : Region → Bool
has_top r = leb r.pi 24

is_named : Region → Bool
is_named r = ltb 0 r.pi || eqb r.blocks 0

has_four : Row → Bool
has_four p = eqb (length p.regions) 4

has_blocks : Row → Bool
has_blocks p = eqb (4 * blocks_in p.regions) (3 * p.rate)

is_filled : Row → Bool
is_filled p = eqb (sent_in p.regions + 12 + p.pad) (64 * p.units)

has_pad : Row → Bool
has_pad p = leb p.pad 8

-- a region's test at each region of a row
at_regions : (Region → Bool) → Row → Bool
at_regions g p = every (λ (i : ℕ). g) 0 p.regions

all-four : T (every (λ (i : ℕ). has_four) 0 uep_table)
unfolding uep_table has_four
all-four = tt

all_blocks : T (every (λ (i : ℕ). has_blocks) 0 uep_table)
unfolding uep_table has_blocks blocks_in
all_blocks = tt

all_filled : T (every (λ (i : ℕ). is_filled) 0 uep_table)
unfolding uep_table is_filled sent_in
all_filled = tt

all-pad : T (every (λ (i : ℕ). has_pad) 0 uep_table)
unfolding uep_table has_pad
all-pad = tt

all_short : T (every (λ (i : ℕ). at_regions is_short) 0 uep_table)
unfolding uep_table at_regions is_short
all_short = tt

all_top : T (every (λ (i : ℕ). at_regions has_top) 0 uep_table)
unfolding uep_table at_regions has_top
all_top = tt

all_named : T (every (λ (i : ℕ). at_regions is_named) 0 uep_table)
unfolding uep_table at_regions is_named
all_named = tt

-- a test that every region passes, and no region too
at_each : (g : Region → Bool) → T (g no_region) → (rs : List Region) (i : ℕ) → T (every (λ (k : ℕ). g) i rs) → (k : ℕ) → T (g (get_or rs k no_region))
at_each g n [] i t k = n
at_each g n (r ∷ rs) i t zero = both_left (g r) (every (λ (k : ℕ). g) (suc i) rs) t
at_each g n (r ∷ rs) i t (suc k) = at_each g n rs (suc i) (both_right (g r) (every (λ (k : ℕ). g) (suc i) rs) t) k

named_by : (r : Region) → T (is_named r) → 0 < r.blocks → 0 < r.pi
unfolding is_named
named_by r t l = go (ltb 0 r.pi) (ltb→lt 0 r.pi) t
  where
    go : (b : Bool) → (T b → 0 < r.pi) → T (b || eqb r.blocks 0) → 0 < r.pi
    go true f w = f tt
    go false f w = absurd (omega (arith, eqb→eq r.blocks 0 w))

-- a row of the table: four regions, 3/4 of the bit rate in blocks, and its kept bits fill its units but for at most 8
pub record RowLaw (p : Row) : Type 0 where
  pub four : length p.regions ≡ 4
  pub each : (i : ℕ) → OkRegion (get_or p.regions i no_region)
  pub blocks : 4 * blocks_in p.regions ≡ 3 * p.rate
  pub fills : kept_size p.regions + p.pad ≡ 64 * p.units
  pub padding : p.pad ≤ 8

both_true : (a b : Bool) → a && b ≡ true → (a ≡ true) × (b ≡ true)
both_true true b e = (refl, e)
both_true false b e = absurd (let z : ◌≡◌ {A = ℕ} 0 1 = cc in omega arith)

-- the row that a bit rate and level have
module _ (k l : ℕ) {p : Row} (e : uep_row k l ≡ some p) where
  passes : (g : Row → Bool) → T (every (λ (i : ℕ). g) 0 uep_table) → T (g p)
  unfolding uep_row
  passes g t = found_every (is_for k l) (λ (i : ℕ). g) 0 uep_table p (λ j. refl) t e

  each_ok : (i : ℕ) → OkRegion (get_or p.regions i no_region)
  unfolding at_regions is_short has_top is_named
  each_ok i =
      let r : Region = get_or p.regions i no_region in
      record {
        short = ltb→lt r.blocks 65536 (at_each is_short tt p.regions 0 (passes (at_regions is_short) all_short) i);
        top = leb→le r.pi 24 (at_each has_top tt p.regions 0 (passes (at_regions has_top) all_top) i);
        named = named_by r (at_each is_named tt p.regions 0 (passes (at_regions is_named) all_named) i);
      }

  pub uep_law : RowLaw p
  unfolding has_four has_blocks is_filled has_pad
  uep_law =
      record {
        four = eqb→eq (length p.regions) 4 (passes has_four all-four);
        each = each_ok;
        blocks = eqb→eq (4 * blocks_in p.regions) (3 * p.rate) (passes has_blocks all_blocks);
        fills = omega (arith, kept-size (in_table p.regions each_ok), eqb→eq (sent_in p.regions + 12 + p.pad) (64 * p.units) (passes is_filled all_filled));
        padding = leb→le p.pad 8 (passes has_pad all-pad);
      }

  pub uep-rate : p.rate ≡ k
  unfolding uep_row is_for
  uep-rate = eqb-true p.rate k (both_true (eqb p.rate k) (eqb p.level l) (found_passes (is_for k l) uep_table p e)).0

  pub uep-level : p.level ≡ l
  unfolding uep_row is_for
  uep-level = eqb-true p.level l (both_true (eqb p.rate k) (eqb p.level l) (found_passes (is_for k l) uep_table p e)).1

  pub uep_usable : Usable p.regions
  uep_usable = record { few = omega (arith, uep_law.four); each = each_ok }

  -- 96 places of the mother code word for each kbit/s, and the tail
  pub uep-length : length (mask p.regions) ≡ 96 * k + 24
  uep-length = length-mask p.regions ∙ omega (arith, uep_law.blocks, uep-rate)

pub row_fills : RowFills
row_fills k l p e = (uep_law k l e).fills

-- where the first row that passes a test stands
place : (Row → Bool) → List Row → ℕ
place f [] = 0
place f (x ∷ xs) = cond (f x) 0 (suc (place f xs))

own : ℕ → Row → Bool
own i p = eqb (place (is_for p.rate p.level) uep_table) i

owns : T (every own 0 uep_table)
unfolding own place is_for uep_table
owns = tt

-- no two rows have the same bit rate and level
pub rows_differ : (i j : ℕ) → i < length uep_table → j < length uep_table → (get_or uep_table i no_row).rate ≡ (get_or uep_table j no_row).rate → (get_or uep_table i no_row).level ≡ (get_or uep_table j no_row).level → i ≡ j
unfolding own
rows_differ i j hi hj p q =
    let a : place (is_for (get_or uep_table i no_row).rate (get_or uep_table i no_row).level) uep_table ≡ i = eqb→eq _ i (rule_at own no_row uep_table owns i hi) in
    let b : place (is_for (get_or uep_table j no_row).rate (get_or uep_table j no_row).level) uep_table ≡ j = eqb→eq _ j (rule_at own no_row uep_table owns j hj) in
    cc
