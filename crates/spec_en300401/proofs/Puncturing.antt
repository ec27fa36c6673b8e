-- Laws of puncturing: sizes, what is kept, there and back.
-- Assumes nothing.
use mathlib.Core.Path.{◌≡◌, refl, ap, ◌∙◌}
use mathlib.Core.Bool.{Bool, true, false}
use mathlib.Core.List.{List, [], ◌∷◌, ◌++◌}
use Prim.Native.Nat.{ℕ, zero, suc, ◌+◌, ◌*◌, ◌%◌, ◌<◌, ◌≤◌}
use native.Mathlib.Omega.{arith}
use native.Mathlib.Nat.{mul_assoc, mul_comm, zero-mul, mul-le-mul_left, not-suc-le-zero, le_of_suc-le-suc}
use lib.Dec.{T, eqb, eqb→eq, ltb, leb, ltb→lt, leb→le, lit<, lit≤}
use lib.ListN.{length, get_or, drop, length-append}
use lib.Seq.{drop-nil}
use lib.IntN.{ℤ, pos}
use borrow.Author.Tests.{lt-ltb}
use Rattle.laws.specs.Lists.{list_from, list_of, copies, count}
use Rattle.laws.specs.Integers.{at, pick_z}
use Rattle.laws.proofs.Lists.{length-list_of, length-copies, count-append, count-copies}
use Rattle.laws.proofs.Tables.{rule_at}
use Rattle.spec_en300401.specs.Puncturing.{rank, keeps, vector, Region, no_region, region_mask, tail_mask, mask, kept_size, puncture, depuncture, fic_profile}
use Rattle.spec_en300401.specs.Theorems.{ThereAndBack}

pub length-vector : (pi : ℕ) → length (vector pi) ≡ 32
unfolding vector
length-vector pi = length-list_of 32 (keeps pi)

-- one test of the 25 vectors 0 to 24
counts : ℕ → ℕ → Bool
counts k x = eqb (count (vector k)) (8 + k)

-- vector PI keeps 8 + PI of 32
pub count-vector : (pi : ℕ) → pi ≤ 24 → count (vector pi) ≡ 8 + pi
unfolding counts vector keeps rank count list_from
count-vector pi h = eqb→eq (count (vector pi)) (8 + pi) (rule_at counts 0 (list_of 25 (λ (k : ℕ). k)) tt pi (omega arith))

pub length-region : (r : Region) → length (region_mask r) ≡ 128 * r.blocks
unfolding region_mask
length-region r = length-copies (r.blocks * 4) (vector r.pi) ∙ ap (λ (m : ℕ). r.blocks * 4 * m) (length-vector r.pi) ∙ omega arith

pub count-region : (r : Region) → r.pi ≤ 24 → count (region_mask r) ≡ 4 * (r.blocks * (8 + r.pi))
unfolding region_mask
count-region r h =
    count-copies (r.blocks * 4) (vector r.pi) ∙ ap (λ (m : ℕ). r.blocks * 4 * m) (count-vector r.pi h)
    ∙ ap (λ (m : ℕ). m * (8 + r.pi)) (mul_comm r.blocks 4) ∙ mul_assoc 4 r.blocks (8 + r.pi)

pub length_tail : length tail_mask ≡ 24
unfolding tail_mask copies
length_tail = refl

pub count_tail : count tail_mask ≡ 12
unfolding tail_mask copies count
count_tail = refl

-- the blocks of some regions, and the bits that they send
unfoldable pub blocks_in : List Region → ℕ
blocks_in [] = 0
blocks_in (r ∷ rs) = r.blocks + blocks_in rs

unfoldable pub sent_in : List Region → ℕ
sent_in [] = 0
sent_in (r ∷ rs) = 4 * (r.blocks * (8 + r.pi)) + sent_in rs

-- each region has one of the vectors, or PI 0, which keeps the first places alone
pub data InTable : List Region → Type 0 where
  none_left : InTable []
  one_more : {r : Region} {rs : List Region} → r.pi ≤ 24 → InTable rs → InTable (r ∷ rs)

-- a region that is short, and empty or under one of the 24 vectors
pub record OkRegion (r : Region) : Type 0 where
  pub short : r.blocks < 65536
  pub top : r.pi ≤ 24
  pub named : 0 < r.blocks → 0 < r.pi

-- what every profile of both kinds is: at most four such regions
pub record Usable (rs : List Region) : Type 0 where
  pub few : length rs ≤ 4
  pub each : (i : ℕ) → OkRegion (get_or rs i no_region)

-- two short regions under two of the vectors
pub usable_two : (a b : Region) → a.blocks < 65536 → b.blocks < 65536 → T (ltb 0 a.pi) → T (leb a.pi 24) → T (ltb 0 b.pi) → T (leb b.pi 24) → Usable (a ∷ b ∷ [])
usable_two a b ha hb pa qa pb qb = record { few = lit≤ tt; each = go }
  where
    go : (i : ℕ) → OkRegion (get_or (a ∷ b ∷ []) i no_region)
    go zero = record { short = ha; top = leb→le a.pi 24 qa; named = λ l. ltb→lt 0 a.pi pa }
    go (suc zero) = record { short = hb; top = leb→le b.pi 24 qb; named = λ l. ltb→lt 0 b.pi pb }
    go (suc (suc i)) = record { short = lit< tt; top = lit≤ tt; named = λ l. l }

pub in_table : (rs : List Region) → ((i : ℕ) → OkRegion (get_or rs i no_region)) → InTable rs
in_table [] h = none_left
in_table (r ∷ rs) h = one_more (h 0).top (in_table rs (λ i. h (suc i)))

-- the mother code word is 128 bits for each block, and the tail
pub length-mask : (rs : List Region) → length (mask rs) ≡ 128 * blocks_in rs + 24
unfolding mask blocks_in
length-mask [] = length_tail
length-mask (r ∷ rs) = length-append (region_mask r) (mask rs) ∙ omega (arith, length-region r, length-mask rs)

-- what is sent of it: 4 (8 + PI) bits for each block, and 12 of the tail
pub kept-size : {rs : List Region} → InTable rs → kept_size rs ≡ sent_in rs + 12
unfolding kept_size mask sent_in
kept-size none_left = count_tail
kept-size (one_more {r} {rs} h t) = count-append (region_mask r) (mask rs) ∙ omega (arith, count-region r h, kept-size t)

-- and no region sends less than 36 bits of a block
pub sent_least : (rs : List Region) → ((i : ℕ) → OkRegion (get_or rs i no_region)) → 36 * blocks_in rs ≤ sent_in rs
unfolding blocks_in sent_in
sent_least [] h = omega arith
sent_least (r ∷ rs) h = omega (arith, one r.blocks r.pi (h 0).named, sent_least rs (λ i. h (suc i)))
  where
    one : (b p : ℕ) → (0 < b → 0 < p) → b * 9 ≤ b * (8 + p)
    one zero p n = rw (zero-mul, zero-mul) (omega arith)
    one (suc b) p n = let q : 9 ≤ 8 + p = omega (arith, n (omega arith)) in mul-le-mul_left (suc b) q

-- so the sizes are multiples of 4
pub kept_fours : {rs : List Region} → InTable rs → kept_size rs % 4 ≡ 0
unfolding sent_in
kept_fours {rs} t = let e : kept_size rs ≡ sent_in rs + 12 = kept-size t in omega (arith, fours rs)
  where
    fours : (rs : List Region) → sent_in rs % 4 ≡ 0
    fours [] = refl
    fours (r ∷ rs) = omega (arith, fours rs)

-- depuncturing in two parts: the second goes on in the values where the first ended
pub depuncture-append : (ks ls : List Bool) (vs : List ℤ) → depuncture (ks ++ ls) vs ≡ depuncture ks vs ++ depuncture ls (drop (count ks) vs)
unfolding depuncture count
depuncture-append [] ls vs = refl
depuncture-append (true ∷ ks) ls [] = ap (λ (r : List ℤ). pos 0 ∷ r) (depuncture-append ks ls [] ∙ ap (λ (w : List ℤ). depuncture ks [] ++ depuncture ls w) (drop-nil (count ks)))
depuncture-append (true ∷ ks) ls (v ∷ vs) = ap (λ (r : List ℤ). v ∷ r) (depuncture-append ks ls vs)
depuncture-append (false ∷ ks) ls vs = ap (λ (r : List ℤ). pos 0 ∷ r) (depuncture-append ks ls vs)

pub length-depuncture : (ks : List Bool) (vs : List ℤ) → length (depuncture ks vs) ≡ length ks
unfolding depuncture
length-depuncture [] vs = refl
length-depuncture (true ∷ ks) [] = ap suc (length-depuncture ks [])
length-depuncture (true ∷ ks) (v ∷ vs) = ap suc (length-depuncture ks vs)
length-depuncture (false ∷ ks) vs = ap suc (length-depuncture ks vs)

-- one place
pub depuncture-one : (k : Bool) (vs : List ℤ) → depuncture (k ∷ []) vs ≡ pick_z k (at vs 0) (pos 0) ∷ []
unfolding depuncture
depuncture-one true [] = refl
depuncture-one true (v ∷ vs) = refl
depuncture-one false vs = refl

pub length-puncture : {A : Type 0} (ks : List Bool) (xs : List A) → length ks ≡ length xs → length (puncture ks xs) ≡ count ks
unfolding puncture count
length-puncture [] xs e = refl
length-puncture (k ∷ ks) [] e = absurd (omega arith)
length-puncture (true ∷ ks) (x ∷ xs) e = ap suc (length-puncture ks xs (omega arith))
length-puncture (false ∷ ks) (x ∷ xs) e = length-puncture ks xs (omega arith)

-- what was sent, with any surplus after it, comes back: each kept place has its value, and 0 stands elsewhere
pub there_and_back : ThereAndBack
unfolding depuncture puncture
there_and_back [] xs ys e i h = absurd (not-suc-le-zero h)
there_and_back (k ∷ ks) [] ys e i h = absurd (omega arith)
there_and_back (true ∷ ks) (x ∷ xs) ys e zero h = refl
there_and_back (true ∷ ks) (x ∷ xs) ys e (suc i) h = there_and_back ks xs ys (omega arith) i (le_of_suc-le-suc h)
there_and_back (false ∷ ks) (x ∷ xs) ys e zero h = refl
there_and_back (false ∷ ks) (x ∷ xs) ys e (suc i) h = there_and_back ks xs ys (omega arith) i (le_of_suc-le-suc h)

-- whole groups of four, the first place of each kept
pub data Firsts : List Bool → Type 0 where
  no_more : Firsts []
  group : {a b c : Bool} {ks : List Bool} → Firsts ks → Firsts (true ∷ a ∷ b ∷ c ∷ ks)

pub firsts-append : {ks ls : List Bool} → Firsts ks → Firsts ls → Firsts (ks ++ ls)
firsts-append no_more g = g
firsts-append (group f) g = group (firsts-append f g)

pub firsts-copies : (n : ℕ) {ks : List Bool} → Firsts ks → Firsts (copies n ks)
unfolding copies
firsts-copies zero f = no_more
firsts-copies (suc n) f = firsts-append f (firsts-copies n f)

-- every vector and the tail keep the first place of each group of four
pub firsts-vector : (pi : ℕ) → Firsts (vector pi)
unfolding vector keeps rank list_from
firsts-vector pi =
    rw (lt-ltb 0 (8 + pi) (omega arith), lt-ltb 4 (8 + pi) (omega arith), lt-ltb 2 (8 + pi) (omega arith), lt-ltb 6 (8 + pi) (omega arith), lt-ltb 1 (8 + pi) (omega arith), lt-ltb 5 (8 + pi) (omega arith), lt-ltb 3 (8 + pi) (omega arith), lt-ltb 7 (8 + pi) (omega arith))
    (group (group (group (group (group (group (group (group no_more))))))))

pub firsts_tail : Firsts tail_mask
unfolding tail_mask copies
firsts_tail = group (group (group (group (group (group no_more)))))

pub firsts-mask : (rs : List Region) → Firsts (mask rs)
unfolding mask region_mask
firsts-mask [] = firsts_tail
firsts-mask (r ∷ rs) = firsts-append (firsts-copies (r.blocks * 4) (firsts-vector r.pi)) (firsts-mask rs)

-- so the first of every four places is kept
pub first-kept : {ks : List Bool} → Firsts ks → (g : ℕ) → 4 * g < length ks → get_or ks (4 * g) false ≡ true
first-kept no_more g h = absurd (not-suc-le-zero h)
first-kept (group f) zero h = refl
first-kept (group {a} {b} {c} {ks} f) (suc g) h =
    let e : 4 * suc g ≡ suc (suc (suc (suc (4 * g)))) = omega arith in
    ap (λ (i : ℕ). get_or (true ∷ a ∷ b ∷ c ∷ ks) i false) e ∙ first-kept f g (omega arith)

-- the FIC's block: 3,096 places, 2,304 kept
pub fic-length : length (mask fic_profile) ≡ 3096
unfolding blocks_in
fic-length = length-mask fic_profile

pub fic-kept : kept_size fic_profile ≡ 2304
unfolding sent_in
fic-kept = kept-size (one_more (omega arith) (one_more (omega arith) none_left))

pub fic_usable : Usable fic_profile
fic_usable = usable_two _ _ (lit< tt) (lit< tt) tt tt tt tt
