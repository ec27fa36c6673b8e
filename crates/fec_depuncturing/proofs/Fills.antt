-- Filling from the front: none, one place, and one run of places after another.
-- Assumes nothing.
use mathlib.Core.Path.{◌≡◌, refl, sym, ap, ap₂, ◌∙◌, subst}
use mathlib.Core.Bool.{Bool, true, false}
use mathlib.Core.List.{List, [], ◌∷◌, ◌++◌, append_assoc}
use Prim.Native.Nat.{ℕ, ◌+◌, ◌-◌, ◌<◌, ◌≤◌}
use native.Mathlib.Omega.{arith}
use native.Mathlib.Numerals.{add-one}
use borrow.Rule.Slice.PartMut.{put_mid}
use lib.ListN.{length, get_or, take, drop, set, take-append-drop, length-map, length-append, length-drop}
use lib.Seq.{drop-drop, take-suc, length-take-le}
use lib.IntN.{ℤ, pos}
use Rattle.laws.specs.Integers.{at, pick_z}
use Rattle.laws.specs.Lists.{count}
use Rattle.laws.specs.Words.{pick_n}
use Rattle.laws.proofs.Lists.{count-append}
use Rattle.std.proofs.lemmas.List.{take_at, drop_at, take-set, drop-set}
use Rattle.laws.proofs.Slices.{tail_part, tail_put}
use Rattle.spec_en300401.specs.Puncturing.{depuncture}
use Rattle.spec_en300401.proofs.Puncturing.{depuncture-append, length-depuncture, depuncture-one}
use Rattle.fec_profiles.specs.Rows.{bits}
use Rattle.fec_depuncturing.specs.Code.{flag, flags, Filled}

pub filled_none : (values a : List ℤ) → Filled [] values a a values
unfolding depuncture count
filled_none values a = record { places = refl; left = refl }

-- the part behind the first n places
pub part_length : (n : ℕ) (b : List ℤ) → n ≤ length b → length (take (length b - n) (drop n b)) ≡ length b - n
part_length n b h = ap length (tail_part n b h) ∙ length-drop n b

module _ {ks : List Bool} {values a b r : List ℤ} (f : Filled ks values a b r) where
  pub filled_length : length ks ≤ length a → length b ≡ length a
  filled_length h =
      ap length f.places ∙ length-append (depuncture ks values) (drop (length ks) a)
      ∙ ap₂ (λ (m n : ℕ). m + n) (length-depuncture ks values) (length-drop (length ks) a) ∙ omega (arith, h)

  -- one run of places more
  module _ (n : ℕ) (e : n ≡ length ks) (h : n ≤ length a) where
    front : take n b ≡ depuncture ks values
    front = ap (take n) f.places ∙ take_at (depuncture ks values) (drop (length ks) a) n (length-depuncture ks values ∙ sym e)

    behind : drop n b ≡ drop n a
    behind = ap (drop n) f.places ∙ drop_at (depuncture ks values) (drop (length ks) a) n (length-depuncture ks values ∙ sym e) ∙ ap (λ (m : ℕ). drop m a) (sym e)

    within : n ≤ length b
    within = omega (arith, filled_length (omega arith))

    pub filled_on : {ls : List Bool} {c s : List ℤ} → Filled ls r (take (length b - n) (drop n b)) c s → Filled (ks ++ ls) values a (put_mid n (length b - n) b c) s
    filled_on {ls} {c} {s} g =
        record {
          places =
              tail_put n b within c
              ∙ ap₂ (λ (x y : List ℤ). x ++ y) front (g.places ∙ ap₂ (λ (x y : List ℤ). depuncture ls x ++ drop (length ls) y) f.left (tail_part n b within ∙ behind) ∙ ap (λ (x : List ℤ). depuncture ls (drop (count ks) values) ++ x) beyond)
              ∙ sym (append_assoc (depuncture ks values) (depuncture ls (drop (count ks) values)) (drop (length (ks ++ ls)) a))
              ∙ ap (λ (x : List ℤ). x ++ drop (length (ks ++ ls)) a) (sym (depuncture-append ks ls values));
          left = g.left ∙ ap (drop (count ls)) f.left ∙ drop-drop (count ls) (count ks) values ∙ ap (λ (m : ℕ). drop m values) (sym (count-append ks ls));
        }
      where
        beyond : drop (length ls) (drop n a) ≡ drop (length (ks ++ ls)) a
        beyond = drop-drop (length ls) n a ∙ ap (λ (m : ℕ). drop m a) (omega (arith, length-append ks ls))

  -- one place more
  pub filled_one : (k : Bool) (v : ℤ) (s : List ℤ) → length ks < length a → v ≡ pick_z k (at r 0) (pos 0) → s ≡ drop (pick_n k 1 0) r → Filled (ks ++ (k ∷ [])) values a (set b (length ks) v) s
  unfolding count
  filled_one k v s h e l =
      let n : ℕ = length ks in
      let in_b : n < length b = omega (arith, filled_length (omega arith)) in
      let one : Filled (k ∷ []) r (take (length b - n) (drop n b)) (v ∷ drop (n + 1) b) s =
      record {
        places = ap₂ (λ (x : ℤ) (y : List ℤ). x ∷ y) e (ap (λ (m : ℕ). drop m b) (omega arith) ∙ sym (drop-drop 1 n b) ∙ ap (drop 1) (sym (tail_part n b (omega arith)))) ∙ ap (λ (x : List ℤ). x ++ drop 1 (take (length b - n) (drop n b))) (sym (depuncture-one k r));
        left = l ∙ ap (λ (m : ℕ). drop m r) (counted k);
      }
      in
      subst (λ (x : List ℤ). Filled (ks ++ (k ∷ [])) values a x s) (tail_put n b (omega arith) (v ∷ drop (n + 1) b) ∙ sym (split b n in_b)) (filled_on n refl (omega arith) one)
    where
      counted : (c : Bool) → pick_n c 1 0 ≡ count (c ∷ [])
      counted true = refl
      counted false = refl

      split : (xs : List ℤ) (i : ℕ) → i < length xs → set xs i v ≡ take i xs ++ (v ∷ drop (i + 1) xs)
      split xs i h = sym (take-append-drop i (set xs i v)) ∙ ap₂ (λ (x y : List ℤ). x ++ y) (take-set xs i v) (drop-set xs i v h)

-- one flag more
pub flags_next : (xs : List ℕ) (j : ℕ) → j < length xs → flags (take (j + 1) xs) ≡ flags (take j xs) ++ (flag (get_or xs j 0) ∷ [])
flags_next xs j h = ap (λ (i : ℕ). flags (take i xs)) (add-one j) ∙ ap flags (take-suc xs j 0 h) ∙ joined (take j xs)
  where
    joined : (ys : List ℕ) → flags (ys ++ (get_or xs j 0 ∷ [])) ≡ flags ys ++ (flag (get_or xs j 0) ∷ [])
    joined [] = refl
    joined (y ∷ ys) = ap (λ (r : List Bool). flag y ∷ r) (joined ys)

pub length-flags : (xs : List ℕ) (j : ℕ) → j ≤ length xs → length (flags (take j xs)) ≡ j
length-flags xs j h = length-map (take j xs) flag ∙ length-take-le j xs h

-- the code's 1 and 0 are the flags again
pub flags_of_bits : (ks : List Bool) → flags (bits ks) ≡ ks
flags_of_bits [] = refl
flags_of_bits (true ∷ ks) = ap (λ (r : List Bool). true ∷ r) (flags_of_bits ks)
flags_of_bits (false ∷ ks) = ap (λ (r : List Bool). false ∷ r) (flags_of_bits ks)
