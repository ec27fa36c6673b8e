-- FIBs one after another: what is left of them makes of the numbers what all of them make of those before.
-- Assumes nothing.
use mathlib.Core.Path.{◌≡◌, refl, sym, ap, ◌∙◌, subst}
use mathlib.Core.Bool.{Bool, true, false, cond}
use mathlib.Core.List.{List, [], ◌∷◌}
use mathlib.Core.Option.{Option, none, some}
use Prim.Native.Nat.{ℕ, zero, suc, ◌+◌, ◌*◌, ◌/◌, ◌<◌, ◌≤◌}
use native.Mathlib.Omega.{arith}
use native.Mathlib.Numerals.{add-one}
use borrow.Author.Tests.{ne_eqb, eqb-true}
use lib.Dec.{eqb}
use lib.ListN.{length, get_or, take, drop, length-drop, drop_of_length-le}
use lib.Seq.{drop-cons, length-take-le}
use Rattle.std.specs.Prelude.{Option as Answer}
use Rattle.std.specs.Simd.{first_chunks}
use Rattle.laws.specs.Words.{pick_n}
use Rattle.spec_en300401.specs.Fib.{Field, field_from, field_of}
use Rattle.spec_en300401.specs.Organisation.{entries_of, entries_of_all}
use Rattle.spec_en300401.specs.Directory.{fibs_in, counted, broken_fibs, Broken, or_broken, first_broken}
use Rattle.fic_directory_places.specs.Places.{Held}
use Rattle.fic_directory_places.specs.Promises.{answered}
use Rattle.fic_directory.specs.declared.Reading.{Reading}
use Rattle.fic_directory.specs.Promises.{Entered, entered, put_all, fibs_of, entries_of_fibs, read_into, reading_of}
use Rattle.fic_directory.specs.Code.{and_beyond, figs_from, FieldDone, noted_by, AllRead}
use Rattle.fic_directory.proofs.Figs.{all_append}

-- the code's pieces of 32 bytes are the FIBs
pub pieces : (n : ℕ) (bs : List ℕ) → first_chunks 32 n bs ≡ fibs_in n bs
unfolding fibs_in
pieces zero bs = refl
pieces (suc n) bs = ap (λ (fs : List (List ℕ)). take 32 bs ∷ fs) (pieces n (drop 32 bs))

length-fibs_in : (n : ℕ) (bs : List ℕ) → length (fibs_in n bs) ≡ n
unfolding fibs_in
length-fibs_in zero bs = refl
length-fibs_in (suc n) bs = ap suc (length-fibs_in n (drop 32 bs))

fib_long : (n : ℕ) (bs : List ℕ) (k : ℕ) → 32 * n ≤ length bs → k < n → length (get_or (fibs_in n bs) k []) ≡ 32
unfolding fibs_in
fib_long zero bs k h l = absurd (omega arith)
fib_long (suc n) bs zero h l = length-take-le 32 bs (omega arith)
fib_long (suc n) bs (suc k) h l = fib_long n (drop 32 bs) k (omega (arith, length-drop 32 bs)) (omega arith)

-- the first broken FIB of those read, or else of those to come
abbrev first_in : Reading → Broken
first_in r = record { fib = r.first_fib; offset = r.first_offset }

abbrev first_or : Reading → Broken → Broken
first_or r later = cond (eqb r.broken 0) later (first_in r)

pub record Going (bytes : List ℕ) (old now : Held) (r : Reading) (k : ℕ) : Type 0 where
  pub count : r.fibs ≡ k
  pub broken_few : r.broken ≤ r.fibs
  pub left_few : r.left_out ≤ 30 * r.fibs
  pub puts : (beyond : Held) → put_all (entries_of_fibs (fibs_of bytes)) (entered (and_beyond old beyond) 0) ≡ put_all (entries_of_fibs (drop k (fibs_of bytes))) (entered (and_beyond now beyond) r.left_out)
  pub brokens : broken_fibs (fibs_of bytes) ≡ r.broken + broken_fibs (drop k (fibs_of bytes))
  pub first : first_broken 0 (fibs_of bytes) ≡ first_or r (first_broken r.fibs (drop k (fibs_of bytes)))
  pub none_yet : r.broken ≡ 0 → (r.first_fib ≡ 0) × (r.first_offset ≡ 0)

noted_first : (r : Reading) (o : Option ℕ) (left : ℕ) (later : Broken) → first_or r (or_broken o r.fibs later) ≡ first_or (noted_by r (answered o) left) later
noted_first r none left later = refl
noted_first r (some o) left later = go (eqb r.broken 0) ∙ sym (ap (λ (b : Bool). cond b later (record { fib = pick_n (eqb r.broken 0) r.fibs r.first_fib; offset = pick_n (eqb r.broken 0) o r.first_offset })) (ne_eqb (r.broken + 1) 0 (λ z. omega arith)))
  where
    go : (b : Bool) → cond b (record { fib = r.fibs; offset = o }) (first_in r) ≡ record { fib = pick_n b r.fibs r.first_fib; offset = pick_n b o r.first_offset }
    go true = refl
    go false = refl

noted_counts : (r : Reading) (o : Option ℕ) (left : ℕ) → ((noted_by r (answered o) left).fibs ≡ r.fibs + 1) × ((noted_by r (answered o) left).broken ≡ r.broken + counted o) × ((noted_by r (answered o) left).left_out ≡ r.left_out + left)
noted_counts r none left = (refl, omega arith, refl)
noted_counts r (some o) left = (refl, refl, refl)

noted_none : (r : Reading) (o : Option ℕ) (left : ℕ) → (r.broken ≡ 0 → (r.first_fib ≡ 0) × (r.first_offset ≡ 0)) → (noted_by r (answered o) left).broken ≡ 0
    → ((noted_by r (answered o) left).first_fib ≡ 0) × ((noted_by r (answered o) left).first_offset ≡ 0)
noted_none r none left f z = f z
noted_none r (some o) left f z = absurd (omega arith)

counted-one : (o : Option ℕ) → counted o ≤ 1
counted-one none = omega arith
counted-one (some o) = omega arith

module _ {bytes : List ℕ} {old now : Held} {r : Reading} {k : ℕ} (v : Going bytes old now r k) where
  pub next : (new : Held) (field : List ℕ) (e : Answer ℕ) (left : ℕ) (r' : Reading) → k < length bytes / 32 → field ≡ take 30 (get_or (fibs_of bytes) k []) → FieldDone field now e left new → r' ≡ noted_by r e left → Going bytes old new r' (k + 1)
  unfolding entries_of_fibs broken_fibs first_broken entries_of field_of
  next new field e left r' h is d p = subst (λ (q : Reading). Going bytes old new q (k + 1)) (sym (p ∙ ap (λ (a : Answer ℕ). noted_by r a left) ended)) (go (noted_counts r o left))
    where
      fib : List ℕ
      fib = get_or (fibs_of bytes) k []

      rest : List (List ℕ)
      rest = drop (k + 1) (fibs_of bytes)

      long : length fib ≡ 32
      long = fib_long (length bytes / 32) bytes k (omega arith) h

      thirty : length field ≡ 30
      thirty = ap (λ (xs : List ℕ). length xs) is ∙ length-take-le 30 fib (omega (arith, long))

      f : Field
      f = field_of fib

      field_is : f ≡ figs_from 0 field
      field_is = (λ i. field_from (sym thirty i) 0 (sym is i))

      o : Option ℕ
      o = f.broken

      ended : e ≡ answered o
      ended = d.broken_is ∙ ap (λ (g : Field). answered g.broken) (sym field_is)

      left_few : left ≤ 30
      left_few = omega (arith, d.few, thirty)

      split : drop k (fibs_of bytes) ≡ fib ∷ rest
      split = drop-cons (fibs_of bytes) k [] (omega (arith, length-fibs_in (length bytes / 32) bytes)) ∙ ap (λ (n : ℕ). fib ∷ drop n (fibs_of bytes)) (sym (add-one k))

      one_on : (n : ℕ) → suc n ≡ n + 1
      one_on n = omega arith

      go : ((noted_by r (answered o) left).fibs ≡ r.fibs + 1) × ((noted_by r (answered o) left).broken ≡ r.broken + counted o) × ((noted_by r (answered o) left).left_out ≡ r.left_out + left) → Going bytes old new (noted_by r (answered o) left) (k + 1)
      go c =
          record {
            count = omega (arith, v.count, c.0);
            broken_few = omega (arith, v.broken_few, c.0, c.1, counted-one o);
            left_few = omega (arith, v.left_few, c.0, c.2, left_few);
            puts =
                λ beyond. v.puts beyond ∙ ap (λ (fs : List (List ℕ)). put_all (entries_of_fibs fs) (entered (and_beyond now beyond) r.left_out)) split
                ∙ all_append (entries_of fib) (entries_of_fibs rest) (entered (and_beyond now beyond) r.left_out)
                ∙ ap (λ (g : Field). put_all (entries_of_fibs rest) (put_all (entries_of_all g.figs) (entered (and_beyond now beyond) r.left_out))) field_is
                ∙ ap (put_all (entries_of_fibs rest)) (d.puts beyond r.left_out ∙ ap (entered (and_beyond new beyond)) (sym c.2));
            brokens = v.brokens ∙ ap (λ (fs : List (List ℕ)). r.broken + broken_fibs fs) split ∙ omega (arith, c.1);
            first =
                v.first ∙ ap (λ (fs : List (List ℕ)). first_or r (first_broken r.fibs fs)) split
                ∙ noted_first r o left (first_broken (suc r.fibs) rest)
                ∙ ap (λ (n : ℕ). first_or (noted_by r (answered o) left) (first_broken n rest)) (one_on r.fibs ∙ sym c.0);
            none_yet = noted_none r o left v.none_yet;
          }

  pub done : length bytes / 32 ≤ k → k ≤ length bytes / 32 → AllRead bytes old r now
  unfolding entries_of_fibs put_all broken_fibs first_broken reading_of
  done h l =
      let no : drop k (fibs_of bytes) ≡ [] = drop_of_length-le (fibs_of bytes) (omega (arith, length-fibs_in (length bytes / 32) bytes)) in
      let fibs_are : r.fibs ≡ length bytes / 32 = omega (arith, v.count) in
      let brokens_are : r.broken ≡ broken_fibs (fibs_of bytes) = (omega arith) ∙ sym (v.brokens ∙ ap (λ (fs : List (List ℕ)). r.broken + broken_fibs fs) no) in
      let first-is : first_in r ≡ first_broken 0 (fibs_of bytes) = sym (v.first ∙ ap (λ (fs : List (List ℕ)). first_or r (first_broken r.fibs fs)) no ∙ last (eqb r.broken 0) refl) in
      record {
        reading = λ beyond. (λ i. record { fibs = fibs_are i; broken = brokens_are i; first_fib = (first-is i).fib; first_offset = (first-is i).offset; left_out = (sym (all beyond no) i).left_out });
        numbers = λ beyond. sym (ap (λ (e : Entered). e.numbers) (all beyond no));
      }
    where
      all : (beyond : Held) → drop k (fibs_of bytes) ≡ [] → read_into bytes (and_beyond old beyond) ≡ entered (and_beyond now beyond) r.left_out
      all beyond none_left = v.puts beyond ∙ ap (λ (fs : List (List ℕ)). put_all (entries_of_fibs fs) (entered (and_beyond now beyond) r.left_out)) none_left

      last : (b : Bool) → eqb r.broken 0 ≡ b → cond b (record { fib = 0; offset = 0 }) (first_in r) ≡ first_in r
      last true e = let z = v.none_yet (eqb-true r.broken 0 e) in (λ i. record { fib = sym z.0 i; offset = sym z.1 i })
      last false e = refl
