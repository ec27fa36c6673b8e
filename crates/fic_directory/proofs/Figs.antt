-- A FIG's entries by its type and extension, and a FIB's data field FIG by FIG.
-- Assumes nothing.
use mathlib.Core.Path.{◌≡◌, refl, sym, ap, ◌∙◌, subst}
use mathlib.Core.Bool.{Bool, true, false, cond}
use mathlib.Core.List.{List, [], ◌∷◌, ◌++◌}
use Prim.Native.Nat.{ℕ, zero, suc, ◌+◌, ◌-◌, ◌/◌, ◌%◌, ◌<◌, ◌≤◌}
use native.Mathlib.Omega.{arith}
use native.Mathlib.Nat.{add_assoc}
use borrow.Author.Tests.{lt-ltb, le-ltb, eq-eqb, ne_eqb, leb-true, leb-false}
use lib.Dec.{eqb, ltb, leb}
use lib.ListN.{length, get_or, take, drop, length-take, length-drop, drop_of_length-le}
use lib.Seq.{drop-cons, drop-drop, get_or-drop}
use Rattle.std.specs.Prelude.{Some, None}
use Rattle.laws.proofs.Slices.{tail_part}
use Rattle.spec_en300401.specs.Fib.{Fig, Field, field_from, field_end, broken_at, before as with-fig, end_marker, type_in, length_in}
use Rattle.spec_en300401.specs.Organisation.{Entry, sub_channels, extended, type_zero, entries_in, entries_of_all}
use Rattle.fic_directory_places.specs.Places.{Held, held}
use Rattle.fic_directory_places.specs.Promises.{answered}
use Rattle.fic_directory.specs.Promises.{Entered, entered, put, put_all}
use Rattle.fic_directory.specs.Code.{and_beyond, SubsRead, services, ServicesRead, FigRead, figs_from, FieldDone}

pub all_append : (xs ys : List Entry) (e : Entered) → put_all (xs ++ ys) e ≡ put_all ys (put_all xs e)
unfolding put_all
all_append [] ys e = refl
all_append (x ∷ xs) ys e = all_append xs ys (put x e)

-- ---- a FIG

abbrev fig : ℕ → List ℕ → Fig
fig kind body = record { type = kind; body = body }

zero_more : (n : ℕ) → n ≡ n + 0
zero_more n = omega arith

-- a FIG without entries changes nothing
silent : (kind : ℕ) (body : List ℕ) (h : Held) → entries_in (fig kind body) ≡ [] → FigRead kind body h 0 h
unfolding put_all
silent kind body h e =
    record { few = omega arith; puts = λ beyond n. ap (λ (es : List Entry). put_all es (entered (and_beyond h beyond) n)) e ∙ ap (entered (and_beyond h beyond)) (zero_more n) }

pub other_type : (kind : ℕ) (body : List ℕ) (h : Held) → (kind ≡ 0 → ⊥) → FigRead kind body h 0 h
unfolding entries_in
other_type kind body h n = silent kind body h (rw (ne_eqb kind 0 n))

pub empty_fig : (kind : ℕ) (body : List ℕ) (h : Held) → length body < 1 → FigRead kind body h 0 h
unfolding entries_in type_zero
empty_fig kind [] h l = silent kind [] h (by (eqb kind 0))
  where
    by : (b : Bool) → cond b (type_zero []) [] ≡ []
    by true = refl
    by false = refl
empty_fig kind (b ∷ body) h l = absurd (omega arith)

module _ (kind : ℕ) (body : List ℕ) (e : kind ≡ 0) (l : 1 ≤ length body) where
  zero-type : entries_in (fig kind body) ≡ cond (ltb (get_or body 0 0) 64) (extended (get_or body 0 0 % 32) (eqb (get_or body 0 0 / 32) 1) (drop 1 body)) []
  unfolding entries_in type_zero
  zero-type = rw (eq-eqb kind 0 e) (by body l)
    where
      by : (body : List ℕ) → 1 ≤ length body → type_zero body ≡ cond (ltb (get_or body 0 0) 64) (extended (get_or body 0 0 % 32) (eqb (get_or body 0 0 / 32) 1) (drop 1 body)) []
      by [] l = absurd (omega arith)
      by (t ∷ body) l = refl

  pub elsewhere : (h : Held) → 64 ≤ get_or body 0 0 → FigRead kind body h 0 h
  elsewhere h k = silent kind body h (zero-type ∙ rw (le-ltb (get_or body 0 0) 64 k))

  by_extension : get_or body 0 0 < 64 → entries_in (fig kind body) ≡ extended (get_or body 0 0 % 32) (eqb (get_or body 0 0 / 32) 1) (drop 1 body)
  by_extension k = zero-type ∙ rw (lt-ltb (get_or body 0 0) 64 k)

  pub not_read : (h : Held) → get_or body 0 0 < 64 → (get_or body 0 0 % 32 ≡ 1 → ⊥) → (get_or body 0 0 % 32 ≡ 2 → ⊥) → FigRead kind body h 0 h
  not_read h k p q = silent kind body h (by_extension k ∙ rw (ne_eqb (get_or body 0 0 % 32) 1 p, ne_eqb (get_or body 0 0 % 32) 2 q))

  pub read_one : (subs subs' others : List ℕ) → get_or body 0 0 < 64 → get_or body 0 0 % 32 ≡ 1 → SubsRead (take (length body - 1) (drop 1 body)) subs subs' → FigRead kind body (held subs others) 0 (held subs' others)
  read_one subs subs' others k p r =
      let w : SubsRead (drop 1 body) subs subs' = subst (λ (xs : List ℕ). SubsRead xs subs subs') (tail_part 1 body (omega arith)) r in
      let is : entries_in (fig kind body) ≡ sub_channels (drop 1 body) = by_extension k ∙ rw (eq-eqb (get_or body 0 0 % 32) 1 p) in
      record {
        few = omega arith;
        puts =
            λ beyond n. ap (λ (es : List Entry). put_all es (entered (and_beyond (held subs others) beyond) n)) is ∙ w.puts beyond.subs (others ++ beyond.services) n
            ∙ ap (entered (and_beyond (held subs' others) beyond)) (zero_more n);
      }

  -- the byte's third bit, as the code tests it
  wide_is : get_or body 0 0 < 64 → leb 32 (get_or body 0 0) ≡ eqb (get_or body 0 0 / 32) 1
  wide_is k = go (leb 32 (get_or body 0 0)) refl
    where
      go : (b : Bool) → leb 32 (get_or body 0 0) ≡ b → leb 32 (get_or body 0 0) ≡ eqb (get_or body 0 0 / 32) 1
      go true t = t ∙ sym (eq-eqb (get_or body 0 0 / 32) 1 (omega (arith, leb-true 32 (get_or body 0 0) t)))
      go false t = t ∙ sym (ne_eqb (get_or body 0 0 / 32) 1 (λ q. omega (arith, leb-false 32 (get_or body 0 0) t)))

  pub read_two : (subs others others' : List ℕ) (left : ℕ) → get_or body 0 0 < 64 → get_or body 0 0 % 32 ≡ 2 → ServicesRead (leb 32 (get_or body 0 0)) (take (length body - 1) (drop 1 body)) others left others'
      → FigRead kind body (held subs others) left (held subs others')
  read_two subs others others' left k p r =
      let wide : Bool = eqb (get_or body 0 0 / 32) 1 in
      let w : ServicesRead wide (drop 1 body) others left others' =
      subst (λ (xs : List ℕ). ServicesRead wide xs others left others') (tail_part 1 body (omega arith))
      (subst (λ (b : Bool). ServicesRead b (take (length body - 1) (drop 1 body)) others left others') (wide_is k) r) in
      let is : entries_in (fig kind body) ≡ services wide (drop 1 body) = by_extension k ∙ rw (ne_eqb (get_or body 0 0 % 32) 1 (λ q. omega arith), eq-eqb (get_or body 0 0 % 32) 2 p) in
      record {
        few = omega (arith, w.few, length-drop 1 body);
        puts = λ beyond n. ap (λ (es : List Entry). put_all es (entered (and_beyond (held subs others) beyond) n)) is ∙ w.puts (subs ++ beyond.subs) beyond.services n;
      }

-- ---- a field

-- as many FIGs are looked for as there are bytes, or more
more : (n o : ℕ) (bs : List ℕ) → length bs ≤ n → field_from (suc n) o bs ≡ field_from n o bs
unfolding field_from
more zero o [] h = refl
more zero o (b ∷ bs) h = absurd (omega arith)
more (suc n) o [] h = refl
more (suc n) o (b ∷ bs) h =
    ap (λ (f : Field). cond (eqb b end_marker) field_end (cond (ltb (length bs) (length_in b)) (broken_at o) (with-fig (fig (type_in b) (take (length_in b) bs)) f)))
    (more n (o + 1 + length_in b) (drop (length_in b) bs) (simp length-drop (omega arith)))

enough : (k o : ℕ) (bs : List ℕ) → field_from (k + length bs) o bs ≡ field_from (length bs) o bs
enough zero o bs = ap (λ (n : ℕ). field_from n o bs) (omega arith)
enough (suc k) o bs = ap (λ (n : ℕ). field_from n o bs) (omega arith) ∙ more (k + length bs) o bs (omega arith) ∙ enough k o bs

same_figs : (n m o : ℕ) (bs : List ℕ) → length bs ≤ n → length bs ≤ m → field_from n o bs ≡ field_from m o bs
same_figs n m o bs h l =
    let p : n ≡ n - length bs + length bs = omega arith in
    let q : m - length bs + length bs ≡ m = omega arith in
    ap (λ (k : ℕ). field_from k o bs) p ∙ enough (n - length bs) o bs ∙ sym (enough (m - length bs) o bs) ∙ ap (λ (k : ℕ). field_from k o bs) q

-- the FIG at an offset
module _ (field : List ℕ) (at : ℕ) (inside : at < length field) where
  abbrev header : ℕ
  header = get_or field at 0

  abbrev onward : ℕ
  onward = at + 1 + length_in header

  begins : figs_from at field ≡ cond (eqb header end_marker) field_end (cond (ltb (length field - (at + 1)) (length_in header)) (broken_at at) (with-fig (fig (type_in header) (take (length_in header) (drop (at + 1) field))) (figs_from onward field)))
  unfolding field_from
  begins = go (length field) refl
    where
      one_on : suc at ≡ at + 1
      one_on = omega arith

      rest_is : drop (suc at) field ≡ drop (at + 1) field
      rest_is = ap (λ (k : ℕ). drop k field) one_on

      go : (n : ℕ) → length field ≡ n → field_from n at (drop at field) ≡ cond (eqb header end_marker) field_end (cond (ltb (length field - (at + 1)) (length_in header)) (broken_at at) (with-fig (fig (type_in header) (take (length_in header) (drop (at + 1) field))) (figs_from onward field)))
      go zero e = absurd (omega arith)
      go (suc n) e =
          let left : length (drop (at + 1) field) ≡ length field - (at + 1) = length-drop (at + 1) field in
          let same : drop (length_in header) (drop (at + 1) field) ≡ drop onward field = drop-drop (length_in header) (at + 1) field in
          ap (field_from (suc n) at) (drop-cons field at 0 inside ∙ ap (λ (xs : List ℕ). header ∷ xs) rest_is)
          ∙ (λ i. cond (eqb header end_marker) field_end (cond (ltb (left i) (length_in header)) (broken_at at) (with-fig (fig (type_in header) (take (length_in header) (drop (at + 1) field))) (field_from n onward (same i)))))
          ∙ ap (λ (f : Field). cond (eqb header end_marker) field_end (cond (ltb (length field - (at + 1)) (length_in header)) (broken_at at) (with-fig (fig (type_in header) (take (length_in header) (drop (at + 1) field))) f)))
          (same_figs n (length field) onward (drop onward field) (simp length-drop (omega arith)) (simp length-drop (omega arith)))

  pub at_marker : header ≡ 255 → figs_from at field ≡ field_end
  at_marker h = begins ∙ rw (eq-eqb header end_marker h)

  pub at-broken : (header ≡ 255 → ⊥) → length field - (at + 1) < length_in header → figs_from at field ≡ broken_at at
  at-broken n h = begins ∙ rw (ne_eqb header end_marker n, lt-ltb (length field - (at + 1)) (length_in header) h)

  pub at_fig : (header ≡ 255 → ⊥) → length_in header ≤ length field - (at + 1) → figs_from at field ≡ with-fig (fig (type_in header) (take (length_in header) (drop (at + 1) field))) (figs_from onward field)
  at_fig n h = begins ∙ rw (ne_eqb header end_marker n, le-ltb (length field - (at + 1)) (length_in header) h)

-- ---- the walk

-- what is left of the FIGs makes of the numbers what all of them make of those before
pub record Walked (field : List ℕ) (old now : Held) (left : ℕ) (rest : List ℕ) : Type 0 where
  pub inside : length rest ≤ length field
  pub rest_is : rest ≡ drop (length field - length rest) field
  pub few : left + length rest ≤ length field
  pub broken_same : (figs_from (length field - length rest) field).broken ≡ (figs_from 0 field).broken
  pub puts : (beyond : Held) (n : ℕ) → put_all (entries_of_all (figs_from 0 field).figs) (entered (and_beyond old beyond) n)
      ≡ put_all (entries_of_all (figs_from (length field - length rest) field).figs) (entered (and_beyond now beyond) (n + left))

module _ {field : List ℕ} {old now : Held} {left : ℕ} {rest : List ℕ} (w : Walked field old now left rest) where
  abbrev at : ℕ
  at = length field - length rest

  -- the walk is over where no FIG is left
  over : (f : Field) → f.figs ≡ [] → figs_from at field ≡ f → FieldDone field old (answered f.broken) left now
  unfolding put_all entries_of_all
  over f none_left e =
      record {
        few = omega (arith, w.few);
        broken_is = ap answered (sym (ap (λ (g : Field). g.broken) e) ∙ w.broken_same);
        puts = λ beyond n. w.puts beyond n ∙ ap (λ (gs : List Fig). put_all (entries_of_all gs) (entered (and_beyond now beyond) (n + left))) (ap (λ (g : Field). g.figs) e ∙ none_left);
      }

  pub walk_end : length rest < 1 → FieldDone field old None left now
  unfolding field_from
  walk_end h = over field_end refl (ap (field_from (length field) at) (drop_of_length-le field (omega (arith, w.inside))) ∙ nothing (length field))
    where
      nothing : (n : ℕ) → field_from n at [] ≡ field_end
      nothing zero = refl
      nothing (suc n) = refl

  module _ (h : 1 ≤ length rest) where
    begun : at < length field
    begun = omega (arith, w.inside)

    header-is : get_or rest 0 0 ≡ get_or field at 0
    header-is = ap (λ (xs : List ℕ). get_or xs 0 0) w.rest_is ∙ get_or-drop at field 0 0 ∙ ap (λ (n : ℕ). get_or field n 0) (omega arith)

    behind-is : take (length rest - 1) (drop 1 rest) ≡ drop (at + 1) field
    behind-is = tail_part 1 rest (omega arith) ∙ ap (drop 1) w.rest_is ∙ drop-drop 1 at field

    pub walk_marker : get_or rest 0 0 ≡ 255 → FieldDone field old None left now
    walk_marker e = over field_end refl (at_marker field at begun (sym header-is ∙ e))

    pub walk_broken : (k : ℕ) → (get_or rest 0 0 ≡ 255 → ⊥) → k ≡ get_or rest 0 0 % 32 → length (take (length rest - 1) (drop 1 rest)) < k → FieldDone field old (Some at) left now
    walk_broken k n e l =
        over (broken_at at) refl
        (at-broken field at begun (λ q. n (header-is ∙ q)) (omega (arith, ap (λ (m : ℕ). m % 32) header-is, ap (λ (xs : List ℕ). length xs) behind-is, length-drop (at + 1) field)))

    pub walk_next : (k r : ℕ) (body others : List ℕ) (new : Held) → (get_or rest 0 0 ≡ 255 → ⊥) → k ≡ get_or rest 0 0 % 32 → k ≤ length (take (length rest - 1) (drop 1 rest))
        → body ≡ take k (take (length rest - 1) (drop 1 rest)) → others ≡ drop k (take (length rest - 1) (drop 1 rest)) → FigRead (get_or rest 0 0 / 32) body now r new → Walked field old new (left + r) others
    unfolding entries_of_all
    walk_next k r body others new n e l b o g =
        let header : ℕ = get_or field at 0 in
        let size : k ≡ length_in header = e ∙ ap (λ (m : ℕ). m % 32) header-is in
        let left_long : length (drop (at + 1) field) ≡ length rest - 1 = omega (arith, length-drop (at + 1) field, w.inside) in
        let fits : k ≤ length rest - 1 = omega (arith, ap (λ (xs : List ℕ). length xs) behind-is) in
        let is = at_fig field at begun (λ q. n (header-is ∙ q)) (omega (arith, length-drop (at + 1) field)) in
        let others-are : others ≡ drop k (drop (at + 1) field) = o ∙ ap (drop k) behind-is in
        let others_long : length others ≡ length rest - 1 - k = omega (arith, ap (λ (xs : List ℕ). length xs) others-are, length-drop k (drop (at + 1) field)) in
        let at-next : length field - length others ≡ at + 1 + length_in header = omega (arith, w.inside) in
        let whole : List ℕ = take (length_in header) (drop (at + 1) field) in
        let body_is : body ≡ whole = b ∙ (λ i. take (size i) (behind-is i)) in
        let one : FigRead (header / 32) whole now r new = subst (λ (t : ℕ). FigRead t whole now r new) (ap (λ (m : ℕ). m / 32) header-is) (subst (λ (xs : List ℕ). FigRead (get_or rest 0 0 / 32) xs now r new) body_is g) in
        let more : ℕ → List Entry = λ (p : ℕ). entries_of_all (figs_from p field).figs in
        record {
          inside = omega (arith, w.inside);
          rest_is = others-are ∙ drop-drop k (at + 1) field ∙ ap (λ (p : ℕ). drop p field) (ap (λ (m : ℕ). at + 1 + m) size ∙ sym at-next);
          few = omega (arith, w.few, one.few, length-take (length_in header) (drop (at + 1) field));
          broken_same = ap (λ (p : ℕ). (figs_from p field).broken) at-next ∙ sym (ap (λ (f : Field). f.broken) is) ∙ w.broken_same;
          puts =
              λ beyond m. w.puts beyond m
              ∙ ap (λ (f : Field). put_all (entries_of_all f.figs) (entered (and_beyond now beyond) (m + left))) is
              ∙ all_append (entries_in (fig (header / 32) whole)) (more (at + 1 + length_in header)) (entered (and_beyond now beyond) (m + left))
              ∙ ap (put_all (more (at + 1 + length_in header))) (one.puts beyond (m + left))
              ∙ (λ i. put_all (more (sym at-next i)) (entered (and_beyond new beyond) (add_assoc m left r i)));
        }
