-- FIG 0/2 entry by entry: its length, its identifier, its components, and that entering it moves on to the rest.
-- Assumes nothing.
use mathlib.Core.Path.{◌≡◌, refl, sym, ap, ◌∙◌, subst}
use mathlib.Core.Bool.{Bool, true, false, cond}
use mathlib.Core.List.{List, [], ◌∷◌, ◌++◌, append_assoc}
use mathlib.Core.Option.{Option}
use Prim.Native.Nat.{ℕ, zero, suc, ◌+◌, ◌*◌, ◌-◌, ◌/◌, ◌%◌, ◌^◌, ◌<◌, ◌≤◌}
use native.Mathlib.Omega.{arith}
use borrow.Author.Tests.{lt-ltb, le-ltb}
use denote.Bor.{Bor}
use mir.Val.{bool_byte}
use lib.Dec.{ltb}
use lib.ListN.{length, get_or, set, take, drop, length-take, length-drop, length-set}
use borrow.Rule.Slice.PartMut.{put_mid}
use lib.Seq.{sets, sets-eq, take-take, get_or-take, length-take-le}
use Rattle.std.specs.Prelude.{Option as Answer, Some, None, MatchOption}
use Rattle.std.specs.List.{IsSplitAt}
use Rattle.std.specs.Simd.{first_chunks}
use Rattle.laws.proofs.Chunks.{length-chunks}
use Rattle.std.proofs.lemmas.List.{drop-take, set-append_left}
use Rattle.laws.specs.Words.{pick_n}
use Rattle.laws.proofs.Slices.{part-put}
use Rattle.spec_en300401.specs.Organisation.{Service, Entry, service, number_of, pairs_of, sid_bytes, component_bytes, entry_bytes, service_in, services_in}
use Rattle.spec_en300401.specs.Directory.{place_for}
use Rattle.fic_directory_places.specs.Places.{held, services_of, service_head, component_word, service_words}
use Rattle.fic_directory_places.specs.Promises.{answered}
use Rattle.fic_directory.specs.Promises.{entered, put_at, put, put_all}
use Rattle.fic_directory.specs.Code.{services, NoneLeft, IsEntry, FirstOf, sid_key, KeyIs, pair_at, four_of, PlaceFor, ServicePut, ServicesRead}
use Rattle.fic_directory.proofs.Found.{is_none, is_some, services_beyond}

-- ---- the first entry

-- as many entries are looked for as there are bytes, or more
more : (n : ℕ) (wide : Bool) (bs : List ℕ) → length bs ≤ n → services_in (suc n) wide bs ≡ services_in n wide bs
unfolding services_in
more zero wide [] h = rw (le-ltb (sid_bytes wide) 0 (omega arith))
more zero wide (b ∷ bs) h = absurd (omega arith)
more (suc n) wide bs h =
    ap (λ (es : List Entry). cond (ltb (sid_bytes wide) (length bs)) (cond (ltb (length bs) (entry_bytes wide bs)) [] (service (service_in wide bs) ∷ es)) [])
    (more n wide (drop (entry_bytes wide bs) bs) (simp length-drop (omega arith)))

enough : (k : ℕ) (wide : Bool) (bs : List ℕ) → services_in (k + length bs) wide bs ≡ services wide bs
enough zero wide bs = ap (λ (n : ℕ). services_in n wide bs) (omega arith)
enough (suc k) wide bs = ap (λ (n : ℕ). services_in n wide bs) (omega arith) ∙ more (k + length bs) wide bs (omega arith) ∙ enough k wide bs

services-none : (wide : Bool) (rest : List ℕ) → length rest ≤ sid_bytes wide → services wide rest ≡ []
unfolding services_in
services-none wide rest h = go (length rest) refl
  where
    go : (n : ℕ) → length rest ≡ n → services_in n wide rest ≡ []
    go zero e = refl
    go (suc n) e = rw (le-ltb (sid_bytes wide) (length rest) h)

module _ (wide : Bool) (rest : List ℕ) (head : sid_bytes wide < length rest) where
  services-cut : length rest < entry_bytes wide rest → services wide rest ≡ []
  unfolding services_in
  services-cut l = go (length rest) refl
    where
      go : (n : ℕ) → length rest ≡ n → services_in n wide rest ≡ []
      go zero e = refl
      go (suc n) e = rw (lt-ltb (sid_bytes wide) (length rest) head, lt-ltb (length rest) (entry_bytes wide rest) l)

  services-whole : entry_bytes wide rest ≤ length rest → services wide rest ≡ service (service_in wide rest) ∷ services wide (drop (entry_bytes wide rest) rest)
  unfolding services_in
  services-whole l = go (length rest) refl
    where
      go : (n : ℕ) → length rest ≡ n → services_in n wide rest ≡ service (service_in wide rest) ∷ services wide (drop (entry_bytes wide rest) rest)
      go zero e = absurd (omega arith)
      go (suc n) e =
          let left : ℕ = length (drop (entry_bytes wide rest) rest) in
          let k : n - left + left ≡ n = omega (arith, length-drop (entry_bytes wide rest) rest) in
          rw (lt-ltb (sid_bytes wide) (length rest) head, le-ltb (length rest) (entry_bytes wide rest) l)
          (ap (λ (es : List Entry). service (service_in wide rest) ∷ es) (ap (λ (m : ℕ). services_in m wide (drop (entry_bytes wide rest) rest)) (sym k) ∙ enough (n - left) wide (drop (entry_bytes wide rest) rest)))

  -- the bytes of an entry say what they say among others
  module _ (n : ℕ) (e : n ≡ entry_bytes wide rest) where
    same_count : component_bytes wide (take n rest) ≡ component_bytes wide rest
    same_count = ap (λ (m : ℕ). 2 * (m % 16)) (get_or-take n rest (sid_bytes wide) 0 (omega arith))

    same_entry : service_in wide (take n rest) ≡ service_in wide rest
    unfolding service_in
    same_entry =
        let c : ℕ = component_bytes wide rest in
        let size : n ≡ sid_bytes wide + 1 + c = e in
        let back : drop (sid_bytes wide + 1) (take n rest) ≡ take c (drop (sid_bytes wide + 1) rest) = ap (λ (m : ℕ). drop (sid_bytes wide + 1) (take m rest)) size ∙ drop-take (sid_bytes wide + 1) c rest in
        let cs : take (component_bytes wide (take n rest)) (drop (sid_bytes wide + 1) (take n rest)) ≡ take c (drop (sid_bytes wide + 1) rest) =
        (λ i. take (same_count i) (back i)) ∙ take-take c c (drop (sid_bytes wide + 1) rest) (omega arith) in
        (λ i. record { wide = wide; sid = number_of 0 (take-take (sid_bytes wide) n rest (omega arith) i); components = pairs_of (cs i) })

    first_of : n ≤ length rest → FirstOf wide rest (take n rest) (drop n rest)
    first_of l =
        record {
          whole = record { long = length-take-le n rest l ∙ e ∙ ap (λ (m : ℕ). sid_bytes wide + 1 + m) (sym same_count) };
          lengths = omega (arith, length-take-le n rest l, length-drop n rest);
          entries = services-whole (omega arith) ∙ (λ i. service (sym same_entry i) ∷ services wide (drop (sym e i) rest));
        }

pub no_head : (wide : Bool) (rest : List ℕ) (h : ℕ) (r : Answer (Bor (List ℕ) × Bor (List ℕ))) → h ≡ sid_bytes wide → length rest ≤ h → r ≡ None → MatchOption r (NoneLeft wide rest) (λ p. FirstOf wide rest p.0.now p.1.now)
no_head wide rest h r e l n = subst (λ (o : Answer (Bor (List ℕ) × Bor (List ℕ))). MatchOption o (NoneLeft wide rest) (λ p. FirstOf wide rest p.0.now p.1.now)) (sym n) (record { is = services-none wide rest (omega arith) })

pub split_off : (wide : Bool) (rest : List ℕ) (h f : ℕ) (r : Answer (Bor (List ℕ) × Bor (List ℕ))) → h ≡ sid_bytes wide → h < length rest → f ≡ get_or rest h 0 % 16
    → MatchOption r (length rest < h + 1 + 2 * f) (λ p. IsSplitAt rest (h + 1 + 2 * f) p.0.now p.1.now) → MatchOption r (NoneLeft wide rest) (λ p. FirstOf wide rest p.0.now p.1.now)
split_off wide rest h f r e l g m = go r m
  where
    size : h + 1 + 2 * f ≡ entry_bytes wide rest
    size = (λ i. e i + 1 + 2 * (g ∙ ap (λ (n : ℕ). get_or rest n 0 % 16) e) i)

    go : (r : Answer (Bor (List ℕ) × Bor (List ℕ))) → MatchOption r (length rest < h + 1 + 2 * f) (λ p. IsSplitAt rest (h + 1 + 2 * f) p.0.now p.1.now) → MatchOption r (NoneLeft wide rest) (λ p. FirstOf wide rest p.0.now p.1.now)
    go None m = record { is = services-cut wide rest (omega arith) (omega (arith, size)) }
    go (Some p) m =
        subst (λ (x : List ℕ). FirstOf wide rest x p.1.now) (sym m.1) (subst (λ (x : List ℕ). FirstOf wide rest (take (h + 1 + 2 * f) rest) x) (sym m.2) (first_of wide rest (omega arith) (h + 1 + 2 * f) size m.0))

-- ---- the identifier

pub key_wide : (wide : Bool) (entry : List ℕ) (r : ℕ) → wide ≡ true → IsEntry wide entry → r ≡ get_or entry 0 0 * 16777216 + get_or entry 1 0 * 65536 + get_or entry 2 0 * 256 + get_or entry 3 0 → r < 2 ^ 32
    → KeyIs (service_in wide entry) (4294967296 + r)
unfolding sid_key service_in number_of
key_wide false entry r t w e h = let z : ◌≡◌ {A = ℕ} 0 1 = cc in absurd (omega arith)
key_wide true [] r t w e h = absurd (omega (arith, w.long))
key_wide true (a ∷ []) r t w e h = absurd (omega (arith, w.long))
key_wide true (a ∷ b ∷ []) r t w e h = absurd (omega (arith, w.long))
key_wide true (a ∷ b ∷ c ∷ []) r t w e h = absurd (omega (arith, w.long))
key_wide true (a ∷ b ∷ c ∷ d ∷ rest) r t w e h = record { is = omega arith; small = omega arith; sid = omega arith }

pub key_narrow : (wide : Bool) (entry : List ℕ) (r : ℕ) → wide ≡ false → IsEntry wide entry → r ≡ get_or entry 0 0 * 256 + get_or entry 1 0 → r < 2 ^ 16 → KeyIs (service_in wide entry) r
unfolding sid_key service_in number_of
key_narrow true entry r t w e h = let z : ◌≡◌ {A = ℕ} 0 1 = cc in absurd (omega arith)
key_narrow false [] r t w e h = absurd (omega (arith, w.long))
key_narrow false (a ∷ []) r t w e h = absurd (omega (arith, w.long))
key_narrow false (a ∷ b ∷ rest) r t w e h = record { is = omega arith; small = omega arith; sid = omega arith }

-- ---- the components

pub length_pairs : (n : ℕ) (xs : List ℕ) → length xs ≡ 2 * n → length (pairs_of xs) ≡ n
unfolding pairs_of
length_pairs zero [] h = refl
length_pairs zero (a ∷ xs) h = absurd (omega arith)
length_pairs (suc n) [] h = absurd (omega arith)
length_pairs (suc n) (a ∷ []) h = absurd (omega arith)
length_pairs (suc n) (a ∷ b ∷ xs) h = ap suc (length_pairs n xs (omega arith))

-- pairs of bytes are the numbers that they make
pair_is : (n : ℕ) (ws : List ℕ) (k : ℕ) → n ≡ length ws / 2 → pair_at (first_chunks 2 n ws) k ≡ get_or (pairs_of ws) k 0
unfolding pairs_of
pair_is zero [] k e = refl
pair_is zero (a ∷ []) k e = refl
pair_is zero (a ∷ b ∷ ws) k e = absurd (omega arith)
pair_is (suc n) [] k e = absurd (omega arith)
pair_is (suc n) (a ∷ []) k e = absurd (omega arith)
pair_is (suc n) (a ∷ b ∷ ws) zero e = refl
pair_is (suc n) (a ∷ b ∷ ws) (suc k) e = pair_is n ws k (omega arith)

four_is : (n : ℕ) (ws : List ℕ) (j : ℕ) → n ≡ length ws / 2 → four_of (first_chunks 2 n ws) j ≡ component_word (pairs_of ws) j
unfolding component_word
four_is n ws j e =
    (λ i. pair_is n ws (4 * j) e i + pair_is n ws (4 * j + 1) e i * 2 ^ 16 + pair_is n ws (4 * j + 2) e i * 2 ^ 32 + pair_is n ws (4 * j + 3) e i * 2 ^ 48)

-- the four numbers of an entry
module _ (wide : Bool) (entry ws : List ℕ) (h key : ℕ) (pairs : List (List ℕ)) (w : IsEntry wide entry) (e : h ≡ sid_bytes wide) (front : ws ≡ take (length entry - (h + 1)) (drop (h + 1) entry)) (p : pairs ≡ first_chunks 2 (length ws / 2) ws) (k : key ≡ sid_key (service_in wide entry)) where
  components : ws ≡ take (component_bytes wide entry) (drop (sid_bytes wide + 1) entry)
  components =
      let n : length entry - (h + 1) ≡ component_bytes wide entry = omega (arith, w.long) in
      front ∙ (λ i. take (n i) (drop (e i + 1) entry))

  count : length pairs ≡ length (service_in wide entry).components
  unfolding service_in
  count =
      let f : ℕ = get_or entry (sid_bytes wide) 0 % 16 in
      let long : length ws ≡ 2 * f = ap (λ (xs : List ℕ). length xs) components ∙ simp (length-take, length-drop) (omega (arith, w.long)) in
      let half : length ws / 2 ≡ f = omega arith in
      ap (λ (xss : List (List ℕ)). length xss) p ∙ length-chunks 2 (length ws / 2) ws ∙ half ∙ sym (length_pairs f ws long) ∙ ap (λ (xs : List ℕ). length (pairs_of xs)) components

  word_is : (j : ℕ) → four_of pairs j ≡ component_word (service_in wide entry).components j
  unfolding service_in
  word_is j = ap (λ (xss : List (List ℕ)). four_of xss j) p ∙ four_is (length ws / 2) ws j refl ∙ ap (λ (xs : List ℕ). component_word (pairs_of xs) j) components

  pub words_are : (w0 w1 w2 : ℕ) → w0 ≡ four_of pairs 0 → w1 ≡ four_of pairs 1 → w2 ≡ four_of pairs 2
      → (key + length pairs * 2 ^ 40 + 2 ^ 48) ∷ w0 ∷ w1 ∷ w2 ∷ [] ≡ service_words (service_in wide entry) (length (service_in wide entry).components)
  unfolding sid_key service_words service_head
  words_are w0 w1 w2 f g m = (λ i. (k i + count i * 2 ^ 40 + 2 ^ 48) ∷ (f ∙ word_is 0) i ∷ (g ∙ word_is 1) i ∷ (m ∙ word_is 2) i ∷ [])

  -- a FIG has no more than fifteen components
  few : length pairs < 16
  few =
      let f : ℕ = get_or entry (sid_bytes wide) 0 % 16 in
      let long : length ws ≡ 2 * f = ap (λ (xs : List ℕ). length xs) components ∙ simp (length-take, length-drop) (omega (arith, w.long)) in
      omega (arith, ap (λ (xss : List (List ℕ)). length xss) p ∙ length-chunks 2 (length ws / 2) ws)

  pub shifted : (w0 w1 w2 : ℕ) → w0 ≡ four_of pairs 0 → w1 ≡ four_of pairs 1 → w2 ≡ four_of pairs 2
      → (key + length pairs * 1099511627776 % 18446744073709551616 + 281474976710656) ∷ w0 ∷ w1 ∷ w2 ∷ [] ≡ service_words (service_in wide entry) (length (service_in wide entry).components)
  shifted w0 w1 w2 f g m =
      let count : length pairs * 1099511627776 % 18446744073709551616 ≡ length pairs * 2 ^ 40 = omega (arith, few) in
      (λ i. (key + count i + 281474976710656) ∷ w0 ∷ w1 ∷ w2 ∷ []) ∙ words_are w0 w1 w2 f g m

-- ---- a service entered

sets_beyond : (vs xs beyond : List ℕ) (i : ℕ) → i + length vs ≤ length xs → sets (xs ++ beyond) i vs ≡ sets xs i vs ++ beyond
sets_beyond [] xs beyond i h = refl
sets_beyond (v ∷ vs) xs beyond i h =
    ap (λ (l : List ℕ). sets l (suc i) vs) (set-append_left xs beyond i v (omega arith)) ∙ sets_beyond vs (set xs i v) beyond (suc i) (omega (arith, length-set xs i v))

module _ (wide : Bool) (entry before : List ℕ) (long : length before ≡ 256) where
  abbrev s : Service
  s = service_in wide entry

  where_it_goes : (key : ℕ) (r : Answer ℕ) → KeyIs s key → PlaceFor key before r → (beyond : List ℕ) → r ≡ answered (place_for s (services_of (before ++ beyond)))
  where_it_goes key r k v beyond = v.is s k.sid k.is ∙ ap (λ (xs : List (Option Service)). answered (place_for s xs)) (sym (services_beyond before beyond long))

  pub left_out : (key : ℕ) → KeyIs s key → PlaceFor key before None → ServicePut wide entry before true before
  unfolding put
  left_out key k v = record { puts = λ subs beyond n. ap (λ (o : Option ℕ). put_at o s (entered (held subs (before ++ beyond)) n)) (is_none _ (where_it_goes key None k v beyond)) }

  pub entered_at : (key p : ℕ) (ys : List ℕ) → KeyIs s key → PlaceFor key before (Some p) → ys ≡ service_words s (length s.components) → ServicePut wide entry before false (put_mid (4 * p) (4 * p + 4 - 4 * p) before ys)
  unfolding put service_words
  entered_at key p ys k v e =
      let words : List ℕ = service_words s (length s.components) in
      let inside : p < 64 = v.inside in
      let fits : 4 * p + length words ≤ length before = omega arith in
      let size : 4 * p + 4 ≡ 4 * p + length words = omega arith in
      let put : put_mid (4 * p) (4 * p + 4 - 4 * p) before ys ≡ sets before (4 * p) words =
      part-put (4 * p) (4 * p + 4) before ys (omega arith) ∙ ap (λ (vs : List ℕ). take (4 * p) before ++ (vs ++ drop (4 * p + 4) before)) e
      ∙ ap (λ (m : ℕ). take (4 * p) before ++ (words ++ drop m before)) size ∙ sym (append_assoc (take (4 * p) before) words (drop (4 * p + length words) before)) ∙ sym (sets-eq words before (4 * p) fits) in
      record {
        puts =
            λ subs beyond n. ap (λ (o : Option ℕ). put_at o s (entered (held subs (before ++ beyond)) n)) (is_some _ p (where_it_goes key (Some p) k v beyond))
            ∙ ap (λ (xs : List ℕ). entered (held subs xs) n) (sets_beyond words before beyond (4 * p) fits ∙ ap (λ (xs : List ℕ). xs ++ beyond) (sym put))
            ∙ ap (entered (held subs (put_mid (4 * p) (4 * p + 4 - 4 * p) before ys ++ beyond))) (omega arith);
      }

-- what is left of the entries makes of the numbers what all of them make of those before
pub record Entering (wide : Bool) (body old rest now : List ℕ) (left : ℕ) : Type 0 where
  pub few : left + length rest ≤ length body
  pub puts : (subs beyond : List ℕ) (n : ℕ) → put_all (services wide body) (entered (held subs (old ++ beyond)) n) ≡ put_all (services wide rest) (entered (held subs (now ++ beyond)) (n + left))

module _ {wide : Bool} {body old rest now : List ℕ} {left : ℕ} (v : Entering wide body old rest now left) where
  pub next_entry : (entry behind after : List ℕ) (r : Bool) (m : ℕ) → m ≡ bool_byte r → FirstOf wide rest entry behind → ServicePut wide entry now r after → Entering wide body old behind after (left + m)
  unfolding put_all
  next_entry entry behind after r m e f p =
      record {
        few = omega (arith, v.few, f.lengths, one r, f.whole.long);
        puts =
            λ subs beyond n. v.puts subs beyond n ∙ ap (λ (es : List Entry). put_all es (entered (held subs (now ++ beyond)) (n + left))) f.entries
            ∙ ap (put_all (services wide behind)) (p.puts subs beyond (n + left) ∙ ap (entered (held subs (after ++ beyond))) (same n r ∙ ap (λ (k : ℕ). n + (left + k)) (sym e)));
      }
    where
      one : (r : Bool) → bool_byte r ≤ 1
      one true = omega arith
      one false = omega arith

      same : (n : ℕ) (r : Bool) → n + left + pick_n r 1 0 ≡ n + (left + bool_byte r)
      same n true = omega arith
      same n false = omega arith

  pub no_more : NoneLeft wide rest → ServicesRead wide body old left now
  unfolding put_all
  no_more e = record { few = omega (arith, v.few); puts = λ subs beyond n. v.puts subs beyond n ∙ ap (λ (es : List Entry). put_all es (entered (held subs (now ++ beyond)) (n + left))) e.is }
