-- Where a service goes: the code's tests of a place's first number, and the lowest place that passes one.
-- Assumes nothing.
use mathlib.Core.Path.{◌≡◌, refl, sym, ap, ◌∙◌, subst}
use mathlib.Core.Bool.{Bool, true, false, cond, ◌&&◌}
use mathlib.Core.List.{List, [], ◌∷◌, ◌++◌}
use mathlib.Core.Option.{Option, none, some}
use Prim.Native.Nat.{ℕ, zero, suc, ◌+◌, ◌*◌, ◌/◌, ◌%◌, ◌^◌, ◌<◌}
use native.Mathlib.Omega.{arith}
use borrow.Author.Tests.{eq-eqb, ne_eqb, eqb-true, eqb-false}
use lib.Dec.{eqb}
use lib.ListN.{length, get_or, get_or-append}
use lib.Seq.{ext_get_or}
use Rattle.std.specs.Prelude.{Option as Answer, Some, None, MatchOption, IfSome}
use Rattle.laws.specs.Words.{pick_n}
use Rattle.laws.proofs.Lists.{length-list_of, list_of-at}
use Rattle.spec_en300401.specs.Organisation.{Service}
use Rattle.spec_en300401.specs.Directory.{places, is_service, is_free_place, first_place, or_first, place_for}
use Rattle.fic_directory_places.specs.Places.{service_at, services_of}
use Rattle.fic_directory_places.specs.Promises.{answered}
use Rattle.fic_directory_places.proofs.Looked.{same_service}
use Rattle.fic_directory.specs.Code.{sid_key, is_key, LowestPlace, PlaceFor}

-- ---- the tests

eqb_as : (a b c d : ℕ) → (a ≡ b → c ≡ d) → (c ≡ d → a ≡ b) → eqb a b ≡ eqb c d
eqb_as a b c d f g = go (eqb a b) refl
  where
    go : (t : Bool) → eqb a b ≡ t → eqb a b ≡ eqb c d
    go true e = e ∙ sym (eq-eqb c d (f (eqb-true a b e)))
    go false e = e ∙ sym (ne_eqb c d (λ q. eqb-false a b e (g q)))

-- of a place with the mark m, the width's bit b and the identifier a
module _ (sid a : ℕ) (cs ds : List ℕ) (small : sid < 2 ^ 32) (low : a < 2 ^ 32) where
  abbrev asked : Bool → Service
  asked wide = record { wide = wide; sid = sid; components = cs }

  abbrev there : ℕ → Bool → Option Service
  there b m = cond m (some (record { wide = eqb b 1; sid = a; components = ds })) none

  filled : (wide : Bool) (b : ℕ) → b < 2 → is_service (asked wide) (there b true) ≡ eqb (a + b * 2 ^ 32) (sid + pick_n wide 1 0 * 2 ^ 32)
  filled true zero hb = sym (ne_eqb (a + 0 * 2 ^ 32) (sid + 1 * 2 ^ 32) (λ e. omega arith))
  filled true (suc zero) hb = eqb_as sid a (a + 1 * 2 ^ 32) (sid + 1 * 2 ^ 32) (λ e. omega arith) (λ e. omega arith)
  filled true (suc (suc b)) hb = absurd (omega arith)
  filled false zero hb = eqb_as sid a (a + 0 * 2 ^ 32) (sid + 0 * 2 ^ 32) (λ e. omega arith) (λ e. omega arith)
  filled false (suc zero) hb = sym (ne_eqb (a + 1 * 2 ^ 32) (sid + 0 * 2 ^ 32) (λ e. omega arith))
  filled false (suc (suc b)) hb = absurd (omega arith)

  tested : (wide : Bool) (b : ℕ) (m : Bool) → b < 2 → is_service (asked wide) (there b m) ≡ m && eqb (a + b * 2 ^ 32) (sid + pick_n wide 1 0 * 2 ^ 32)
  tested wide b true hb = filled wide b hb
  tested wide b false hb = refl

low_bits : (w : ℕ) → w % 2 ^ 33 ≡ w / 1 % 2 ^ 32 + w / 2 ^ 32 % 2 * 2 ^ 32
low_bits w = omega arith

pub is-own : (s : Service) (xs : List ℕ) (i key : ℕ) → s.sid < 2 ^ 32 → key ≡ sid_key s → is_service s (service_at xs i) ≡ is_key key (get_or xs i 0)
unfolding service_at sid_key
is-own s xs i key h e =
    let w : ℕ = get_or xs i 0 in
    tested s.sid (w / 1 % 2 ^ 32) s.components _ h (omega arith) s.wide (w / 2 ^ 32 % 2) (eqb (w / 2 ^ 48 % 2) 1) (omega arith)
    ∙ (λ j. eqb (w / 2 ^ 48 % 2) 1 && eqb (sym (low_bits w) j) (sym e j))

pub is_free : (xs : List ℕ) (i : ℕ) → is_free_place (service_at xs i) ≡ eqb (get_or xs i 0 / 2 ^ 48 % 2) 0
unfolding service_at
is_free xs i = go (get_or xs i 0 / 2 ^ 48 % 2) _ (omega arith)
  where
    go : (m : ℕ) (s : Service) → m < 2 → is_free_place (cond (eqb m 1) (some s) none) ≡ eqb m 0
    go zero s h = refl
    go (suc zero) s h = refl
    go (suc (suc m)) s h = absurd (omega arith)

-- ---- the lowest place

module _ (f : Option Service → Bool) where
  first_none : (i : ℕ) (xs : List (Option Service)) → ((q : ℕ) → q < length xs → f (get_or xs q none) ≡ false) → first_place f i xs ≡ none
  unfolding first_place
  first_none i [] e = refl
  first_none i (x ∷ xs) e = ap (λ (b : Bool). cond b (some i) (first_place f (suc i) xs)) (e 0 (omega arith)) ∙ first_none (suc i) xs (λ q h. e (suc q) (omega arith))

  first_some : (i p : ℕ) (xs : List (Option Service)) → p < length xs → f (get_or xs p none) ≡ true → ((q : ℕ) → q < p → f (get_or xs q none) ≡ false) → first_place f i xs ≡ some (i + p)
  unfolding first_place
  first_some i p [] h t e = absurd (omega arith)
  first_some i zero (x ∷ xs) h t e = ap (λ (b : Bool). cond b (some i) (first_place f (suc i) xs)) t ∙ ap some (omega arith)
  first_some i (suc p) (x ∷ xs) h t e =
      ap (λ (b : Bool). cond b (some i) (first_place f (suc i) xs)) (e 0 (omega arith))
      ∙ first_some (suc i) p xs (omega arith) t (λ q l. e (suc q) (omega arith)) ∙ ap some (omega arith)

sixty_four : (xs : List ℕ) → length (services_of xs) ≡ 64
unfolding services_of
sixty_four xs = length-list_of places (λ (p : ℕ). service_at xs (4 * p))

place_is : (xs : List ℕ) (p : ℕ) → p < 64 → get_or (services_of xs) p none ≡ service_at xs (4 * p)
unfolding services_of
place_is xs p h = list_of-at places (λ (q : ℕ). service_at xs (4 * q)) none p h

-- a search by the code's test is one by the standard's
pub lowest : {answers : ℕ → Bool → Type 0} (test : ℕ → Bool) (f : Option Service → Bool) (xs : List ℕ) (r : Answer ℕ) → ((w : ℕ) (b : Bool) → answers w b → b ≡ test w) → ((i : ℕ) → f (service_at xs i) ≡ test (get_or xs i 0)) → LowestPlace answers xs r → r ≡ answered (first_place f 0 (services_of xs))
lowest {answers} test f xs r one same l = go r l.found
  where
    at : (p : ℕ) (b : Bool) → p < 64 → answers (get_or xs (4 * p) 0) b → f (get_or (services_of xs) p none) ≡ b
    at p b h a = ap f (place_is xs p h) ∙ same (4 * p) ∙ sym (one _ b a)

    go : (r : Answer ℕ) → MatchOption r ((p : ℕ) → p < 64 → answers (get_or xs (4 * p) 0) false) (λ p. (p < 64) × answers (get_or xs (4 * p) 0) true × ((q : ℕ) → q < p → answers (get_or xs (4 * q) 0) false))
        → r ≡ answered (first_place f 0 (services_of xs))
    go None m = ap answered (sym (first_none f 0 (services_of xs) (λ q h. at q false (omega (arith, sixty_four xs)) (m q (omega (arith, sixty_four xs))))))
    go (Some p) m =
        let e : 0 + p ≡ p = omega arith in
        ap Some (sym e) ∙ ap answered (sym (first_some f 0 p (services_of xs) (omega (arith, m.0, sixty_four xs)) (at p true m.0 m.1) (λ q h. at q false (omega (arith, m.0)) (m.2 q h))))

-- the lowest place is a place
below : (f : Option Service → Bool) (i : ℕ) (xs : List (Option Service)) → IfSome (answered (first_place f i xs)) (λ q. q < i + length xs)
unfolding first_place
below f i [] = tt
below f i (x ∷ xs) = go (f x) (first_place f (suc i) xs) (below f (suc i) xs)
  where
    go : (b : Bool) (o : Option ℕ) → IfSome (answered o) (λ q. q < suc i + length xs) → IfSome (answered (cond b (some i) o)) (λ q. q < i + suc (length xs))
    go true o h = omega arith
    go false none h = tt
    go false (some q) h = omega arith

-- its own place, or else the lowest free one
pub either : {key : ℕ} {xs : List ℕ} {answers : ℕ → Bool → Type 0} (own r : Answer ℕ) → LowestPlace answers xs own → ((s : Service) → s.sid < 2 ^ 32 → key ≡ sid_key s → own ≡ answered (first_place (is_service s) 0 (services_of xs)))
    → MatchOption own (r ≡ answered (first_place is_free_place 0 (services_of xs))) (λ p. r ≡ Some p) → PlaceFor key xs r
unfolding place_for
either {key} {xs} {answers} own r l f m = record { inside = inside own r l.found m; is = λ s h e. go own (first_place (is_service s) 0 (services_of xs)) (f s h e) m }
  where
    all_below : (o : Answer ℕ) → IfSome o (λ q. q < 0 + length (services_of xs)) → IfSome o (λ q. q < 64)
    all_below None h = tt
    all_below (Some q) h = omega (arith, sixty_four xs)

    inside : (own r : Answer ℕ) → MatchOption own ((p : ℕ) → p < 64 → answers (get_or xs (4 * p) 0) false) (λ p. (p < 64) × answers (get_or xs (4 * p) 0) true × ((q : ℕ) → q < p → answers (get_or xs (4 * q) 0) false))
        → MatchOption own (r ≡ answered (first_place is_free_place 0 (services_of xs))) (λ p. r ≡ Some p) → IfSome r (λ p. p < 64)
    inside None r l m = all_below r (subst (λ (o : Answer ℕ). IfSome o (λ q. q < 0 + length (services_of xs))) (sym m) (below is_free_place 0 (services_of xs)))
    inside (Some p) r l m = subst (λ (o : Answer ℕ). IfSome o (λ q. q < 64)) (sym m) l.0

    go : (own : Answer ℕ) (o : Option ℕ) → own ≡ answered o → MatchOption own (r ≡ answered (first_place is_free_place 0 (services_of xs))) (λ p. r ≡ Some p) → r ≡ answered (or_first o (first_place is_free_place 0 (services_of xs)))
    go None none e m = m
    go None (some q) e m = let z : ◌≡◌ {A = ℕ} 0 1 = cc in absurd (omega arith)
    go (Some p) none e m = let z : ◌≡◌ {A = ℕ} 0 1 = cc in absurd (omega arith)
    go (Some p) (some q) e m = m ∙ e

-- what an answer says of the standard's
pub is_none : (o : Option ℕ) → None ≡ answered o → o ≡ none
is_none none e = refl
is_none (some q) e = let z : ◌≡◌ {A = ℕ} 0 1 = cc in absurd (omega arith)

pub is_some : (o : Option ℕ) (p : ℕ) → Some p ≡ answered o → o ≡ some p
is_some none p e = let z : ◌≡◌ {A = ℕ} 0 1 = cc in absurd (omega arith)
is_some (some q) p e = let same : p ≡ q = cc in ap some (sym same)

-- and where the standard's answer is known
below_all : (f : Option Service → Bool) (xs : List ℕ) (q : ℕ) → first_place f 0 (services_of xs) ≡ some q → q < 64
below_all f xs q e = omega (arith, subst (λ (o : Option ℕ). IfSome (answered o) (λ p. p < 0 + length (services_of xs))) e (below f 0 (services_of xs)), sixty_four xs)

pub place-below : (s : Service) (xs : List ℕ) (q : ℕ) → place_for s (services_of xs) ≡ some q → q < 64
unfolding place_for
place-below s xs q e = go (first_place (is_service s) 0 (services_of xs)) (below_all (is_service s) xs) e
  where
    go : (o : Option ℕ) → ((p : ℕ) → o ≡ some p → p < 64) → or_first o (first_place is_free_place 0 (services_of xs)) ≡ some q → q < 64
    go none f e = below_all is_free_place xs q e
    go (some p) f e = f q e

-- ---- what is beyond the places is none of them

pub services_beyond : (xs beyond : List ℕ) → length xs ≡ 256 → services_of (xs ++ beyond) ≡ services_of xs
unfolding services_of
services_beyond xs beyond h =
    ext_get_or none (services_of (xs ++ beyond)) (services_of xs) (sixty_four (xs ++ beyond) ∙ sym (sixty_four xs))
    (λ p l. let m : p < 64 = omega (arith, sixty_four (xs ++ beyond)) in
    place_is (xs ++ beyond) p m ∙ same_service xs (xs ++ beyond) (4 * p) (4 * p) (λ k q. get_or-append xs beyond 0 (4 * p + k) (omega arith)) ∙ sym (place_is xs p m))
