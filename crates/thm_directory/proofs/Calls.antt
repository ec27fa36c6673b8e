-- Reading FIBs and then others is reading all of them.
-- Assumes nothing.
use mathlib.Core.Path.{◌≡◌, refl, sym, ap, ap₂, ◌∙◌}
use mathlib.Core.Bool.{Bool, true, false, cond}
use mathlib.Core.List.{List, [], ◌∷◌, ◌++◌, append_assoc}
use mathlib.Core.Option.{Option, none, some}
use Prim.Native.Nat.{ℕ, zero, suc, ◌+◌, ◌*◌, ◌/◌, ◌%◌}
use native.Mathlib.Omega.{arith}
use borrow.Author.Tests.{ne_eqb}
use lib.Dec.{eqb}
use lib.ListN.{length, drop, length-append, length-drop}
use lib.Seq.{take-append-le, drop-append-le}
use Rattle.laws.specs.Words.{pick_n}
use Rattle.spec_en300401.specs.Fib.{field_of}
use Rattle.spec_en300401.specs.Organisation.{Service, Entry, sub_channel, service, entries_of}
use Rattle.spec_en300401.specs.Directory.{fibs_in, counted, broken_fibs, Broken, or_broken, first_broken, place_for}
use Rattle.fic_directory_places.specs.Places.{Held, services_of}
use Rattle.fic_directory.specs.Promises.{Entered, entered, put_at, put, put_all, fibs_of, entries_of_fibs, read_into, reading_of}
use Rattle.fic_directory.proofs.Figs.{all_append}
use Rattle.thm_directory.specs.Theorems.{ReadsOn, CallByCall}

-- ---- the FIBs of bytes behind whole FIBs

fibs_behind : (k : ℕ) (front back : List ℕ) (m : ℕ) → length front ≡ 32 * k → fibs_in (k + m) (front ++ back) ≡ fibs_in k front ++ fibs_in m back
unfolding fibs_in
fibs_behind zero [] back m e = let z : 0 + m ≡ m = omega arith in ap (λ (n : ℕ). fibs_in n back) z
fibs_behind zero (a ∷ front) back m e = absurd (omega arith)
fibs_behind (suc k) front back m e =
    let n : suc k + m ≡ suc (k + m) = omega arith in
    ap (λ (j : ℕ). fibs_in j (front ++ back)) n
    ∙ ap₂ (λ (f : List ℕ) (fs : List (List ℕ)). f ∷ fs) (take-append-le 32 front back (omega arith))
    (ap (fibs_in (k + m)) (drop-append-le 32 front back (omega arith)) ∙ fibs_behind k (drop 32 front) back m (omega (arith, length-drop 32 front)))

fibs-append : (front back : List ℕ) → length front % 32 ≡ 0 → fibs_of (front ++ back) ≡ fibs_of front ++ fibs_of back
fibs-append front back h =
    let n : length (front ++ back) / 32 ≡ length front / 32 + length back / 32 = ap (λ (k : ℕ). k / 32) (length-append front back) ∙ omega arith in
    ap (λ (k : ℕ). fibs_in k (front ++ back)) n ∙ fibs_behind (length front / 32) front back (length back / 32) (omega arith)

entries_append : (fs gs : List (List ℕ)) → entries_of_fibs (fs ++ gs) ≡ entries_of_fibs fs ++ entries_of_fibs gs
unfolding entries_of_fibs
entries_append [] gs = refl
entries_append (f ∷ fs) gs = ap (λ (es : List Entry). entries_of f ++ es) (entries_append fs gs) ∙ sym (append_assoc (entries_of f) (entries_of_fibs fs) (entries_of_fibs gs))

-- ---- what was left out before is only added

abbrev more : ℕ → Entered → Entered
more n e = entered e.numbers (n + e.left_out)

put_at_more : (n : ℕ) (o : Option ℕ) (s : Service) (e : Entered) → put_at o s (more n e) ≡ more n (put_at o s e)
put_at_more n none s e = ap (entered e.numbers) (omega arith)
put_at_more n (some p) s e = refl

put_more : (n : ℕ) (x : Entry) (e : Entered) → put x (more n e) ≡ more n (put x e)
unfolding put
put_more n (sub_channel id c) e = refl
put_more n (service s) e = put_at_more n (place_for s (services_of e.numbers.services)) s e

all_more : (n : ℕ) (xs : List Entry) (e : Entered) → put_all xs (more n e) ≡ more n (put_all xs e)
unfolding put_all
all_more n [] e = refl
all_more n (x ∷ xs) e = ap (put_all xs) (put_more n x e) ∙ all_more n xs (put x e)

-- ---- counts

brokens_append : (fs gs : List (List ℕ)) → broken_fibs (fs ++ gs) ≡ broken_fibs fs + broken_fibs gs
unfolding broken_fibs
brokens_append [] gs = omega arith
brokens_append (f ∷ fs) gs = omega (arith, brokens_append fs gs)

abbrev none-broken : Broken
none-broken = record { fib = 0; offset = 0 }

-- the first broken FIB, counted from i, where there is one
abbrev raised : ℕ → Broken → Broken
raised i b = record { fib = i + b.fib; offset = b.offset }

abbrev pick : ℕ → Broken → Broken → Broken
pick n a b = cond (eqb n 0) a b

first_raised : (i j : ℕ) (fs : List (List ℕ)) → first_broken (i + j) fs ≡ pick (broken_fibs fs) none-broken (raised i (first_broken j fs))
unfolding first_broken broken_fibs
first_raised i j [] = refl
first_raised i j (f ∷ fs) = go (field_of f).broken (first_raised i (suc j) fs)
  where
    one : suc (i + j) ≡ i + suc j
    one = omega arith

    go : (o : Option ℕ) → first_broken (i + suc j) fs ≡ pick (broken_fibs fs) none-broken (raised i (first_broken (suc j) fs)) → or_broken o (i + j) (first_broken (suc (i + j)) fs) ≡ pick (counted o + broken_fibs fs) none-broken (raised i (or_broken o j (first_broken (suc j) fs)))
    go none r = ap (λ (n : ℕ). first_broken n fs) one ∙ r ∙ ap (λ (n : ℕ). pick n none-broken (raised i (first_broken (suc j) fs))) (zero_more (broken_fibs fs))
      where
        zero_more : (n : ℕ) → n ≡ 0 + n
        zero_more n = omega arith
    go (some k) r = sym (ap (λ (b : Bool). cond b none-broken (raised i (record { fib = j; offset = k }))) (ne_eqb (1 + broken_fibs fs) 0 (λ z. omega arith)))

first-append : (i : ℕ) (fs gs : List (List ℕ)) → first_broken i (fs ++ gs) ≡ pick (broken_fibs fs) (first_broken (i + length fs) gs) (first_broken i fs)
unfolding first_broken broken_fibs
first-append i [] gs = let z : i ≡ i + 0 = omega arith in ap (λ (n : ℕ). first_broken n gs) z
first-append i (f ∷ fs) gs = go (field_of f).broken (first-append (suc i) fs gs)
  where
    one : suc i + length fs ≡ i + suc (length fs)
    one = omega arith

    go : (o : Option ℕ) → first_broken (suc i) (fs ++ gs) ≡ pick (broken_fibs fs) (first_broken (suc i + length fs) gs) (first_broken (suc i) fs) → or_broken o i (first_broken (suc i) (fs ++ gs)) ≡ pick (counted o + broken_fibs fs) (first_broken (i + suc (length fs)) gs) (or_broken o i (first_broken (suc i) fs))
    go none r =
        r
        ∙ (λ t. pick (zero_more (broken_fibs fs) t) (first_broken (one t) gs) (first_broken (suc i) fs))
      where
        zero_more : (n : ℕ) → n ≡ 0 + n
        zero_more n = omega arith
    go (some k) r = sym (ap (λ (b : Bool). cond b (first_broken (i + suc (length fs)) gs) (record { fib = i; offset = k })) (ne_eqb (1 + broken_fibs fs) 0 (λ z. omega arith)))

pub length-fibs : (n : ℕ) (back : List ℕ) → length (fibs_in n back) ≡ n
unfolding fibs_in
length-fibs zero back = refl
length-fibs (suc n) back = ap suc (length-fibs n (drop 32 back))

-- ---- together

module _ (front back : List ℕ) (h : Held) (whole : length front % 32 ≡ 0) where
  abbrev between : Held
  between = (read_into front h).numbers

  run : read_into (front ++ back) h ≡ more (read_into front h).left_out (read_into back between)
  run =
      ap (λ (fs : List (List ℕ)). put_all (entries_of_fibs fs) (entered h 0)) (fibs-append front back whole)
      ∙ ap (λ (es : List Entry). put_all es (entered h 0)) (entries_append (fibs_of front) (fibs_of back))
      ∙ all_append (entries_of_fibs (fibs_of front)) (entries_of_fibs (fibs_of back)) (entered h 0)
      ∙ ap (λ (n : ℕ). put_all (entries_of_fibs (fibs_of back)) (entered between n)) (zero_more (read_into front h).left_out)
      ∙ all_more (read_into front h).left_out (entries_of_fibs (fibs_of back)) (entered between 0)
    where
      zero_more : (n : ℕ) → n ≡ n + 0
      zero_more n = omega arith

  fibs_are : length (front ++ back) / 32 ≡ length front / 32 + length back / 32
  fibs_are = ap (λ (k : ℕ). k / 32) (length-append front back) ∙ omega arith

  brokens_are : broken_fibs (fibs_of (front ++ back)) ≡ broken_fibs (fibs_of front) + broken_fibs (fibs_of back)
  brokens_are = ap broken_fibs (fibs-append front back whole) ∙ brokens_append (fibs_of front) (fibs_of back)

  first-is : first_broken 0 (fibs_of (front ++ back)) ≡ pick (broken_fibs (fibs_of front)) (pick (broken_fibs (fibs_of back)) none-broken (raised (length front / 32) (first_broken 0 (fibs_of back)))) (first_broken 0 (fibs_of front))
  first-is =
      ap (first_broken 0) (fibs-append front back whole) ∙ first-append 0 (fibs_of front) (fibs_of back)
      ∙ ap (λ (n : ℕ). pick (broken_fibs (fibs_of front)) (first_broken n (fibs_of back)) (first_broken 0 (fibs_of front))) (count (length (fibs_of front)) (length-fibs (length front / 32) front))
      ∙ ap (λ (b : Broken). pick (broken_fibs (fibs_of front)) b (first_broken 0 (fibs_of front))) (first_raised (length front / 32) 0 (fibs_of back))
    where
      count : (n : ℕ) → n ≡ length front / 32 → 0 + n ≡ length front / 32 + 0
      count n e = omega arith

  fib_of_lem : (a b : Bool) (x y z : Broken) → (cond a (cond b x y) z).fib ≡ pick_n a (pick_n b x.fib y.fib) z.fib
  fib_of_lem true true x y z = refl
  fib_of_lem true false x y z = refl
  fib_of_lem false b x y z = refl

  offset_of : (a b : Bool) (x y z : Broken) → (cond a (cond b x y) z).offset ≡ pick_n a (pick_n b x.offset y.offset) z.offset
  offset_of true true x y z = refl
  offset_of true false x y z = refl
  offset_of false b x y z = refl

  reads_on : ReadsOn front back h
  unfolding reading_of
  reads_on =
      let a = eqb (broken_fibs (fibs_of front)) 0 in
      let b = eqb (broken_fibs (fibs_of back)) 0 in
      let late : Broken = raised (length front / 32) (first_broken 0 (fibs_of back)) in
      let f : (first_broken 0 (fibs_of (front ++ back))).fib ≡ pick_n a (pick_n b 0 late.fib) (first_broken 0 (fibs_of front)).fib = ap (λ (x : Broken). x.fib) first-is ∙ fib_of_lem a b none-broken late (first_broken 0 (fibs_of front)) in
      let o : (first_broken 0 (fibs_of (front ++ back))).offset ≡ pick_n a (pick_n b 0 late.offset) (first_broken 0 (fibs_of front)).offset = ap (λ (x : Broken). x.offset) first-is ∙ offset_of a b none-broken late (first_broken 0 (fibs_of front)) in
      record {
        numbers = ap (λ (e : Entered). e.numbers) run;
        reading = (λ i. record { fibs = fibs_are i; broken = brokens_are i; first_fib = f i; first_offset = o i; left_out = (run i).left_out });
      }

pub call_by_call : CallByCall
call_by_call front back h e = reads_on front back h e
