-- Reading into numbers is reading into the directory that they are.
-- Assumes nothing.
use mathlib.Core.Path.{◌≡◌, refl, sym, ap, ◌∙◌, subst}
use mathlib.Core.List.{List, [], ◌∷◌, ◌++◌}
use mathlib.Core.Option.{Option, none, some}
use mathlib.Core.Bool.{cond}
use Prim.Native.Nat.{ℕ, suc, ◌+◌, ◌*◌, ◌/◌, ◌%◌, ◌^◌, ◌<◌, ◌≤◌, min}
use native.Mathlib.Omega.{arith}
use native.Mathlib.Decide.{ℕ_discrete}
use lib.ListN.{length, get_or, set, length-set}
use lib.Seq.{sets, get_or-set_same, get_or-set_other, ext_get_or, length-sets}
use Rattle.laws.specs.Lists.{list_of}
use Rattle.laws.proofs.Lists.{length-list_of, list_of-at}
use Rattle.spec_en300401.specs.Organisation.{SubChannel, Service, Entry, sub_channel, service, entries_of}
use Rattle.spec_en300401.specs.Directory.{places, Listed, place_for, put_at as listAt, enter, enter_all, read_all}
use Rattle.fic_directory_places.specs.Places.{field, flag_at, sub_word, sub_in, subs_of, service_head, component_word, service_words, service_at, services_of, directory_in}
use Rattle.fic_directory.specs.Promises.{Entered, entered, put_at, put, put_all, fibs_of, entries_of_fibs}
use Rattle.fic_directory.proofs.Found.{place-below}
use Rattle.thm_directory.specs.Theorems.{SubFits, ServiceFits, listed_in, ReadIsDirectory}
use Rattle.thm_directory.proofs.Packed.{sub_held, service-held}
use Rattle.thm_directory.proofs.Fits.{EntryFits, sub-fits, service-fits, AllFit, fit_none, fit_more, fibs_fit}

-- ---- one place written anew

subs-long : (xs : List ℕ) → length (subs_of xs) ≡ 64
unfolding subs_of
subs-long xs = length-list_of places (λ (p : ℕ). sub_in (get_or xs p 0))

services-long : (xs : List ℕ) → length (services_of xs) ≡ 64
unfolding services_of
services-long xs = length-list_of places (λ (p : ℕ). service_at xs (4 * p))

sub_at : (xs : List ℕ) (p : ℕ) → p < 64 → get_or (subs_of xs) p none ≡ sub_in (get_or xs p 0)
unfolding subs_of
sub_at xs p h = list_of-at places (λ (q : ℕ). sub_in (get_or xs q 0)) none p h

service-at : (xs : List ℕ) (p : ℕ) → p < 64 → get_or (services_of xs) p none ≡ service_at xs (4 * p)
unfolding services_of
service-at xs p h = list_of-at places (λ (q : ℕ). service_at xs (4 * q)) none p h

sub-set : (xs : List ℕ) (id : ℕ) (c : SubChannel) → SubFits c → id < 64 → 64 ≤ length xs → subs_of (set xs id (sub_word c)) ≡ set (subs_of xs) id (some c)
sub-set xs id c f h l =
    ext_get_or none (subs_of (set xs id (sub_word c))) (set (subs_of xs) id (some c)) (subs-long (set xs id (sub_word c)) ∙ sym (length-set (subs_of xs) id (some c) ∙ subs-long xs))
    (λ p m. go p (subst (λ (n : ℕ). p < n) (subs-long (set xs id (sub_word c))) m) (ℕ_discrete p id))
  where
    go : (p : ℕ) → p < 64 → Dec (p ≡ id) → get_or (subs_of (set xs id (sub_word c))) p none ≡ get_or (set (subs_of xs) id (some c)) p none
    go p m (yes e) =
        sub_at (set xs id (sub_word c)) p m ∙ ap (λ (q : ℕ). sub_in (get_or (set xs id (sub_word c)) q 0)) e ∙ ap sub_in (get_or-set_same xs id (sub_word c) 0 (omega arith)) ∙ sub_held c f
        ∙ sym (ap (λ (q : ℕ). get_or (set (subs_of xs) id (some c)) q none) e ∙ get_or-set_same (subs_of xs) id (some c) none (omega (arith, subs-long xs)))
    go p m (no e) =
        sub_at (set xs id (sub_word c)) p m ∙ ap sub_in (get_or-set_other xs id p (sub_word c) 0 e) ∙ sym (sub_at xs p m)
        ∙ sym (get_or-set_other (subs_of xs) id p (some c) none e)

-- a service's numbers leave those of other places as they were
other_number : (xs : List ℕ) (i a b c d k : ℕ) → (k ≡ i → ⊥) → (k ≡ suc i → ⊥) → (k ≡ suc (suc i) → ⊥) → (k ≡ suc (suc (suc i)) → ⊥) → get_or (sets xs i (a ∷ b ∷ c ∷ d ∷ [])) k 0 ≡ get_or xs k 0
other_number xs i a b c d k p q r s =
    get_or-set_other (set (set (set xs i a) (suc i) b) (suc (suc i)) c) (suc (suc (suc i))) k d 0 s ∙ get_or-set_other (set (set xs i a) (suc i) b) (suc (suc i)) k c 0 r
    ∙ get_or-set_other (set xs i a) (suc i) k b 0 q ∙ get_or-set_other xs i k a 0 p

module _ (xs : List ℕ) (p : ℕ) (s : Service) where
  abbrev new : List ℕ
  new = sets xs (4 * p) (service_words s (length s.components))

  untouched : (q j k : ℕ) → (q ≡ p → ⊥) → j < 4 → k ≡ 4 * q + j → get_or new k 0 ≡ get_or xs k 0
  unfolding service_words
  untouched q j k n h e =
      other_number xs (4 * p) (service_head s (length s.components)) (component_word s.components 0) (component_word s.components 1) (component_word s.components 2) k
      (λ t. n (omega arith)) (λ t. n (omega arith)) (λ t. n (omega arith)) (λ t. n (omega arith))

  abbrev word_of : List ℕ → ℕ → ℕ → ℕ
  word_of ys q k = get_or ys (4 * q + 1 + k / 4) 0 / 2 ^ (16 * (k % 4)) % 2 ^ 16

  other_words : (q m : ℕ) → (q ≡ p → ⊥) → m ≤ 12 → list_of m (word_of new q) ≡ list_of m (word_of xs q)
  other_words q m n h =
      ext_get_or 0 (list_of m (word_of new q)) (list_of m (word_of xs q)) (length-list_of m (word_of new q) ∙ sym (length-list_of m (word_of xs q)))
      (λ k l. go k (subst (λ (j : ℕ). k < j) (length-list_of m (word_of new q)) l))
    where
      go : (k : ℕ) → k < m → get_or (list_of m (word_of new q)) k 0 ≡ get_or (list_of m (word_of xs q)) k 0
      go k l =
          list_of-at m (word_of new q) 0 k l ∙ ap (λ (w : ℕ). w / 2 ^ (16 * (k % 4)) % 2 ^ 16) (untouched q (1 + k / 4) (4 * q + 1 + k / 4) n (omega arith) (omega arith))
          ∙ sym (list_of-at m (word_of xs q) 0 k l)

  abbrev made : ℕ → List ℕ → Option Service
  made w cs = cond (flag_at w 48) (some (record { wide = flag_at w 32; sid = field w 0 32; components = cs })) none

  other_service : (q : ℕ) → (q ≡ p → ⊥) → service_at new (4 * q) ≡ service_at xs (4 * q)
  unfolding service_at
  other_service q n =
      let h : get_or new (4 * q) 0 ≡ get_or xs (4 * q) 0 = untouched q 0 (4 * q) n (omega arith) (omega arith) in
      ap (λ (w : ℕ). made w (list_of (min 12 (field w 40 4)) (word_of new q))) h
      ∙ ap (made (get_or xs (4 * q) 0)) (other_words q (min 12 (field (get_or xs (4 * q) 0) 40 4)) n (omega arith))

  service-set : ServiceFits s → p < 64 → 256 ≤ length xs → services_of new ≡ set (services_of xs) p (some s)
  service-set f h l =
      ext_get_or none (services_of new) (set (services_of xs) p (some s)) (services-long new ∙ sym (length-set (services_of xs) p (some s) ∙ services-long xs))
      (λ q m. go q (subst (λ (n : ℕ). q < n) (services-long new) m) (ℕ_discrete q p))
    where
      go : (q : ℕ) → q < 64 → Dec (q ≡ p) → get_or (services_of new) q none ≡ get_or (set (services_of xs) p (some s)) q none
      go q m (yes e) =
          service-at new q m ∙ ap (λ (r : ℕ). service_at new (4 * r)) e ∙ service-held s xs (4 * p) f (omega arith)
          ∙ sym (ap (λ (r : ℕ). get_or (set (services_of xs) p (some s)) r none) e ∙ get_or-set_same (services_of xs) p (some s) none (omega (arith, services-long xs)))
      go q m (no e) =
          service-at new q m ∙ other_service q e ∙ sym (service-at xs q m) ∙ sym (get_or-set_other (services_of xs) p q (some s) none e)

-- ---- one entry

put-long : (x : Entry) (e : Entered) → (length (put x e).numbers.subs ≡ length e.numbers.subs) × (length (put x e).numbers.services ≡ length e.numbers.services)
unfolding put
put-long (sub_channel id c) e = (length-set e.numbers.subs id (sub_word c), refl)
put-long (service s) e = go (place_for s (services_of e.numbers.services))
  where
    go : (o : Option ℕ) → (length (put_at o s e).numbers.subs ≡ length e.numbers.subs) × (length (put_at o s e).numbers.services ≡ length e.numbers.services)
    go none = (refl, refl)
    go (some p) = (refl, length-sets e.numbers.services (4 * p) (service_words s (length s.components)))

put_same : {x : Entry} → EntryFits x → (e : Entered) → 64 ≤ length e.numbers.subs → 256 ≤ length e.numbers.services → listed_in (put x e) ≡ enter x (listed_in e)
unfolding put enter directory_in
put_same (sub-fits {id} {c} h f) e k l =
    (λ i. record { directory = record { subs = sub-set e.numbers.subs id c f h k i; services = services_of e.numbers.services }; left_out = e.left_out })
put_same (service-fits {s} f) e k l = go (place_for s (services_of e.numbers.services)) refl
  where
    go : (o : Option ℕ) → place_for s (services_of e.numbers.services) ≡ o
        → record { directory = record { subs = subs_of (put_at o s e).numbers.subs; services = services_of (put_at o s e).numbers.services }; left_out = (put_at o s e).left_out }
        ≡ listAt o s (record { directory = record { subs = subs_of e.numbers.subs; services = services_of e.numbers.services }; left_out = e.left_out })
    go none q = refl
    go (some p) q =
        (λ i. record { directory = record { subs = subs_of e.numbers.subs; services = service-set e.numbers.services p s f (place-below s e.numbers.services p q) l i }; left_out = e.left_out })

all_same : {xs : List Entry} → AllFit xs → (e : Entered) → 64 ≤ length e.numbers.subs → 256 ≤ length e.numbers.services → listed_in (put_all xs e) ≡ enter_all xs (listed_in e)
unfolding put_all enter_all
all_same fit_none e k l = refl
all_same (fit_more {x} {xs} f g) e k l =
    let n = put-long x e in
    all_same g (put x e) (omega (arith, n.0)) (omega (arith, n.1)) ∙ ap (enter_all xs) (put_same f e k l)

-- ---- FIB by FIB

pub enter-append : (xs ys : List Entry) (l : Listed) → enter_all (xs ++ ys) l ≡ enter_all ys (enter_all xs l)
unfolding enter_all
enter-append [] ys l = refl
enter-append (x ∷ xs) ys l = enter-append xs ys (enter x l)

read_all-is : (fs : List (List ℕ)) (l : Listed) → read_all fs l ≡ enter_all (entries_of_fibs fs) l
unfolding read_all entries_of_fibs enter_all
read_all-is [] l = refl
read_all-is (f ∷ fs) l = read_all-is fs (enter_all (entries_of f) l) ∙ sym (enter-append (entries_of f) (entries_of_fibs fs) l)

pub read_is_directory : ReadIsDirectory
read_is_directory bytes h b k l = all_same (fibs_fit (length bytes / 32) bytes b) (entered h 0) k l ∙ sym (read_all-is (fibs_of bytes) (listed_in (entered h 0)))
