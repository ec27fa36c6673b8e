-- What is looked up in a directory's numbers.
-- Assumes nothing.
use mathlib.Core.Path.{◌≡◌, refl, sym, ap, ap₂, ◌∙◌, subst}
use mathlib.Core.Bool.{Bool, true, false, cond}
use mathlib.Core.Logic.{◌⊎◌, inl, inr}
use mathlib.Core.List.{List, [], ◌∷◌, ◌++◌}
use mathlib.Core.Option.{Option, none, some}
use Prim.Native.Nat.{ℕ, ◌+◌, ◌*◌, ◌/◌, ◌%◌, ◌^◌, ◌-◌, ◌<◌, ◌≤◌, min}
use native.Mathlib.Omega.{arith}
use borrow.Author.Tests.{eq-eqb, le-ltb}
use lib.ListN.{length, get_or, replicate, take, drop, length-take, length-drop, length-append, length-replicate, get_or-replicate, get_or-append, get_or-eq_default}
use lib.Seq.{get_or-take, get_or-drop, get_or-append-add, ext_get_or}
use Rattle.std.specs.Prelude.{Option as Answer, Some, None, Ok, MatchOption, option_map}
use Rattle.std.specs.List.{slice_get, ItemBy}
use Rattle.std.proofs.lemmas.Bool.{cases_lt}
use Rattle.std.proofs.lemmas.Option.{MatchOption-at_some, MatchOption-at_none, slice_get-get_or, slice_get_past, slice_get_read}
use Rattle.refusal.specs.Outcome.{gives, outcome}
use Rattle.fec_protection.specs.declared.Description.{Description}
use Rattle.spec_en300401.specs.Directory.{places}
use Rattle.std.specs.Simd.{first_chunks}
use Rattle.laws.proofs.Chunks.{length-chunks, chunk_at}
use denote.Bor.{Bor}
use Rattle.laws.specs.Lists.{list_of, find}
use Rattle.laws.proofs.Lists.{length-list_of, list_of-at, find_at, find_none}
use Rattle.spec_en300401.specs.Organisation.{Service, primary_audio, audio_in}
use Rattle.fic_directory_places.specs.declared.ServiceEntry.{ServiceEntry}
use Rattle.fic_directory_places.specs.Places.{field, flag_at, sub_in, subs_of, service_at, services_of}
use Rattle.fic_directory_places.specs.Code.{component_count, component_at, FirstAudio}
use Rattle.fic_directory_places.specs.Promises.{answered, described, SubPromise, words_of, service_of, services_refusal, ServicePromise, audio_of, AudioPromise}

-- ---- a service's components

-- twelve words: the first n by their rule, the others 0
twelve_words : (f : ℕ → ℕ) (n : ℕ) (ws : List ℕ) → n ≤ 12 → length ws ≡ 12 → ((k : ℕ) → k < 12 → k < n → get_or ws k 0 ≡ f k) → ((k : ℕ) → k < 12 → n ≤ k → get_or ws k 0 ≡ 0) → ws ≡ words_of (list_of n f)
twelve_words f n ws h long each zeros =
    let all : length (list_of n f ++ replicate 12 0) ≡ n + 12 = length-append (list_of n f) (replicate 12 0) ∙ ap₂ (λ (a b : ℕ). a + b) (length-list_of n f) (length-replicate {A = ℕ} 12 0) in
    ext_get_or 0 ws (take 12 (list_of n f ++ replicate 12 0)) (long ∙ sym (length-take 12 (list_of n f ++ replicate 12 0) ∙ ap (min 12) all ∙ omega arith))
    (λ k l. go k (subst (λ (m : ℕ). k < m) long l) (cases_lt k n) ∙ sym (get_or-take 12 (list_of n f ++ replicate 12 0) k 0 (subst (λ (m : ℕ). k < m) long l)))
  where
    past : (k : ℕ) → k < 12 → n ≤ k → get_or (list_of n f ++ replicate 12 0) k 0 ≡ 0
    past k l g =
        let e : k ≡ length (list_of n f) + (k - n) = omega (arith, length-list_of n f) in
        ap (λ (m : ℕ). get_or (list_of n f ++ replicate 12 0) m 0) e ∙ get_or-append-add (list_of n f) (replicate 12 0) (k - n) 0 ∙ get_or-replicate {A = ℕ} 12 (k - n) 0 0 (omega arith)

    go : (k : ℕ) → k < 12 → (k < n) ⊎ (n ≤ k) → get_or ws k 0 ≡ get_or (list_of n f ++ replicate 12 0) k 0
    go k l (inl m) =
        each k l m ∙ sym (get_or-append (list_of n f) (replicate 12 0) 0 k (subst (λ (j : ℕ). k < j) (sym (length-list_of n f)) m) ∙ list_of-at n f 0 k m)
    go k l (inr m) = zeros k l m ∙ sym (past k l m)

-- n by their rule, before the zeros that stood there
pub zeros_behind : (f : ℕ → ℕ) (n : ℕ) (ws : List ℕ) → n ≤ 12 → length ws ≡ n → ((k : ℕ) → k < n → get_or ws k 0 ≡ f k) → ws ++ drop n (replicate 12 0) ≡ words_of (list_of n f)
zeros_behind f n ws h long each =
    twelve_words f n (ws ++ drop n (replicate 12 0)) h (length-append ws (drop n (replicate 12 0)) ∙ omega (arith, long, length-drop n (replicate {A = ℕ} 12 0), length-replicate {A = ℕ} 12 0))
    (λ k l m. get_or-append ws (drop n (replicate 12 0)) 0 k (subst (λ (j : ℕ). k < j) (sym long) m) ∙ each k m)
    (λ k l m. let p : k ≡ length ws + (k - n) = omega (arith, long) in
    ap (λ (j : ℕ). get_or (ws ++ drop n (replicate 12 0)) j 0) p ∙ get_or-append-add ws (drop n (replicate 12 0)) (k - n) 0 ∙ get_or-drop n (replicate 12 0) (k - n) 0 ∙ get_or-replicate {A = ℕ} 12 (n + (k - n)) 0 0 (omega arith))

-- a marked service
pub service_there : (xs ws : List ℕ) (n : ℕ) → (get_or xs 0 0 / 2 ^ 48 % 2 ≡ 0 → ⊥) → n ≡ component_count (get_or xs 0 0) → ws ≡ words_of (list_of n (component_at xs 0))
    → ◌≡◌ {A = Answer ServiceEntry} (Some (record { wide = flag_at (get_or xs 0 0) 32; sid = get_or xs 0 0 % 2 ^ 32; count = n; words = ws })) (service_of (service_at xs 0))
unfolding service_at
service_there xs ws n there e w =
    let head : ℕ = get_or xs 0 0 in
    let one : head / 2 ^ 48 % 2 ≡ 1 = omega arith in
    let m : ℕ = component_count head in
    let count : n ≡ length (list_of m (component_at xs 0)) = e ∙ sym (length-list_of m (component_at xs 0)) in
    let words : ws ≡ words_of (list_of m (component_at xs 0)) = w ∙ ap (λ (j : ℕ). words_of (list_of j (component_at xs 0))) e in
    let sid : head % 2 ^ 32 ≡ field head 0 32 = omega arith in
    rw (eq-eqb (head / 2 ^ 48 % 2) 1 one) (λ i. Some (record { wide = flag_at head 32; sid = sid i; count = count i; words = words i }))

-- ---- its audio

-- the SubChId of a component that was found
abbrev sub_of : Option ℕ → Option ℕ
sub_of none = none
sub_of (some w) = some (w / 4 % 64)

audio_is : (ws : List ℕ) → audio_in ws ≡ sub_of (find primary_audio ws)
unfolding audio_in find
audio_is [] = refl
audio_is (w ∷ ws) = go (primary_audio w) (audio_is ws)
  where
    go : (b : Bool) → audio_in ws ≡ sub_of (find primary_audio ws) → cond b (some (w / 4 % 64)) (audio_in ws) ≡ sub_of (cond b (some w) (find primary_audio ws))
    go true e = refl
    go false e = e

-- what std's `find` says of a range that begins at 0
pub from_zero : (hit miss : ℕ → Type 0) (n : ℕ) (r : Answer ℕ) → MatchOption r ((k : ℕ) → 0 ≤ k → k < n → miss k) (λ k. (0 ≤ k) × (k < n) × hit k × ((q : ℕ) → 0 ≤ q → q < k → miss q))
    → MatchOption r ((k : ℕ) → k < n → miss k) (λ k. (k < n) × hit k × ((q : ℕ) → q < k → miss q))
from_zero hit miss n None m = λ k h. m k (omega arith) h
from_zero hit miss n (Some k) m = (m.1, m.2, λ q h. m.3 q (omega arith) h)

-- the SubChId of the first component that is primary audio
audio_found : (f : ℕ → ℕ) (n : ℕ) (r : Answer ℕ) → FirstAudio f n r → option_map (λ k. f k / 4 % 64) r ≡ answered (audio_in (list_of n f))
audio_found f n None a =
    sym (ap answered (audio_is (list_of n f) ∙ ap sub_of (find_none primary_audio 0 (list_of n f) (λ k l. let h : k < n = omega (arith, length-list_of n f) in ap primary_audio (list_of-at n f 0 k h) ∙ a.found k h))))
audio_found f n (Some k) a =
    let h : k < n = a.found.0 in
    let here : get_or (list_of n f) k 0 ≡ f k = list_of-at n f 0 k h in
    let first : find primary_audio (list_of n f) ≡ some (get_or (list_of n f) k 0) =
    find_at primary_audio 0 (list_of n f) k (omega (arith, length-list_of n f)) (λ q l. let m : q < n = omega arith in ap primary_audio (list_of-at n f 0 q m) ∙ a.found.2 q l) (ap primary_audio here ∙ a.found.1) in
    sym (ap answered (audio_is (list_of n f) ∙ ap sub_of first ∙ ap (λ (w : ℕ). some (w / 4 % 64)) here))

pub audio_there : (xs : List ℕ) (n : ℕ) (o r : Answer ℕ) → (get_or xs 0 0 / 2 ^ 48 % 2 ≡ 0 → ⊥) → n ≡ component_count (get_or xs 0 0) → FirstAudio (component_at xs 0) n o → r ≡ option_map (λ k. component_at xs 0 k / 4 % 64) o → r ≡ audio_of (service_at xs 0)
unfolding service_at
audio_there xs n o r there e a f =
    let one : get_or xs 0 0 / 2 ^ 48 % 2 ≡ 1 = omega arith in
    let found : r ≡ answered (audio_in (list_of (component_count (get_or xs 0 0)) (component_at xs 0))) =
    f ∙ audio_found (component_at xs 0) n o a ∙ ap (λ (j : ℕ). answered (audio_in (list_of j (component_at xs 0)))) e in
    rw (eq-eqb (get_or xs 0 0 / 2 ^ 48 % 2) 1 one) found

-- ---- a place

-- what `get` finds
pub looked_up : {R X : Type 0} (now : R → X) (xs : List X) (i : ℕ) (r : Answer R) → ItemBy now xs i i r → option_map now r ≡ slice_get xs i
looked_up now xs i None l = sym (slice_get_past xs i l.3)
looked_up now xs i (Some x) l = sym (slice_get_read xs (length xs) i (now x) refl l.3.0 l.1)

-- the sub-channel of an id below 64, and none of another
pub sub_found : (subs : List ℕ) (id : ℕ) (o : Answer ℕ) (r : Answer Description) → 64 ≤ length subs → o ≡ slice_get (take 64 subs) id → MatchOption o (r ≡ None) (λ w. r ≡ described (sub_in w)) → SubPromise subs id (Ok r)
unfolding subs_of
sub_found subs id o r h e m = record { answer = (ap gives (by (cases_lt id 64))) ∙ sym (ap (λ (b : Bool). outcome (cond b 12 0) (described (get_or (subs_of subs) id none))) (le-ltb (length subs) 64 h)) }
  where
    by : (id < 64) ⊎ (64 ≤ id) → r ≡ described (get_or (subs_of subs) id none)
    by (inl l) =
        let there : o ≡ Some (get_or subs id 0) = e ∙ slice_get-get_or (take 64 subs) id 0 (omega (arith, length-take 64 subs)) ∙ ap Some (get_or-take 64 subs id 0 l) in
        MatchOption-at_some (r ≡ None) (λ w. r ≡ described (sub_in w)) _ there m
        ∙ ap described (sym (list_of-at places (λ (p : ℕ). sub_in (get_or subs p 0)) none id l))
    by (inr l) =
        let past : o ≡ None = e ∙ slice_get_past (take 64 subs) id (omega (arith, length-take 64 subs)) in
        MatchOption-at_none (r ≡ None) (λ w. r ≡ described (sub_in w)) past m
        ∙ ap described (sym (get_or-eq_default (subs_of subs) none (omega (arith, length-list_of places (λ (p : ℕ). sub_in (get_or subs p 0))))))

-- the services of two lists are the same where the four numbers are
list_of-same : (n : ℕ) (f g : ℕ → ℕ) → ((k : ℕ) → k < n → f k ≡ g k) → list_of n f ≡ list_of n g
list_of-same n f g e =
    ext_get_or 0 (list_of n f) (list_of n g) (length-list_of n f ∙ sym (length-list_of n g))
    (λ k l. let h : k < n = omega (arith, length-list_of n f) in list_of-at n f 0 k h ∙ e k h ∙ sym (list_of-at n g 0 k h))

pub same_service : (xs ys : List ℕ) (i j : ℕ) → ((k : ℕ) → k < 4 → get_or ys (j + k) 0 ≡ get_or xs (i + k) 0) → service_at ys j ≡ service_at xs i
unfolding service_at
same_service xs ys i j e =
    let first : get_or ys j 0 ≡ get_or xs i 0 = ap (λ (n : ℕ). get_or ys n 0) (omega arith) ∙ e 0 (omega arith) ∙ ap (λ (n : ℕ). get_or xs n 0) (omega arith) in
    let m : ℕ = component_count (get_or xs i 0) in
    let others : list_of m (component_at ys j) ≡ list_of m (component_at xs i) =
    list_of-same m (component_at ys j) (component_at xs i)
    (λ k h. ap (λ (w : ℕ). field w (16 * (k % 4)) 16) (ap (λ (n : ℕ). get_or ys n 0) (omega arith) ∙ e (1 + k / 4) (omega arith) ∙ ap (λ (n : ℕ). get_or xs n 0) (omega arith))) in
    (λ t. cond (flag_at (first t) 48) (some (record { wide = flag_at (first t) 32; sid = field (first t) 0 32; components = list_of (component_count (first t)) (component_at ys j) })) none)
    ∙ ap (λ (cs : List ℕ). cond (flag_at (get_or xs i 0) 48) (some (record { wide = flag_at (get_or xs i 0) 32; sid = field (get_or xs i 0) 0 32; components = cs })) none) others

-- what is said of the service of a place below 64, and of none at another
module _ {X : Type 0} (g : Option Service → Answer X) (absent : g none ≡ None) where
  place_found : (services : List ℕ) (place : ℕ) (fours : List (List ℕ)) (o : Answer (Bor (List ℕ))) (r : Answer X) → 256 ≤ length services → fours ≡ first_chunks 4 64 (take 256 services) → ItemBy (λ (x : Bor (List ℕ)). x.now) fours place place o
      → MatchOption o (r ≡ None) (λ x. r ≡ g (service_at x.now 0)) → gives r ≡ outcome (services_refusal (length services)) (g (get_or (services_of services) place none))
  unfolding services_of
  place_found services place fours o r h f l m = (ap gives (by o l m (cases_lt place 64))) ∙ sym (ap (λ (b : Bool). outcome (cond b 12 0) (g (get_or (services_of services) place none))) (le-ltb (length services) 256 h))
    where
      long : length fours ≡ 64
      long = ap (λ (xss : List (List ℕ)). length xss) f ∙ length-chunks 4 64 (take 256 services)

      by : (o : Answer (Bor (List ℕ))) → ItemBy (λ (x : Bor (List ℕ)). x.now) fours place place o → MatchOption o (r ≡ None) (λ x. r ≡ g (service_at x.now 0)) → (place < 64) ⊎ (64 ≤ place) → r ≡ g (get_or (services_of services) place none)
      by None l m (inl k) = absurd (omega (arith, l.3, long))
      by None l m (inr k) = m ∙ sym absent ∙ ap g (sym (get_or-eq_default (services_of services) none (omega (arith, length-list_of places (λ (p : ℕ). service_at services (4 * p))))))
      by (Some x) l m (inl k) =
          let now : x.now ≡ take 4 (drop (4 * place) (take 256 services)) = l.1 ∙ ap (λ (xss : List (List ℕ)). get_or xss place x.now) f ∙ chunk_at 4 64 (take 256 services) place x.now k in
          let same : service_at x.now 0 ≡ service_at services (4 * place) =
          same_service services x.now (4 * place) 0
          (λ j q. ap (λ (xs : List ℕ). get_or xs (0 + j) 0) now ∙ get_or-take 4 (drop (4 * place) (take 256 services)) (0 + j) 0 (omega arith) ∙ get_or-drop (4 * place) (take 256 services) (0 + j) 0 ∙ get_or-take 256 services (4 * place + (0 + j)) 0 (omega arith) ∙ ap (λ (n : ℕ). get_or services n 0) (omega arith)) in
          m ∙ ap g (same ∙ sym (list_of-at places (λ (p : ℕ). service_at services (4 * p)) none place k))
      by (Some x) l m (inr k) = absurd (omega (arith, l.3.0, long))

pub service_found : (services : List ℕ) (place : ℕ) (fours : List (List ℕ)) (o : Answer (Bor (List ℕ))) (r : Answer ServiceEntry) → 256 ≤ length services → fours ≡ first_chunks 4 64 (take 256 services) → ItemBy (λ (x : Bor (List ℕ)). x.now) fours place place o
    → MatchOption o (r ≡ None) (λ x. r ≡ service_of (service_at x.now 0)) → ServicePromise services place (Ok r)
service_found services place fours o r h f l m = record { answer = place_found service_of refl services place fours o r h f l m }

pub audio_heard : (services : List ℕ) (place : ℕ) (fours : List (List ℕ)) (o : Answer (Bor (List ℕ))) (r : Answer ℕ) → 256 ≤ length services → fours ≡ first_chunks 4 64 (take 256 services) → ItemBy (λ (x : Bor (List ℕ)). x.now) fours place place o
    → MatchOption o (r ≡ None) (λ x. r ≡ audio_of (service_at x.now 0)) → AudioPromise services place (Ok r)
audio_heard services place fours o r h f l m = record { answer = place_found audio_of refl services place fours o r h f l m }
