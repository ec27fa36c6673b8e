-- The library's calls are those of the crates below it: a state that was written is the state that is read.
-- Assumes nothing.
use mathlib.Core.Path.{◌≡◌, refl, sym, ap, ◌∙◌, subst}
use mathlib.Core.List.{List, [], ◌∷◌}
use Prim.Native.Nat.{ℕ, ◌≤◌}
use native.Mathlib.Omega.{arith}
use lib.ListN.{length, length-take}
use lib.IntN.{ℤ}
use Rattle.refusal.specs.Outcome.{outcome, unless_refused, check, or_else}
use Rattle.refusal.proofs.Checks.{clean, zeroed, later}
use Rattle.refusal.proofs.Laws.{or_else-zero}
use Rattle.fec_protection.specs.declared.Description.{Description}
use Rattle.std.specs.Prelude.{Ok}
use Rattle.msc_state.specs.declared.State.{State}
use Rattle.msc_state.specs.States.{fresh_state, set_up_refusal, reset_refusal}
use Rattle.msc_state.proofs.Refusals.{Sound}
use Rattle.msc_set_up.specs.declared.SetUp.{SetUp}
use Rattle.msc_set_up.specs.Promises.{Prepared, cleared}
use Rattle.msc_handler.specs.Promises.{Buffers, refusal_in, turn_of, FeedPromise}
use Rattle.c_description.specs.Places.{short}
use Rattle.c_state.specs.Numbers.{state_in, out_of_range, state_put}
use Rattle.c_state.proofs.Numbers.{written_read, written-long}
use Rattle.c_msc.specs.Msc.{Readied, set_up_number, reset_number, FedPlaces, FeedWritten}
use Rattle.c_msc.proofs.FeedCalls.{feed_taken, feed_done, feed_untouched}
use Rattle.thm_msc.specs.Calls.{Held, held, Came, came, after, HeldCall, left_in, History, set_up as crate-set-up, reset as crate-reset, fed as crate-fed}
use Rattle.thm_msc.proofs.Accepting.{never_refused}
use Rattle.thm_msc.proofs.Fronts.{front_at, left_at, left-long}
use Rattle.thm_msc.proofs.Histories.{holds, state_sound}
use Rattle.thm_msc.proofs.Refused.{swapped, ring_swapped}
use Rattle.thm_library.specs.Calls.{Kept, KeptCall, Numbers, own, others, set_up_refused, reset_refused, feed_refused, LibraryHistory, set_up, reset, refused, fed}
use Rattle.thm_library.specs.Theorems.{LibraryNeverRefused}
use Rattle.thm_library.proofs.Numbers.{read_same, in_range}

-- what a caller of the crates would hold
abbrev pub held_of : Kept → Held
held_of h = held (state_in h.state) h.cif h.ring

-- ---- set-up and reset, by the number that was answered

abbrev pub done : Description → SetUp
done d = record { state = fresh_state d; answer = Ok tt }

pub prepared : {n : ℕ} {d : Description} {other : State} {ring ring' : List ℤ} → n ≡ 0 → ring' ≡ cleared d ring → Prepared n d other ring (done d) ring'
prepared {n} {d} {other} {ring} {ring'} z e =
    record {
      answer = ap (λ (m : ℕ). outcome m tt) (sym z);
      state = ap (λ (m : ℕ). unless_refused m (fresh_state d) other) (sym z);
      ring_is = e ∙ ap (λ (m : ℕ). unless_refused m (cleared d ring) ring) (sym z);
    }

module _ {n : ℕ} {d : Description} {ring : List ℤ} {state : List ℕ} {number : ℕ} {ring' : List ℤ} {state' : List ℕ} (p : Readied n d ring state number ring' state') where
  pub ring_by : ring' ≡ unless_refused number (cleared d ring) ring
  ring_by = p.ring_is ∙ ap (λ (m : ℕ). unless_refused m (cleared d ring) ring) (sym p.answer)

  pub state_by : state' ≡ unless_refused number (state_put (fresh_state d) state) state
  state_by = p.state_is ∙ ap (λ (m : ℕ). unless_refused m (state_put (fresh_state d) state) state) (sym p.answer)

pub set_up_none : (d : Description) (ring state : ℕ) → 0 ≡ set_up_number d ring state → set_up_refusal d ring ≡ 0
unfolding set_up_number
set_up_none d ring state e = zeroed (clean (set_up_refusal d ring ∷ short 11 state ∷ []) (ap (or_else (set_up_refusal d ring)) (or_else-zero (short 11 state)) ∙ sym e))

pub reset-none : (state : List ℕ) (ring : ℕ) → 0 ≡ reset_number state ring → reset_refusal (state_in state) ring ≡ 0
unfolding reset_number
reset-none state ring e = zeroed (later (later (clean (short 11 (length state) ∷ check 10 (out_of_range state) ∷ reset_refusal (state_in state) ring ∷ []) (sym e))))

-- ---- the calls, one by one

-- what was written is read
pub read_back : (s : State) (xs : List ℕ) {ys : List ℕ} → ys ≡ state_put s xs → state_in ys ≡ s
read_back s xs e = ap state_in e ∙ written_read s xs

put-long : (s : State) (xs : List ℕ) {ys : List ℕ} → ys ≡ state_put s xs → 11 ≤ length ys
put-long s xs e = subst (λ (zs : List ℕ). 11 ≤ length zs) (sym e) (written-long s xs)

-- after a refused call the same state is read
numbers-read : {kept given given' numbers : List ℕ} → Numbers kept given given' numbers → given' ≡ given → state_in numbers ≡ state_in kept
numbers-read {kept} {given} {given'} (own e) same = read_same (left_in given' kept) kept (left_at 0 11 given kept e given' same)
numbers-read others same = refl

numbers-long : {kept given given' numbers : List ℕ} → Numbers kept given given' numbers → 11 ≤ length kept → 11 ≤ length numbers
numbers-long {kept} {given} {given'} (own e) l = omega (arith, left-long given' kept)
numbers-long others l = l

module _ {d : Description} {h : Kept} {soft : List ℤ} {b : Buffers} {f : FedPlaces} {number : ℕ} {b' : Buffers} {f' : FedPlaces} (call : KeptCall d h soft b f number b' f') where
  pub same_state : state_in f.state ≡ state_in h.state
  same_state = read_same f.state h.state (front_at 0 11 f.state h.state call.state_kept)

-- a call that answers 0 is one of the handler's
module _ {d : Description} {h : Kept} {soft : List ℤ} {b : Buffers} {f : FedPlaces} {b' : Buffers} {f' : FedPlaces} (call : KeptCall d h soft b f 0 b' f') where
  pub wrote : FeedWritten soft b f b' f'
  wrote = feed_done call.promise

  pub in_crate : HeldCall d (held_of h) soft b wrote.fed b'
  in_crate = record { cif_kept = call.cif_kept; ring_kept = call.ring_kept; promise = subst (λ (s : State). FeedPromise s soft b wrote.fed b') (same_state call) wrote.promise }

  pub read-after : state_in f'.state ≡ wrote.fed.state
  read-after = read_back wrote.fed.state f.state wrote.state_is

pub as_crates : {d : Description} {h : Kept} {c : Came} → LibraryHistory d h c → History d (held_of h) c
as_crates {d} (set_up state cif ring ring' state' p) =
    subst (λ (s : State). History d (held s cif ring') (came [] [])) (sym (read_back (fresh_state d) state (state_by p)))
    (crate-set-up cif ring (done d) ring' (prepared (set_up_none d (length ring) (length state) p.answer) (ring_by p)) refl)
as_crates {d} (reset state cif ring ring' state' q p) =
    subst (λ (s : State). History d (held s cif ring') (came [] [])) (sym (read_back (fresh_state (state_in state).channel.description) state (state_by p)))
    (crate-reset (state_in state) cif ring (done (state_in state).channel.description) ring' q (prepared (reset-none state (length ring) p.answer) (ring_by p)) refl)
as_crates {d} {c = c} (refused {h} x (set_up_refused n e ring state ring' state' front numbers p)) =
    subst (λ (k : Held). History d k c) (λ t. held (sym (numbers-read numbers (state_by p)) t) h.cif (left_in (sym (ring_by p) t) h.ring)) (ring_swapped (as_crates x) ring front)
as_crates {d} {c = c} (refused {h} x (reset_refused n ring state ring' state' front numbers p)) =
    subst (λ (k : Held). History d k c) (λ t. held (sym (numbers-read numbers (state_by p)) t) h.cif (left_in (sym (ring_by p) t) h.ring)) (ring_swapped (as_crates x) ring front)
as_crates {d} {c = c} (refused {h} x (feed_refused n soft b f b' f' front-cif front-ring numbers p)) =
    let u = feed_untouched p in
    subst (λ (k : Held). History d k c) (λ t. held (sym (numbers-read numbers (ap (λ (q : FedPlaces). q.state) u.places_are)) t) (left_in (sym u.buffers_are t).cif h.cif) (left_in (sym u.buffers_are t).ring h.ring)) (swapped (as_crates x) b.cif b.ring front-cif front-ring)
as_crates {d} (fed {h} {c} soft b f b' f' x call) =
    subst (λ (s : State). History d (held s b'.cif b'.ring) (after (turn_of (state_in h.state) soft b) soft c)) (sym (read-after call)) (crate-fed soft b (wrote call).fed b' (as_crates x) (in_crate call))

-- ---- and none with its needed lengths is refused

eleven : {d : Description} {h : Kept} {c : Came} → LibraryHistory d h c → 11 ≤ length h.state
eleven {d} (set_up state cif ring ring' state' p) = put-long (fresh_state d) state (state_by p)
eleven (reset state cif ring ring' state' q p) = put-long (fresh_state (state_in state).channel.description) state (state_by p)
eleven (refused x (set_up_refused n e ring state ring' state' front numbers p)) = numbers-long numbers (eleven x)
eleven (refused x (reset_refused n ring state ring' state' front numbers p)) = numbers-long numbers (eleven x)
eleven (refused x (feed_refused n soft b f b' f' front-cif front-ring numbers p)) = numbers-long numbers (eleven x)
eleven (fed soft b f b' f' x call) = put-long (wrote call).fed.state f.state (wrote call).state_is

pub library_never_refused : LibraryNeverRefused
library_never_refused d h c fits x soft b f number b' f' full =
    let call = full.call in
    let same = same_state call in
    let y = as_crates x in
    let long : 11 ≤ length f.state = omega (arith, eleven x, ap length call.state_kept, length-take 11 f.state, length-take 11 h.state) in
    let option : (state_in f.state).channel.description.eep_option ≤ 255 = subst (λ (e : Description). e.eep_option ≤ 255) (sym (ap (λ (s : State). s.channel.description) same ∙ (holds d (held_of h) c y).channel.description)) fits in
    call.promise.answer
    ∙ feed_taken soft b f long (in_range f.state (subst Sound (sym same) (state_sound y)) option) full.length_place full.percent_place
    (ap (λ (s : State). refusal_in s soft b) same ∙ never_refused d (held_of h) c y soft b full.lengths full.long)
