-- Feeding a symbol: from the handler's answer to a number and to figures in their places.
-- Assumes nothing.
use mathlib.Core.Path.{◌≡◌, refl, sym, ap, ◌∙◌, subst}
use mathlib.Core.Bool.{false, true≢false}
use mathlib.Core.List.{List, [], ◌∷◌}
use Prim.Native.Nat.{ℕ, suc, ◌≤◌}
use native.Mathlib.Omega.{arith}
use borrow.Author.Tests.{le-ltb}
use lib.Dec.{ltb}
use lib.ListN.{length, drop, set}
use lib.IntN.{ℤ}
use lib.Ieee.{Float}
use Rattle.spec_en300401.specs.Interleaving.{symbol_bits}
use Rattle.std.specs.Prelude.{Result, Ok, ◌==◌}
use Rattle.refusal.specs.Outcome.{outcome, told, unless_refused, number_of, numbered, check, or_else, first_of}
use Rattle.refusal.proofs.Laws.{or_other, first-append, done_by, untouched_by, done_of, untouched_of}
use Rattle.refusal.proofs.Told.{numbered-positive, ok-number, ok-value}
use Rattle.refusal.specs.declared.Refusal.{Refusal}
use Rattle.msc_state.specs.declared.State.{State}
use Rattle.msc_state.specs.States.{bad_state, is_too_short, feed_refusal}
use Rattle.msc_handler.specs.declared.Answer.{Answer}
use Rattle.msc_handler.specs.declared.Answer.TheVariants.{Waiting, Frame, Refused}
use Rattle.msc_handler.specs.declared.Fed.{Fed}
use Rattle.msc_handler.specs.Promises.{said_of, Buffers, lengths_of, refusal_in, FeedPromise}
use Rattle.msc_handler.proofs.Feeding.{fed-refuses, fed-number}
use Rattle.c_description.specs.Places.{short, Wrote}
use Rattle.c_state.specs.Numbers.{numbers_of, state_in, out_of_range, state_put, state_checks, state_refusal}
use Rattle.c_state.proofs.Numbers.{long_enough}
use Rattle.c_msc.specs.Msc.{feed_number, number_fed, FedPlaces, fed_places, bytes_in, percent_put, FeedUntouched, FeedWritten, FeedCall}

-- a place for the length, and one for the percentage
pub record Room (f : FedPlaces) : Type 0 where
  pub length_place : 1 ≤ length f.lengths
  pub percent_place : 1 ≤ length f.percents

-- ---- the number of a call

module _ (soft : List ℤ) (b : Buffers) (f : FedPlaces) where
  abbrev s : State
  s = state_in f.state

  -- the checks of the buffers and of the symbol
  abbrev buffers_are : List ℕ
  buffers_are = check 8 (is_too_short s.channel.description (lengths_of b)) ∷ check 9 (ltb (length soft) symbol_bits) ∷ []

  -- all checks after those of the numbers
  abbrev rest : ℕ
  rest = or_else (check 10 (bad_state s)) (first_of (short 1 (length f.lengths) ∷ short 1 (length f.percents) ∷ buffers_are))

  numbers-first : number_fed soft b f ≡ or_else (state_refusal f.state) rest
  unfolding feed_number state_refusal
  numbers-first = first-append (state_checks f.state) (check 10 (bad_state s) ∷ short 1 (length f.lengths) ∷ short 1 (length f.percents) ∷ buffers_are)

  -- both places are there: the handler's own refusal
  rest_none : Room f → rest ≡ refusal_in s soft b
  unfolding feed_refusal
  rest_none r = rw (le-ltb _ _ r.length_place, le-ltb _ _ r.percent_place) refl

  number_is : state_refusal f.state ≡ 0 → Room f → number_fed soft b f ≡ refusal_in s soft b
  number_is none r = numbers-first ∙ or_other (state_refusal f.state) rest none ∙ rest_none r

-- a call that nothing refuses
pub feed_taken : (soft : List ℤ) (b : Buffers) (f : FedPlaces) → 11 ≤ length f.state → out_of_range f.state ≡ false → 1 ≤ length f.lengths → 1 ≤ length f.percents → refusal_in (state_in f.state) soft b ≡ 0 → number_fed soft b f ≡ 0
unfolding state_refusal
feed_taken soft b f long ranged some one none =
    let sound : state_refusal f.state ≡ 0 = rw (le-ltb (length f.state) 11 long, ranged) refl in
    number_is soft b f sound (record { length_place = some; percent_place = one }) ∙ none

-- ---- the handler's answer, told

not_empty : {A : Type 0} (xs : List A) → false ≡ (length xs == 0) → 1 ≤ length xs
not_empty [] e = absurd (true≢false (sym e))
not_empty (x ∷ xs) e = omega arith

put_first : {A : Type 0} (x : A) (xs : List A) → 1 ≤ length xs → set xs 0 x ≡ x ∷ drop 1 xs
put_first x [] h = absurd (omega arith)
put_first x (y ∷ ys) h = refl

-- a state was read, and there is room for the length and the percentage
module _ {soft : List ℤ} {b : Buffers} (f : FedPlaces) {s : State} (read : Result State Refusal) (e : told read ≡ outcome (state_refusal f.state) (state_in f.state)) (o : read ≡ Ok s)
    (l : false ≡ (length f.lengths == 0)) (q : false ≡ (length f.percents == 0)) {r : Fed} {b' : Buffers} (p : FeedPromise s soft b r b') where
  none : state_refusal f.state ≡ 0
  none = ok-number (state_refusal f.state) (state_in f.state) e o

  room : Room f
  room = record { length_place = not_empty f.lengths l; percent_place = not_empty f.percents q }

  promised : FeedPromise (state_in f.state) soft b r b'
  promised = subst (λ (t : State). FeedPromise t soft b r b') (ok-value (state_refusal f.state) (state_in f.state) e o) p

  same : number_of (said_of r.answer) ≡ number_fed soft b f
  same = fed-number (state_in f.state) soft b promised ∙ sym (number_is soft b f none room)

  pub fed_refused : (x : Refusal) → r.answer ≡ Refused x → FeedCall soft b f (numbered x) b' f
  fed_refused x a =
      let n : numbered x ≡ number_fed soft b f = sym (ap (λ (a : Answer). number_of (said_of a)) a) ∙ same in
      let one : number_fed soft b f ≡ 0 → ⊥ = λ z. numbered-positive x (n ∙ z) in
      record {
        answer = n;
        left =
            untouched_by (FeedWritten soft b f b' f) (FeedUntouched b f b' f) (number_fed soft b f) one
            (record { buffers_are = (fed-refuses (state_in f.state) soft b promised (λ z. one (number_is soft b f none room ∙ z))).1; places_are = refl });
      }

  -- a symbol that is taken: the state, the length and the percentage in their places
  module _ {state' : List ℕ} {k : ℕ} (w : Wrote (short 11 (length f.state)) 11 (numbers_of r.state) f.state state' k) where
    fed_done : {lengths' : List ℕ} {percents' : List Float} → number_of (said_of r.answer) ≡ 0 → lengths' ≡ bytes_in r.answer ∷ drop 1 f.lengths → percents' ≡ percent_put r.answer f.percents → FeedCall soft b f k b' (fed_places state' lengths' percents')
    fed_done {lengths'} {percents'} z m n =
        let f' = fed_places state' lengths' percents' in
        let long : short 11 (length f.state) ≡ 0 = rw (le-ltb (length f.state) 11 (long_enough f.state none)) refl in
        let taken : number_fed soft b f ≡ 0 = sym same ∙ z in
        record {
          answer = w.answer ∙ long ∙ sym taken;
          left =
              done_by (FeedWritten soft b f b' f') (FeedUntouched b f b' f') (number_fed soft b f) taken
              (record { fed = r; promise = promised; state_is = w.places ∙ ap (λ (n : ℕ). unless_refused n (state_put r.state f.state) f.state) long; lengths_are = m; percents_are = n });
        }

    pub fed_waits : {lengths' : List ℕ} {percents' : List Float} → r.answer ≡ Waiting → lengths' ≡ set f.lengths 0 0 → percents' ≡ f.percents → FeedCall soft b f k b' (fed_places state' lengths' percents')
    fed_waits a m n =
        fed_done (ap (λ (a : Answer). number_of (said_of a)) a) (m ∙ put_first 0 f.lengths room.length_place ∙ sym (ap (λ (a : Answer). bytes_in a ∷ drop 1 f.lengths) a))
        (n ∙ sym (ap (λ (a : Answer). percent_put a f.percents) a))

    pub fed_frames : {lengths' : List ℕ} {percents' : List Float} {bytes : ℕ} {quality : Float} → r.answer ≡ Frame bytes quality → lengths' ≡ set f.lengths 0 bytes → percents' ≡ set f.percents 0 quality → FeedCall soft b f k b' (fed_places state' lengths' percents')
    fed_frames {bytes = bytes} {quality} a m n =
        fed_done (ap (λ (a : Answer). number_of (said_of a)) a) (m ∙ put_first bytes f.lengths room.length_place ∙ sym (ap (λ (a : Answer). bytes_in a ∷ drop 1 f.lengths) a))
        (n ∙ put_first quality f.percents room.percent_place ∙ sym (ap (λ (a : Answer). percent_put a f.percents) a))

-- ---- what a caller may take of a call, by its answer

module _ {soft : List ℤ} {b : Buffers} {f : FedPlaces} {b' : Buffers} {f' : FedPlaces} where
  pub feed_done : FeedCall soft b f 0 b' f' → FeedWritten soft b f b' f'
  feed_done p = done_of (FeedWritten soft b f b' f') (FeedUntouched b f b' f') (number_fed soft b f) (sym p.answer) p.left

  pub feed_untouched : {n : ℕ} → FeedCall soft b f (suc n) b' f' → FeedUntouched b f b' f'
  feed_untouched p = untouched_of (FeedWritten soft b f b' f') (FeedUntouched b f b' f') (number_fed soft b f) (λ z. absurd (omega (arith, p.answer, z))) p.left
