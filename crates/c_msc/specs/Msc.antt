-- docs/DECISIONS.md, "For C": what document 01's set-up, reset and feeding return and write with the state as eleven numbers, and 8 for too few of them.
use Rattle.std.specs.Prelude.{◌≡◌, List, [], ◌∷◌, ℕ, ltb, length, drop, ℤ, Float}
use Rattle.spec_en300401.specs.Interleaving.{symbol_bits}
use Rattle.refusal.specs.Outcome.{check, or_else, first_of, unless_refused}
use Rattle.fec_protection.specs.declared.Description.{Description}
use Rattle.msc_handler.specs.declared.Answer.{Answer}
use Rattle.msc_handler.specs.declared.Answer.TheVariants.{Waiting, Frame, Refused}
use Rattle.msc_handler.specs.declared.Fed.{Fed}
use Rattle.msc_handler.specs.Promises.{Buffers, lengths_of, FeedPromise}
use Rattle.msc_set_up.specs.Promises.{cleared}
use Rattle.msc_state.specs.States.{bad_state, is_too_short, fresh_state, set_up_refusal, reset_refusal}
use Rattle.c_description.specs.Places.{short}
use Rattle.c_state.specs.Numbers.{state_in, out_of_range, state_put}

-- refused by n with all as it was, or done: the ring's need filled with zeros, and a fresh state
pub record Readied (n : ℕ) (d : Description) (ring : List ℤ) (state : List ℕ) (number : ℕ) (ring' : List ℤ) (state' : List ℕ) : Type 0 where
  pub answer : number ≡ n
  pub ring_is : ring' ≡ unless_refused n (cleared d ring) ring
  pub state_is : state' ≡ unless_refused n (state_put (fresh_state d) state) state

-- set-up: 1 to 7, then 8, for the ring or for fewer than eleven places
unfoldable pub set_up_number : Description → ℕ → ℕ → ℕ
set_up_number d ring state = or_else (set_up_refusal d ring) (short 11 state)

abbrev pub SetUpCall : Description → List ℤ → List ℕ → ℕ → List ℤ → List ℕ → Type 0
SetUpCall d ring state number ring' state' = Readied (set_up_number d (length ring) (length state)) d ring state number ring' state'

-- reset: 8 under eleven numbers, of which no state can be read; 10; then 8 for the ring
unfoldable pub reset_number : List ℕ → ℕ → ℕ
reset_number state ring = first_of (short 11 (length state) ∷ check 10 (out_of_range state) ∷ reset_refusal (state_in state) ring ∷ [])

abbrev pub ResetCall : List ℕ → List ℤ → ℕ → List ℤ → List ℕ → Type 0
ResetCall state ring number ring' state' = Readied (reset_number state (length ring)) (state_in state).channel.description ring state number ring' state'

-- feeding: 8 under eleven numbers, of which no state can be read; 10; 8 with no place for the length or the percentage, or with a buffer too short; 9
unfoldable pub feed_number : List ℕ → List ℤ → Buffers → ℕ → ℕ → ℕ
feed_number state soft b lengths percents =
    first_of
    (short 11 (length state) ∷ check 10 (out_of_range state) ∷ check 10 (bad_state (state_in state)) ∷ short 1 lengths ∷ short 1 percents
    ∷ check 8 (is_too_short (state_in state).channel.description (lengths_of b)) ∷ check 9 (ltb (length soft) symbol_bits) ∷ [])

-- the places of a symbol's answer
pub record FedPlaces : Type 0 where
  pub state : List ℕ
  pub lengths : List ℕ
  pub percents : List Float

abbrev pub fed_places : List ℕ → List ℕ → List Float → FedPlaces
fed_places s l p = record { state = s; lengths = l; percents = p }

-- 0 where it waits, else the frame's bytes; and the percentage of a frame
abbrev pub bytes_in : Answer → ℕ
bytes_in Waiting = 0
bytes_in (Frame n p) = n
bytes_in (Refused n) = 0

abbrev pub percent_put : Answer → List Float → List Float
percent_put Waiting xs = xs
percent_put (Frame n p) xs = p ∷ drop 1 xs
percent_put (Refused n) xs = xs

-- refused: nothing changed
pub record FeedUntouched (b : Buffers) (f : FedPlaces) (b' : Buffers) (f' : FedPlaces) : Type 0 where
  pub buffers_are : b' ≡ b
  pub places_are : f' ≡ f

-- done: as the handler promises, and what it answers in its places
pub record FeedWritten (soft : List ℤ) (b : Buffers) (f : FedPlaces) (b' : Buffers) (f' : FedPlaces) : Type 0 where
  pub fed : Fed
  pub promise : FeedPromise (state_in f.state) soft b fed b'
  pub state_is : f'.state ≡ state_put fed.state f.state
  pub lengths_are : f'.lengths ≡ bytes_in fed.answer ∷ drop 1 f.lengths
  pub percents_are : f'.percents ≡ percent_put fed.answer f.percents

-- the number of a call
abbrev pub number_fed : List ℤ → Buffers → FedPlaces → ℕ
number_fed soft b f = feed_number f.state soft b (length f.lengths) (length f.percents)

pub record FeedCall (soft : List ℤ) (b : Buffers) (f : FedPlaces) (number : ℕ) (b' : Buffers) (f' : FedPlaces) : Type 0 where
  pub answer : number ≡ number_fed soft b f
  pub left : unless_refused (number_fed soft b f) (FeedWritten soft b f b' f') (FeedUntouched b f b' f')
