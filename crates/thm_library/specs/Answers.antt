-- Document 01, "What the receiver owes", for a caller of the library: what a call of feeding comes to.
use Rattle.std.specs.Prelude.{◌≡◌, List, ◌∷◌, ◌++◌, ℕ, ◌*◌, length, drop, Float}
use Rattle.fec_protection.specs.declared.Description.{Description}
use Rattle.spec_sender.specs.Msc.{Sender}
use Rattle.msc_state.specs.States.{state_after}
use Rattle.msc_handler.specs.Promises.{Buffers}
use Rattle.c_state.specs.Numbers.{state_in, state_put}
use Rattle.c_msc.specs.Msc.{FedPlaces, fed_places}

-- a call: the places of the state, the length and the percentage before and after it, the frame buffer before and after it, and its number
pub record Seen : Type 0 where
  pub places : FedPlaces
  pub frame : List ℕ
  pub number : ℕ
  pub places' : FedPlaces
  pub frame' : List ℕ

abbrev pub seen_of : Buffers → FedPlaces → ℕ → Buffers → FedPlaces → Seen
seen_of b f number b' f' = record { places = f; frame = b.frame; number = number; places' = f'; frame' = b'.frame }

-- the numbers of the state after a symbol, before the rest as it was
abbrev pub numbers_after : List ℕ → List ℕ
numbers_after xs = state_put (state_after (state_in xs)) xs

-- it waits: 0 is answered, the length is 0, and nothing else but the state's numbers is written
pub record Waited (c : Seen) : Type 0 where
  pub answer : c.number ≡ 0
  pub told : c.places' ≡ fed_places (numbers_after c.places.state) (0 ∷ drop 1 c.places.lengths) c.places.percents
  pub untouched : c.frame' ≡ c.frame

-- it writes a frame: 0 is answered, the length is 3 × bitrate, some percentage is told, and the frame stands at the front of its buffer; all else is as it was
pub record Written (d : Description) (bytes : List ℕ) (c : Seen) : Type 0 where
  pub percent : Float
  pub answer : c.number ≡ 0
  pub told : c.places' ≡ fed_places (numbers_after c.places.state) (3 * d.bitrate ∷ drop 1 c.places.lengths) (percent ∷ drop 1 c.places.percents)
  pub written : c.frame' ≡ bytes ++ drop (3 * d.bitrate) c.frame

-- frame r of the sender
abbrev pub WritesFrame : Description → Sender → ℕ → Seen → Type 0
WritesFrame d s r c = Written d (s.frames r) c

-- it answers 0: it waits, or writes some frame
pub data TakenIn (d : Description) (c : Seen) : Type 0 where
  waits : Waited c → TakenIn d c
  writes : (bytes : List ℕ) → length bytes ≡ 3 * d.bitrate → Written d bytes c → TakenIn d c

-- two calls write one frame and tell one percentage
pub record SameWritten (d : Description) (c c₂ : Seen) : Type 0 where
  pub bytes : List ℕ
  pub size : length bytes ≡ 3 * d.bitrate
  pub first : Written d bytes c
  pub second : Written d bytes c₂
  pub percent_one : first.percent ≡ second.percent
