-- Document 01, "What the receiver owes": any function that keeps the promise of feeding, and what a caller hands to it call by call.
use Rattle.std.specs.Prelude.{List, [], ◌∷◌, map, ℕ, ◌≤◌, length, ℤ}
use Rattle.spec_en300401.specs.Interleaving.{symbol_bits, cif_bits}
use Rattle.fec_protection.specs.declared.Description.{Description}
use Rattle.fec_protection.specs.Refusals.{depunctured_length}
use Rattle.msc_handler.specs.declared.Fed.{Fed}
use Rattle.msc_state.specs.declared.State.{State}
use Rattle.msc_state.specs.States.{values_of, ring_length, frame_length, steps_of}
use Rattle.msc_handler.specs.Promises.{Buffers, buffers, FeedPromise}
use Rattle.thm_msc.specs.Answers.{Call}
use Rattle.thm_msc.specs.Calls.{Held, held_after}
use Rattle.thm_msc.specs.Stream.{FedOn}

-- what one call brings beside what is held: a symbol and the five work buffers
pub record Brought : Type 0 where
  pub soft : List ℤ
  pub deinterleaved : List ℤ
  pub depunctured : List ℤ
  pub words : List ℕ
  pub bits : List ℕ
  pub frame : List ℕ

-- the caller's seven buffers then
abbrev pub handed : Held → Brought → Buffers
handed h w = buffers h.cif h.ring w.deinterleaved w.depunctured w.words w.bits w.frame

-- a function that feeds symbols: what it answers, and what it leaves of the buffers. It keeps the promise wherever its types hold what it is handed, and they hold what it leaves
pub record Feeder : Type 1 where
  pub answers : State → List ℤ → Buffers → Fed
  pub leaves : State → List ℤ → Buffers → Buffers
  pub holds : Held → Type 0
  pub takes : Brought → Type 0
  pub keeps : (h : Held) (w : Brought) → holds h → takes w → FeedPromise h.state w.soft (handed h w) (answers h.state w.soft (handed h w)) (leaves h.state w.soft (handed h w))
  pub stays : (h : Held) (w : Brought) → holds h → takes w → holds (held_after (answers h.state w.soft (handed h w)) (leaves h.state w.soft (handed h w)))

-- a call brings 3,072 values, and work buffers of their needed lengths
pub record BringsEnough (d : Description) (w : Brought) : Type 0 where
  pub symbol_long : symbol_bits ≤ length w.soft
  pub read_long : values_of d ≤ length w.deinterleaved
  pub soft_long : depunctured_length d ≤ length w.depunctured
  pub words_long : steps_of d.bitrate ≤ length w.words
  pub bits_long : steps_of d.bitrate ≤ length w.bits
  pub frame_long : frame_length d ≤ length w.frame

-- so does each of these calls, and the function takes it
pub data AllEnough (f : Feeder) (d : Description) : List Brought → Type 0 where
  no_call : AllEnough f d []
  one_call : {w : Brought} {ws : List Brought} → f.takes w → BringsEnough d w → AllEnough f d ws → AllEnough f d (w ∷ ws)

-- the two stores have their needed lengths
pub record StoresLong (d : Description) (h : Held) : Type 0 where
  pub cif_long : cif_bits ≤ length h.cif
  pub ring_long : ring_length d ≤ length h.ring

abbrev pub softs_of : List Brought → List (List ℤ)
softs_of ws = map (λ (w : Brought). w.soft) ws

-- these symbols can be fed one after another
pub record CanFeed (d : Description) (h : Held) (softs : List (List ℤ)) : Type 0 where
  pub calls : List Call
  pub last : Held
  pub fed_on : FedOn d h softs calls last
