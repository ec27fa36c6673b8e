-- Document 01, "What the receiver owes": calls of set-up, reset and feed on one state and its two stores, and what has come in by them.
use Rattle.std.specs.Prelude.{◌≡◌, List, [], ◌∷◌, ◌++◌, ℕ, ◌<◌, length, get_or, take, drop, ℤ}
use Rattle.spec_en300401.specs.Interleaving.{cif_bits, cif_symbols}
use Rattle.fec_protection.specs.declared.Description.{Description}
use Rattle.refusal.specs.Outcome.{told, gives, refuses}
use Rattle.msc_handler.specs.declared.Fed.{Fed}
use Rattle.msc_set_up.specs.declared.SetUp.{SetUp}
use Rattle.msc_state.specs.declared.State.{State}
use Rattle.msc_state.specs.States.{ring_length}
use Rattle.msc_handler.specs.History.{symbol_of, Cif, BoardHolds, ChannelHolds}
use Rattle.msc_handler.specs.Promises.{Buffers, Turn, gathers, completes, turn_of, FeedPromise}
use Rattle.msc_set_up.specs.Promises.{SetUpPromise, ResetPromise}

-- what a caller holds between calls
pub record Held : Type 0 where
  pub state : State
  pub cif : List ℤ
  pub ring : List ℤ

abbrev pub held : State → List ℤ → List ℤ → Held
held s c r = record { state = s; cif = c; ring = r }

abbrev pub held_after : Fed → Buffers → Held
held_after r b' = held r.state b'.cif b'.ring

-- what has come in since the last accepted set-up or reset: the whole CIFs, the oldest first, and the symbols of the one begun
pub record Came : Type 0 where
  pub cifs : List Cif
  pub begun : Cif

abbrev pub came : List Cif → Cif → Came
came cs b = record { cifs = cs; begun = b }

-- what has come in after one more call: nothing more if it was refused; else its symbol, which may make a CIF whole
abbrev pub after : Turn → List ℤ → Came → Came
after (refuses n) soft c = c
after (gives gathers) soft c = came c.cifs (c.begun ++ (symbol_of soft ∷ []))
after (gives completes) soft c = came (c.cifs ++ ((c.begun ++ (symbol_of soft ∷ [])) ∷ [])) []

-- a feed call: any symbol; the state as it was held, and the needed part of the two stores, 55,296 values and 1,024 × size.
-- What lies behind that part, the stores' lengths and the five work buffers may be others at each call
pub record HeldCall (d : Description) (h : Held) (soft : List ℤ) (b : Buffers) (r : Fed) (b' : Buffers) : Type 0 where
  pub cif_kept : take cif_bits b.cif ≡ take cif_bits h.cif
  pub ring_kept : take (ring_length d) b.ring ≡ take (ring_length d) h.ring
  pub promise : FeedPromise h.state soft b r b'

-- a refused call may be handed less: a buffer whose needed part is what was held as far as it goes
abbrev pub FrontOf : {A : Type 0} → ℕ → List A → List A → Type 0
FrontOf need given held = take need given ≡ take (length given) (take need held)

-- the store after it: the buffer as the call left it, and behind it what was held
abbrev pub left_in : {A : Type 0} → List A → List A → List A
left_in given' held = given' ++ drop (length given') held

-- a refused call of one of the three: of any state or description; the caller goes on with the state that it held and the stores as the call left them
pub data RefusedCall (d : Description) (h : Held) : Held → Type 0 where
  set_up_refused : (n : ℕ) (e : Description) (ring : List ℤ) (r : SetUp) (ring' : List ℤ) → FrontOf (ring_length d) ring h.ring → SetUpPromise e ring r ring' → told r.answer ≡ refuses n → RefusedCall d h (held h.state h.cif (left_in ring' h.ring))
  reset_refused : (n : ℕ) (s : State) (ring : List ℤ) (r : SetUp) (ring' : List ℤ) → FrontOf (ring_length d) ring h.ring → ResetPromise s ring r ring' → told r.answer ≡ refuses n → RefusedCall d h (held h.state h.cif (left_in ring' h.ring))
  feed_refused : (n : ℕ) (s : State) (soft : List ℤ) (b : Buffers) (r : Fed) (b' : Buffers) → FrontOf cif_bits b.cif h.cif → FrontOf (ring_length d) b.ring h.ring → FeedPromise s soft b r b' → turn_of s soft b ≡ refuses n
      → RefusedCall d h (held h.state (left_in b'.cif h.cif) (left_in b'.ring h.ring))

-- the calls since a description was set up, or any state that has it was reset: any number, in any order
pub data History (d : Description) : Held → Came → Type 0 where
  set_up : (cif ring : List ℤ) (r : SetUp) (ring' : List ℤ) → SetUpPromise d ring r ring' → told r.answer ≡ gives tt → History d (held r.state cif ring') (came [] [])
  reset : (s : State) (cif ring : List ℤ) (r : SetUp) (ring' : List ℤ) → s.channel.description ≡ d → ResetPromise s ring r ring' → told r.answer ≡ gives tt → History d (held r.state cif ring') (came [] [])
  refused : {h h' : Held} {c : Came} → History d h c → RefusedCall d h h' → History d h' c
  fed : {h : Held} {c : Came} (soft : List ℤ) (b : Buffers) (r : Fed) (b' : Buffers) → History d h c → HeldCall d h soft b r b' → History d (held_after r b') (after (turn_of h.state soft b) soft c)

-- what is then held: each whole CIF is eighteen symbols; the board and the channel are as what came in says
pub record Holds (d : Description) (c : Came) (h : Held) : Type 0 where
  pub eighteen : (k : ℕ) → k < length c.cifs → length (get_or c.cifs k []) ≡ cif_symbols
  pub board : BoardHolds (length c.cifs) c.begun h.state.symbols h.state.cif_in_frame h.cif
  pub channel : ChannelHolds d c.cifs h.state.channel h.ring
