-- Document 01, "What the receiver owes", for a caller of the library: the calls of its set-up, reset and feeding on one state, as eleven numbers, and its two stores.
use Rattle.std.specs.Prelude.{◌≡◌, List, [], ℕ, suc, ◌≤◌, take, ℤ}
use Rattle.spec_en300401.specs.Interleaving.{cif_bits}
use Rattle.fec_protection.specs.declared.Description.{Description}
use Rattle.msc_state.specs.States.{ring_length}
use Rattle.msc_handler.specs.Promises.{Buffers, turn_of}
use Rattle.c_state.specs.Numbers.{state_in}
use Rattle.c_msc.specs.Msc.{SetUpCall, ResetCall, FedPlaces, FeedCall}
use Rattle.thm_msc.specs.Calls.{Came, came, after, FrontOf, left_in}

-- what a caller keeps between calls
pub record Kept : Type 0 where
  pub state : List ℕ
  pub cif : List ℤ
  pub ring : List ℤ

abbrev pub kept : List ℕ → List ℤ → List ℤ → Kept
kept s c r = record { state = s; cif = c; ring = r }

abbrev pub kept_after : Buffers → FedPlaces → Kept
kept_after b' f' = kept f'.state b'.cif b'.ring

-- a call of feeding: any symbol; the needed part of what was kept, eleven numbers, 55,296 values and 1,024 × size.
-- What lies behind that part, its lengths and all else that is handed in may be others at each call
pub record KeptCall (d : Description) (h : Kept) (soft : List ℤ) (b : Buffers) (f : FedPlaces) (number : ℕ) (b' : Buffers) (f' : FedPlaces) : Type 0 where
  pub state_kept : take 11 f.state ≡ take 11 h.state
  pub cif_kept : take cif_bits b.cif ≡ take cif_bits h.cif
  pub ring_kept : take (ring_length d) b.ring ≡ take (ring_length d) h.ring
  pub promise : FeedCall soft b f number b' f'

-- the state's numbers after a refused call: it was handed a front part of those kept, which stand behind it as it left them; or any others, which are none of the caller's state
pub data Numbers (kept given given' : List ℕ) : List ℕ → Type 0 where
  own : FrontOf 11 given kept → Numbers kept given given' (left_in given' kept)
  others : Numbers kept given given' kept

-- a refused call of one of the three: of any description, any numbers, and any front part of the stores
pub data RefusedCall (d : Description) (h : Kept) : Kept → Type 0 where
  set_up_refused : {numbers : List ℕ} (n : ℕ) (e : Description) (ring : List ℤ) (state : List ℕ) (ring' : List ℤ) (state' : List ℕ) → FrontOf (ring_length d) ring h.ring → Numbers h.state state state' numbers → SetUpCall e ring state (suc n) ring' state'
      → RefusedCall d h (kept numbers h.cif (left_in ring' h.ring))
  reset_refused : {numbers : List ℕ} (n : ℕ) (ring : List ℤ) (state : List ℕ) (ring' : List ℤ) (state' : List ℕ) → FrontOf (ring_length d) ring h.ring → Numbers h.state state state' numbers → ResetCall state ring (suc n) ring' state'
      → RefusedCall d h (kept numbers h.cif (left_in ring' h.ring))
  feed_refused : {numbers : List ℕ} (n : ℕ) (soft : List ℤ) (b : Buffers) (f : FedPlaces) (b' : Buffers) (f' : FedPlaces) → FrontOf cif_bits b.cif h.cif → FrontOf (ring_length d) b.ring h.ring → Numbers h.state f.state f'.state numbers → FeedCall soft b f (suc n) b' f'
      → RefusedCall d h (kept numbers (left_in b'.cif h.cif) (left_in b'.ring h.ring))

-- the calls since a description was set up, or numbers of a state that has it were reset, each answered with 0 or refused: any number, in any order
pub data LibraryHistory (d : Description) : Kept → Came → Type 0 where
  set_up : (state : List ℕ) (cif ring : List ℤ) (ring' : List ℤ) (state' : List ℕ) → SetUpCall d ring state 0 ring' state' → LibraryHistory d (kept state' cif ring') (came [] [])
  reset : (state : List ℕ) (cif ring : List ℤ) (ring' : List ℤ) (state' : List ℕ) → (state_in state).channel.description ≡ d → ResetCall state ring 0 ring' state' → LibraryHistory d (kept state' cif ring') (came [] [])
  refused : {h h' : Kept} {c : Came} → LibraryHistory d h c → RefusedCall d h h' → LibraryHistory d h' c
  fed : {h : Kept} {c : Came} (soft : List ℤ) (b : Buffers) (f : FedPlaces) (b' : Buffers) (f' : FedPlaces) → LibraryHistory d h c → KeptCall d h soft b f 0 b' f' → LibraryHistory d (kept_after b' f') (after (turn_of (state_in h.state) soft b) soft c)

-- the one number of a description that acceptance does not bound: a UEP description's option is not looked at
abbrev pub Fits : Description → Type 0
Fits d = d.eep_option ≤ 255
