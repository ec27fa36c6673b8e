-- Document 01, "What the receiver owes", for a caller of the library: set-up or reset, then symbol after symbol, each call with its needed lengths.
use Rattle.std.specs.Prelude.{◌≡◌, false, List, [], ◌∷◌, ◌++◌, ℕ, ◌+◌, ◌*◌, ◌<◌, ◌≤◌, length, get_or, ℤ}
use Rattle.spec_en300401.specs.Interleaving.{symbol_bits, cif_symbols}
use Rattle.fec_protection.specs.declared.Description.{Description}
use Rattle.fec_protection.specs.Refusals.{Accepted}
use Rattle.spec_sender.specs.Msc.{Sender}
use Rattle.msc_state.specs.States.{bad_state, ring_length}
use Rattle.msc_handler.specs.Promises.{Buffers}
use Rattle.c_state.specs.Numbers.{state_in, out_of_range}
use Rattle.c_msc.specs.Msc.{SetUpCall, ResetCall, FedPlaces, fed_places}
use Rattle.thm_msc.specs.Answers.{Enough}
use Rattle.thm_library.specs.Answers.{Seen, seen_of, Waited, WritesFrame, TakenIn}
use Rattle.thm_library.specs.Calls.{Kept, kept, kept_after, KeptCall}

-- a description that is accepted is set up, or eleven numbers of a state that has it and is not bad are reset, with a ring of its needed length: what the call answers and what is then kept
pub data LibraryStart (d : Description) : ℕ → Kept → Type 0 where
  by_set_up : {number : ℕ} (state : List ℕ) (cif ring ring' : List ℤ) (state' : List ℕ) → Accepted d → 11 ≤ length state → ring_length d ≤ length ring → SetUpCall d ring state number ring' state' → LibraryStart d number (kept state' cif ring')
  by_reset : {number : ℕ} (state : List ℕ) (cif ring ring' : List ℤ) (state' : List ℕ) → (state_in state).channel.description ≡ d → 11 ≤ length state → out_of_range state ≡ false → bad_state (state_in state) ≡ false → ring_length d ≤ length ring
      → ResetCall state ring number ring' state' → LibraryStart d number (kept state' cif ring')

-- a call of feeding with its needed lengths, a symbol of 3,072 values, and a place each for the length and the percentage
pub record LibraryCall (d : Description) (h : Kept) (soft : List ℤ) (b : Buffers) (f : FedPlaces) (number : ℕ) (b' : Buffers) (f' : FedPlaces) : Type 0 where
  pub call : KeptCall d h soft b f number b' f'
  pub lengths : Enough d b
  pub long : symbol_bits ≤ length soft
  pub length_place : 1 ≤ length f.lengths
  pub percent_place : 1 ≤ length f.percents

-- these symbols were fed one after another: what was kept before the first, the symbols, the calls, and what is kept after the last
pub data LibraryFedOn (d : Description) (h : Kept) : List (List ℤ) → List Seen → Kept → Type 0 where
  no_symbol : LibraryFedOn d h [] [] h
  one_more : {softs : List (List ℤ)} {seens : List Seen} {h' : Kept} (soft : List ℤ) (b : Buffers) (f : FedPlaces) (number : ℕ) (b' : Buffers) (f' : FedPlaces)
      → LibraryFedOn d h softs seens h' → LibraryCall d h' soft b f number b' f' → LibraryFedOn d h (softs ++ (soft ∷ [])) (seens ++ (seen_of b f number b' f' ∷ [])) (kept_after b' f')

-- the call of symbol q of CIF k, the first CIF being 0
abbrev pub not_seen : Seen
not_seen = record { places = fed_places [] [] []; frame = []; number = 1; places' = fed_places [] [] []; frame' = [] }

unfoldable pub seen_at : List Seen → ℕ → ℕ → Seen
seen_at seens k q = get_or seens (cif_symbols * k + q) not_seen

-- what n CIFs come to after any history that stands at a CIF's start: every call answers 0; every symbol but the eighteenth of its CIF waits; the eighteenth of CIF 16, 17, .. writes frame r, r + 1, .. in turn
pub record LibraryStreamsOn (d : Description) (s : Sender) (r n : ℕ) (seens : List Seen) : Type 0 where
  pub as_many : length seens ≡ cif_symbols * n
  pub waits : (k q : ℕ) → k < n → q < 17 → Waited (seen_at seens k q)
  pub taken : (k : ℕ) → k < n → TakenIn d (seen_at seens k 17)
  pub writes : (k : ℕ) → k + 16 < n → WritesFrame d s (r + k) (seen_at seens (k + 16) 17)

-- what a stream of n CIFs comes to: the start answers 0, and of the first sixteen CIFs the eighteenth symbol waits too
pub record LibraryStreams (d : Description) (s : Sender) (r n number : ℕ) (seens : List Seen) : Type 0 where
  pub starts : number ≡ 0
  pub goes_on : LibraryStreamsOn d s r n seens
  pub waits_first : (k : ℕ) → k < n → k < 16 → Waited (seen_at seens k 17)

-- what recovery comes to: the start answers 0, 305 calls wait, and the last writes frame r
pub record LibraryRecovers (d : Description) (s : Sender) (r number : ℕ) (seens : List Seen) : Type 0 where
  pub starts : number ≡ 0
  pub as_many : length seens ≡ 306
  pub waits : (j : ℕ) → j < 305 → Waited (get_or seens j not_seen)
  pub writes : WritesFrame d s r (get_or seens 305 not_seen)
