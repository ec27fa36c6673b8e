-- Document 01, "What the receiver owes": a receiver that is set up or reset and then fed symbol after symbol, each call with its needed lengths; what is asked of the symbols, and what the calls come to.
use Rattle.std.specs.Prelude.{◌≡◌, false, List, [], ◌∷◌, ◌++◌, ℕ, ◌+◌, ◌*◌, ◌/◌, ◌%◌, ◌<◌, ◌≤◌, length, get_or, ℤ}
use Rattle.laws.specs.Integers.{at}
use Rattle.spec_trellis.specs.Clean.{Agrees}
use Rattle.spec_en300401.specs.Interleaving.{delay, symbol_bits, cif_symbols}
use Rattle.fec_protection.specs.declared.Description.{Description}
use Rattle.refusal.specs.Outcome.{told, Outcome, gives}
use Rattle.fec_protection.specs.Refusals.{Accepted}
use Rattle.msc_handler.specs.declared.Answer.TheVariants.{Waiting}
use Rattle.msc_handler.specs.declared.Fed.{Fed}
use Rattle.msc_set_up.specs.declared.SetUp.{SetUp}
use Rattle.msc_state.specs.declared.State.{State}
use Rattle.msc_state.specs.States.{bad_state, ring_length, fresh_state, no_description}
use Rattle.msc_handler.specs.Promises.{Buffers}
use Rattle.msc_set_up.specs.Promises.{SetUpPromise, ResetPromise}
use Rattle.thm_msc.specs.Answers.{Enough, Call, call_of, Waits, YieldsFrame, Taken}
use Rattle.thm_msc.specs.Calls.{Held, held, held_after, HeldCall}
use Rattle.thm_msc.specs.Heard.{kept_of}
use Rattle.spec_sender.specs.Msc.{Sender, place_of, cif_bit}

-- a description that is accepted is set up, or a state that has it and is not bad is reset, over a ring of its needed length: what the call answers and what is then held
pub data Start (d : Description) : Outcome (Unit {0}) → Held → Type 0 where
  by_set_up : (cif ring : List ℤ) (r : SetUp) (ring' : List ℤ) → Accepted d → ring_length d ≤ length ring → SetUpPromise d ring r ring' → Start d (told r.answer) (held r.state cif ring')
  by_reset : (s : State) (cif ring : List ℤ) (r : SetUp) (ring' : List ℤ) → s.channel.description ≡ d → bad_state s ≡ false → ring_length d ≤ length ring → ResetPromise s ring r ring'
      → Start d (told r.answer) (held r.state cif ring')

-- a feed call with its needed lengths, and a symbol of 3,072 values; more are not looked at
pub record FullCall (d : Description) (h : Held) (soft : List ℤ) (b : Buffers) (r : Fed) (b' : Buffers) : Type 0 where
  pub call : HeldCall d h soft b r b'
  pub lengths : Enough d b
  pub long : symbol_bits ≤ length soft

-- these symbols were fed one after another: what was held before the first, the symbols, the calls, and what is held after the last
pub data FedOn (d : Description) (h : Held) : List (List ℤ) → List Call → Held → Type 0 where
  no_symbol : FedOn d h [] [] h
  one_more : {softs : List (List ℤ)} {calls : List Call} {h' : Held} (soft : List ℤ) (b : Buffers) (r : Fed) (b' : Buffers)
      → FedOn d h softs calls h' → FullCall d h' soft b r b' → FedOn d h (softs ++ (soft ∷ [])) (calls ++ (call_of h'.state b r b' ∷ [])) (held_after r b')

-- of symbols, eighteen to a CIF, the first CIF being 0: value p of CIF k, and the call of symbol q of CIF k
unfoldable pub value_of : List (List ℤ) → ℕ → ℕ → ℤ
value_of softs k p = at (get_or softs (cif_symbols * k + p / symbol_bits) []) (p % symbol_bits)

abbrev pub no_call : Call
no_call = record { state = fresh_state no_description; frame = []; fed = record { state = fresh_state no_description; answer = Waiting }; frame' = [] }

unfoldable pub call_at : List Call → ℕ → ℕ → Call
call_at calls k q = get_or calls (cif_symbols * k + q) no_call

-- value i of CIF k is not 0 and of the sign of the bit that the sender's CIF r + k has at that place
abbrev pub SentAt : Description → Sender → ℕ → List (List ℤ) → ℕ → ℕ → Type 0
SentAt d s r softs k i = Agrees (value_of softs k (place_of d i)) (cif_bit d s (r + k) (place_of d i))

-- n CIFs are the sender's CIFs r to r + n - 1: each kept value agrees
pub record WholeCifs (d : Description) (s : Sender) (r n : ℕ) (softs : List (List ℤ)) : Type 0 where
  pub long : length softs ≡ cif_symbols * n
  pub agree : (k i : ℕ) → k < n → i < kept_of d → SentAt d s r softs k i

-- they are so as far as the n - 16 frames from r on go, of which bit i of frame r + k is in CIF k + delay i: no other value is asked to agree, and so none of the last CIF
pub record SentCifs (d : Description) (s : Sender) (r n : ℕ) (softs : List (List ℤ)) : Type 0 where
  pub long : length softs ≡ cif_symbols * n
  pub agree : (k i : ℕ) → k + 16 < n → i < kept_of d → SentAt d s r softs (k + delay i) i

-- what n CIFs come to after any history that stands at a CIF's start: no call is refused; every symbol but the eighteenth of its CIF waits; the eighteenth of CIF 16, 17, .. yields frame r, r + 1, .. in turn
pub record StreamsOn (d : Description) (s : Sender) (r n : ℕ) (calls : List Call) : Type 0 where
  pub as_many : length calls ≡ cif_symbols * n
  pub waits : (k q : ℕ) → k < n → q < 17 → Waits (call_at calls k q)
  pub taken : (k : ℕ) → k < n → Taken d (call_at calls k 17)
  pub yields : (k : ℕ) → k + 16 < n → YieldsFrame d s (r + k) (call_at calls (k + 16) 17)

-- what a stream of n CIFs comes to: the start is accepted, and of the first sixteen CIFs the eighteenth symbol waits too
pub record Streams (d : Description) (s : Sender) (r n : ℕ) (first : Outcome (Unit {0})) (calls : List Call) : Type 0 where
  pub starts : first ≡ gives tt
  pub goes_on : StreamsOn d s r n calls
  pub waits_first : (k : ℕ) → k < n → k < 16 → Waits (call_at calls k 17)

-- sixteen CIFs are the sender's CIFs r to r + 15, as far as frame r goes
pub record SentSixteen (d : Description) (s : Sender) (r : ℕ) (softs : List (List ℤ)) : Type 0 where
  pub long : length softs ≡ cif_symbols * 16
  pub agree : (i : ℕ) → i < kept_of d → SentAt d s r softs (delay i) i

-- what recovery comes to: the start is accepted, 305 calls wait, and the last yields frame r
pub record Recovers (d : Description) (s : Sender) (r : ℕ) (first : Outcome (Unit {0})) (calls : List Call) : Type 0 where
  pub starts : first ≡ gives tt
  pub as_many : length calls ≡ 306
  pub waits : (j : ℕ) → j < 305 → Waits (get_or calls j no_call)
  pub yields : YieldsFrame d s r (get_or calls 305 no_call)
