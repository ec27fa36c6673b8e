-- Document 01, "What the receiver owes": the theorems on histories of calls, each as a type that proofs/ has a value of.
use Rattle.std.specs.Prelude.{◌≡◌, List, ◌++◌, ℕ, ◌+◌, ◌*◌, ◌<◌, ◌≤◌, length, take, ℤ}
use Rattle.spec_en300401.specs.Interleaving.{symbol_bits}
use Rattle.fec_protection.specs.declared.Description.{Description}
use Rattle.refusal.specs.Outcome.{Outcome, gives}
use Rattle.msc_handler.specs.declared.Fed.{Fed}
use Rattle.msc_handler.specs.Promises.{Buffers, refusal_in, completes, turn_of}
use Rattle.spec_sender.specs.Msc.{Sender, IsFrame}
use Rattle.thm_msc.specs.Calls.{Held, Came, HeldCall, History, Holds}
use Rattle.thm_msc.specs.Heard.{LastSixteen, WholeSixteen, Sixteen, SameSlices}
use Rattle.thm_msc.specs.Answers.{Enough, Call, call_of, YieldsFrame, SameAnswer}
use Rattle.thm_msc.specs.Receiver.{Feeder, Brought, AllEnough, StoresLong, softs_of, CanFeed}
use Rattle.thm_msc.specs.Stream.{Start, FedOn, WholeCifs, SentCifs, StreamsOn, Streams, SentSixteen, Recovers}

-- after any history the counts, the CIF store and the ring are as what came in says
abbrev pub IsHeld : Type 0
IsHeld = (d : Description) (h : Held) (c : Came) → History d h c → Holds d c h

-- after any history no call with its needed lengths and a full symbol is refused
abbrev pub NeverRefused : Type 0
NeverRefused = (d : Description) (h : Held) (c : Came) → History d h c → (soft : List ℤ) (b : Buffers) → Enough d b → symbol_bits ≤ length soft → refusal_in h.state soft b ≡ 0

-- THE THEOREM: since set-up or reset the last sixteen CIFs were the sender's CIFs r to r + 15, as far as frame r goes; then the call that makes the next CIF whole, whatever its values, yields frame r
abbrev pub Agreement : Type 0
Agreement =
    (d : Description) (h : Held) (c : Came) → History d h c → (s : Sender) (r : ℕ) → IsFrame d (s.frames r) → Sixteen d s r c.cifs
    → (soft : List ℤ) (b : Buffers) (fed : Fed) (b' : Buffers) → HeldCall d h soft b fed b' → turn_of h.state soft b ≡ gives completes → YieldsFrame d s r (call_of h.state b fed b')

-- in document 01's words it asks more of the sixteen: every kept value of each
abbrev pub AgreementInItsWords : Type 0
AgreementInItsWords =
    (d : Description) (h : Held) (c : Came) → History d h c → (s : Sender) (r : ℕ) → IsFrame d (s.frames r) → WholeSixteen d s r c.cifs
    → (soft : List ℤ) (b : Buffers) (fed : Fed) (b' : Buffers) → HeldCall d h soft b fed b' → turn_of h.state soft b ≡ gives completes → YieldsFrame d s r (call_of h.state b fed b')

-- in a caller's terms: with its needed lengths, a full symbol and seventeen symbols before it the call does make a CIF whole
abbrev pub AgreementComes : Type 0
AgreementComes =
    (d : Description) (h : Held) (c : Came) → History d h c → (s : Sender) (r : ℕ) → IsFrame d (s.frames r) → Sixteen d s r c.cifs → length c.begun ≡ 17
    → (soft : List ℤ) (b : Buffers) (fed : Fed) (b' : Buffers) → HeldCall d h soft b fed b' → Enough d b → symbol_bits ≤ length soft → YieldsFrame d s r (call_of h.state b fed b')

-- sixteen CIFs of one sender, heard in two ways: one frame
abbrev pub SameFrame : Type 0
SameFrame =
    (d : Description) (h h₂ : Held) (c c₂ : Came) → History d h c → History d h₂ c₂ → (s : Sender) (r : ℕ) → IsFrame d (s.frames r) → Sixteen d s r c.cifs → Sixteen d s r c₂.cifs
    → (soft soft₂ : List ℤ) (b b₂ : Buffers) (fed fed₂ : Fed) (b' b₂' : Buffers) → HeldCall d h soft b fed b' → HeldCall d h₂ soft₂ b₂ fed₂ b₂'
    → turn_of h.state soft b ≡ gives completes → turn_of h₂.state soft₂ b₂ ≡ gives completes → take (3 * d.bitrate) b'.frame ≡ take (3 * d.bitrate) b₂'.frame

-- sixteen CIFs with the same slices, clean or not: one answer and one frame, whatever came before them and whatever the next CIF is
abbrev pub EarlierForgotten : Type 0
EarlierForgotten =
    (d : Description) (h h₂ : Held) (c c₂ : Came) → History d h c → History d h₂ c₂ → (n : LastSixteen c.cifs) (n₂ : LastSixteen c₂.cifs) → SameSlices d n.last n₂.last
    → (soft soft₂ : List ℤ) (b b₂ : Buffers) (fed fed₂ : Fed) (b' b₂' : Buffers) → HeldCall d h soft b fed b' → HeldCall d h₂ soft₂ b₂ fed₂ b₂'
    → turn_of h.state soft b ≡ gives completes → turn_of h₂.state soft₂ b₂ ≡ gives completes → SameAnswer d (call_of h.state b fed b') (call_of h₂.state b₂ fed₂ b₂')

-- a stream: after any history that stands at a CIF's start, n CIFs of the sender from CIF r on, as far as its frames from r on go; the frames r, r + 1, .. come in order, each once, each at its CIF
abbrev pub StreamAfter : Type 0
StreamAfter =
    (d : Description) (h : Held) (c : Came) → History d h c → length c.begun ≡ 0 → (s : Sender) (r n : ℕ) → ((k : ℕ) → k + 16 < n → IsFrame d (s.frames (r + k))) → (softs : List (List ℤ)) → SentCifs d s r n softs
    → (calls : List Call) (h' : Held) → FedOn d h softs calls h' → StreamsOn d s r n calls

-- the same after set-up or reset, where all else waits
abbrev pub Stream : Type 0
Stream =
    (d : Description) (first : Outcome (Unit {0})) (h : Held) → Start d first h → (s : Sender) (r n : ℕ) → ((k : ℕ) → k + 16 < n → IsFrame d (s.frames (r + k))) → (softs : List (List ℤ)) → SentCifs d s r n softs
    → (calls : List Call) (h' : Held) → FedOn d h softs calls h' → Streams d s r n first calls

-- in document 01's words it asks more of the n: every kept value of each
abbrev pub StreamInItsWords : Type 0
StreamInItsWords =
    (d : Description) (first : Outcome (Unit {0})) (h : Held) → Start d first h → (s : Sender) (r n : ℕ) → ((k : ℕ) → k + 16 < n → IsFrame d (s.frames (r + k))) → (softs : List (List ℤ)) → WholeCifs d s r n softs
    → (calls : List Call) (h' : Held) → FedOn d h softs calls h' → Streams d s r n first calls

-- recovery, closed: set-up or reset, the 288 symbols of the sender's CIFs r to r + 15, then any 18 symbols; none is refused, 305 wait and the last yields frame r
abbrev pub Recovery : Type 0
Recovery =
    (d : Description) (first : Outcome (Unit {0})) (h : Held) → Start d first h → (s : Sender) (r : ℕ) → IsFrame d (s.frames r) → (sixteen next : List (List ℤ)) → SentSixteen d s r sixteen → length next ≡ 18
    → (calls : List Call) (h' : Held) → FedOn d h (sixteen ++ next) calls h' → Recovers d s r first calls

-- in document 01's words: every kept value of each of the sixteen
abbrev pub RecoveryInItsWords : Type 0
RecoveryInItsWords =
    (d : Description) (first : Outcome (Unit {0})) (h : Held) → Start d first h → (s : Sender) (r : ℕ) → IsFrame d (s.frames r) → (sixteen next : List (List ℤ)) → WholeCifs d s r 16 sixteen → length next ≡ 18
    → (calls : List Call) (h' : Held) → FedOn d h (sixteen ++ next) calls h' → Recovers d s r first calls

-- what stream and recovery ask can be met: any function that keeps the promise can be fed any symbols, after any history over stores of their needed lengths
abbrev pub CanBeFed : Type 1
CanBeFed =
    (f : Feeder) (d : Description) (h : Held) (c : Came) → History d h c → f.holds h → StoresLong d h → (ws : List Brought) → AllEnough f d ws → CanFeed d h (softs_of ws)
