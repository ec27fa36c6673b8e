-- Document 01, "What the receiver owes": the theorems for a caller of the library, each as a type that proofs/ has a value of.
use Rattle.std.specs.Prelude.{◌≡◌, List, ◌++◌, ℕ, ◌+◌, ◌*◌, ◌<◌, length, take, ℤ}
use Rattle.refusal.specs.Outcome.{gives}
use Rattle.fec_protection.specs.declared.Description.{Description}
use Rattle.spec_sender.specs.Msc.{Sender, IsFrame}
use Rattle.msc_handler.specs.Promises.{Buffers, completes, turn_of}
use Rattle.c_state.specs.Numbers.{state_in}
use Rattle.c_msc.specs.Msc.{FedPlaces}
use Rattle.thm_msc.specs.Calls.{Came}
use Rattle.thm_msc.specs.Heard.{LastSixteen, WholeSixteen, Sixteen, SameSlices}
use Rattle.thm_msc.specs.Stream.{WholeCifs, SentCifs, SentSixteen}
use Rattle.thm_library.specs.Answers.{Seen, seen_of, WritesFrame, SameWritten}
use Rattle.thm_library.specs.Calls.{Kept, KeptCall, LibraryHistory, Fits}
use Rattle.thm_library.specs.Stream.{LibraryStart, LibraryCall, LibraryFedOn, LibraryStreamsOn, LibraryStreams, LibraryRecovers}

-- after any history a call with its needed lengths and a full symbol answers 0
abbrev pub LibraryNeverRefused : Type 0
LibraryNeverRefused =
    (d : Description) (h : Kept) (c : Came) → Fits d → LibraryHistory d h c → (soft : List ℤ) (b : Buffers) (f : FedPlaces) (number : ℕ) (b' : Buffers) (f' : FedPlaces) → LibraryCall d h soft b f number b' f' → number ≡ 0

-- since set-up or reset the last sixteen CIFs were the sender's CIFs r to r + 15, as far as frame r goes; then the call that makes the next CIF whole, whatever its values, writes frame r
abbrev pub LibraryAgreement : Type 0
LibraryAgreement =
    (d : Description) (h : Kept) (c : Came) → LibraryHistory d h c → (s : Sender) (r : ℕ) → IsFrame d (s.frames r) → Sixteen d s r c.cifs
    → (soft : List ℤ) (b : Buffers) (f : FedPlaces) (b' : Buffers) (f' : FedPlaces) → KeptCall d h soft b f 0 b' f' → turn_of (state_in h.state) soft b ≡ gives completes → WritesFrame d s r (seen_of b f 0 b' f')

-- in document 01's words it asks more of the sixteen: every kept value of each
abbrev pub LibraryAgreementInItsWords : Type 0
LibraryAgreementInItsWords =
    (d : Description) (h : Kept) (c : Came) → LibraryHistory d h c → (s : Sender) (r : ℕ) → IsFrame d (s.frames r) → WholeSixteen d s r c.cifs
    → (soft : List ℤ) (b : Buffers) (f : FedPlaces) (b' : Buffers) (f' : FedPlaces) → KeptCall d h soft b f 0 b' f' → turn_of (state_in h.state) soft b ≡ gives completes → WritesFrame d s r (seen_of b f 0 b' f')

-- in a caller's terms: with its needed lengths, a full symbol and seventeen symbols before it the call answers 0 and writes frame r
abbrev pub LibraryAgreementComes : Type 0
LibraryAgreementComes =
    (d : Description) (h : Kept) (c : Came) → Fits d → LibraryHistory d h c → (s : Sender) (r : ℕ) → IsFrame d (s.frames r) → Sixteen d s r c.cifs → length c.begun ≡ 17
    → (soft : List ℤ) (b : Buffers) (f : FedPlaces) (number : ℕ) (b' : Buffers) (f' : FedPlaces) → LibraryCall d h soft b f number b' f' → WritesFrame d s r (seen_of b f number b' f')

-- sixteen CIFs of one sender, heard in two ways: one frame
abbrev pub LibrarySameFrame : Type 0
LibrarySameFrame =
    (d : Description) (h h₂ : Kept) (c c₂ : Came) → LibraryHistory d h c → LibraryHistory d h₂ c₂ → (s : Sender) (r : ℕ) → IsFrame d (s.frames r) → Sixteen d s r c.cifs → Sixteen d s r c₂.cifs
    → (soft soft₂ : List ℤ) (b b₂ : Buffers) (f f₂ : FedPlaces) (b' b₂' : Buffers) (f' f₂' : FedPlaces) → KeptCall d h soft b f 0 b' f' → KeptCall d h₂ soft₂ b₂ f₂ 0 b₂' f₂'
    → turn_of (state_in h.state) soft b ≡ gives completes → turn_of (state_in h₂.state) soft₂ b₂ ≡ gives completes → take (3 * d.bitrate) b'.frame ≡ take (3 * d.bitrate) b₂'.frame

-- sixteen CIFs with the same slices, clean or not: one frame and one percentage, whatever came before them and whatever the next CIF is
abbrev pub LibraryEarlierForgotten : Type 0
LibraryEarlierForgotten =
    (d : Description) (h h₂ : Kept) (c c₂ : Came) → LibraryHistory d h c → LibraryHistory d h₂ c₂ → (n : LastSixteen c.cifs) (n₂ : LastSixteen c₂.cifs) → SameSlices d n.last n₂.last
    → (soft soft₂ : List ℤ) (b b₂ : Buffers) (f f₂ : FedPlaces) (b' b₂' : Buffers) (f' f₂' : FedPlaces) → KeptCall d h soft b f 0 b' f' → KeptCall d h₂ soft₂ b₂ f₂ 0 b₂' f₂'
    → turn_of (state_in h.state) soft b ≡ gives completes → turn_of (state_in h₂.state) soft₂ b₂ ≡ gives completes → SameWritten d (seen_of b f 0 b' f') (seen_of b₂ f₂ 0 b₂' f₂')

-- a stream: after any history that stands at a CIF's start, n CIFs of the sender from CIF r on, as far as its frames from r on go; every call answers 0, and the frames r, r + 1, .. come in order, each once, each at its CIF
abbrev pub LibraryStreamAfter : Type 0
LibraryStreamAfter =
    (d : Description) (h : Kept) (c : Came) → Fits d → LibraryHistory d h c → length c.begun ≡ 0 → (s : Sender) (r n : ℕ) → ((k : ℕ) → k + 16 < n → IsFrame d (s.frames (r + k))) → (softs : List (List ℤ)) → SentCifs d s r n softs
    → (seens : List Seen) (h' : Kept) → LibraryFedOn d h softs seens h' → LibraryStreamsOn d s r n seens

-- the same after set-up or reset, where all else waits
abbrev pub LibraryStream : Type 0
LibraryStream =
    (d : Description) (number : ℕ) (h : Kept) → Fits d → LibraryStart d number h → (s : Sender) (r n : ℕ) → ((k : ℕ) → k + 16 < n → IsFrame d (s.frames (r + k))) → (softs : List (List ℤ)) → SentCifs d s r n softs
    → (seens : List Seen) (h' : Kept) → LibraryFedOn d h softs seens h' → LibraryStreams d s r n number seens

-- in document 01's words: every kept value of each of the n
abbrev pub LibraryStreamInItsWords : Type 0
LibraryStreamInItsWords =
    (d : Description) (number : ℕ) (h : Kept) → Fits d → LibraryStart d number h → (s : Sender) (r n : ℕ) → ((k : ℕ) → k + 16 < n → IsFrame d (s.frames (r + k))) → (softs : List (List ℤ)) → WholeCifs d s r n softs
    → (seens : List Seen) (h' : Kept) → LibraryFedOn d h softs seens h' → LibraryStreams d s r n number seens

-- recovery, closed: set-up or reset, the 288 symbols of the sender's CIFs r to r + 15, then any 18 symbols; every call answers 0, 305 wait and the last writes frame r
abbrev pub LibraryRecovery : Type 0
LibraryRecovery =
    (d : Description) (number : ℕ) (h : Kept) → Fits d → LibraryStart d number h → (s : Sender) (r : ℕ) → IsFrame d (s.frames r) → (sixteen next : List (List ℤ)) → SentSixteen d s r sixteen → length next ≡ 18
    → (seens : List Seen) (h' : Kept) → LibraryFedOn d h (sixteen ++ next) seens h' → LibraryRecovers d s r number seens

-- in document 01's words: every kept value of each of the sixteen
abbrev pub LibraryRecoveryInItsWords : Type 0
LibraryRecoveryInItsWords =
    (d : Description) (number : ℕ) (h : Kept) → Fits d → LibraryStart d number h → (s : Sender) (r : ℕ) → IsFrame d (s.frames r) → (sixteen next : List (List ℤ)) → WholeCifs d s r 16 sixteen → length next ≡ 18
    → (seens : List Seen) (h' : Kept) → LibraryFedOn d h (sixteen ++ next) seens h' → LibraryRecovers d s r number seens
