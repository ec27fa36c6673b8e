-- Document 01, "What the receiver owes": the FIC's theorem. Proved in proofs/Output.antt.
use Rattle.std.specs.Prelude.{List, ℕ, ◌+◌, ◌*◌, ◌<◌, get_or, ℤ, Result}
use Rattle.laws.specs.Integers.{at}
use Rattle.refusal.specs.declared.Refusal.{Refusal}
use Rattle.spec_trellis.specs.Clean.{Agrees}
use Rattle.spec_sender.specs.Fic.{Data, block_sent}
use Rattle.fic_handler.specs.declared.Fic.{Fic}
use Rattle.fic_handler.specs.Blocks.{joined, blocks_in, Buffers}
use Rattle.fic_handler.specs.Promise.{FicPromise}
use Rattle.thm_fic.specs.Heard.{TakenCall, values_of, Heard, ComeOut, AllComeOut, GivenWhole, LongEnough, FullSymbols}

-- a block heard clean: its three FIBs come out, whatever the other blocks hold
abbrev pub CleanBlockComesOut : Type 0
CleanBlockComesOut = (c : TakenCall) (f : Data) (b : ℕ) → Heard f (values_of c) b → ComeOut f b c.result c.after

-- all blocks heard clean: three FIBs of each come out, in order
abbrev pub CleanBlocksComeOut : Type 0
CleanBlocksComeOut =
    (c : TakenCall) (fs : ℕ → Data) → ((b : ℕ) → b < blocks_in (values_of c) → Heard (fs b) (values_of c) b)
    → AllComeOut fs (blocks_in (values_of c)) c.result c.after

-- a whole frame's FIC, with nothing assumed of the call: full symbols whose values are nonzero and of the sent bits' signs, at any strengths, and buffers of the needed lengths give the
-- twelve FIBs that were sent
abbrev pub WholeFicComesOut : Type 0
WholeFicComesOut =
    (s1 s2 s3 : List ℤ) → FullSymbols s1 s2 s3 → (before : Buffers) → LongEnough before → (r : Result Fic Refusal) (after : Buffers) → FicPromise s1 s2 s3 before r after
    → (fs : ℕ → Data) → ((b i : ℕ) → b < 4 → i < 2304 → Agrees (at (joined s1 s2 s3) (2304 * b + i)) (get_or (block_sent (fs b)) i 0)) → GivenWhole fs 4 r after
