-- Document 01, "What the receiver owes": what a call of feed comes to for its caller.
use Rattle.std.specs.Prelude.{◌≡◌, List, ◌++◌, ℕ, ◌*◌, length, drop, Float}
use Rattle.fec_protection.specs.declared.Description.{Description}
use Rattle.refusal.specs.Outcome.{gives}
use Rattle.msc_handler.specs.declared.Fed.{Fed}
use Rattle.msc_state.specs.declared.State.{State}
use Rattle.msc_state.specs.States.{LongEnough, state_after}
use Rattle.msc_handler.specs.Promises.{waiting, framed, said_of, Buffers, lengths_of}
use Rattle.spec_sender.specs.Msc.{Sender}

-- each of the seven buffers has its needed length
abbrev pub Enough : Description → Buffers → Type 0
Enough d b = LongEnough d (lengths_of b)

-- a call: the state and the frame buffer before it, what it answers with the state after it, and the frame buffer after it
pub record Call : Type 0 where
  pub state : State
  pub frame : List ℕ
  pub fed : Fed
  pub frame' : List ℕ

abbrev pub call_of : State → Buffers → Fed → Buffers → Call
call_of s b r b' = record { state = s; frame = b.frame; fed = r; frame' = b'.frame }

-- it waits: the frame buffer is as it was
pub record Waits (c : Call) : Type 0 where
  pub answer : said_of c.fed.answer ≡ gives waiting
  pub untouched : c.frame' ≡ c.frame
  pub moved : c.fed.state ≡ state_after c.state

-- it yields a frame: 3 × bitrate bytes are answered, with some percentage; they stand at the front of the frame buffer, and the rest is as it was
pub record Yields (d : Description) (bytes : List ℕ) (c : Call) : Type 0 where
  pub percent : Float
  pub answer : said_of c.fed.answer ≡ gives (framed (3 * d.bitrate) percent)
  pub written : c.frame' ≡ bytes ++ drop (3 * d.bitrate) c.frame
  pub moved : c.fed.state ≡ state_after c.state

-- it yields frame r of the sender
abbrev pub YieldsFrame : Description → Sender → ℕ → Call → Type 0
YieldsFrame d s r c = Yields d (s.frames r) c

-- it is not refused: it waits, or yields some frame
pub data Taken (d : Description) (c : Call) : Type 0 where
  waits : Waits c → Taken d c
  yields : (bytes : List ℕ) → length bytes ≡ 3 * d.bitrate → Yields d bytes c → Taken d c

-- two calls yield one frame, with one percentage
pub record SameAnswer (d : Description) (c c₂ : Call) : Type 0 where
  pub bytes : List ℕ
  pub size : length bytes ≡ 3 * d.bitrate
  pub first : Yields d bytes c
  pub second : Yields d bytes c₂
  pub said_one : said_of c.fed.answer ≡ said_of c₂.fed.answer
