-- Sender and receiver meet again after any loss: over calls, the path and the sender's model.
-- Assumes nothing.
use mathlib.Core.Path.{◌≡◌, sym, ap, ◌∙◌, subst}
use mathlib.Core.List.{List, []}
use Prim.Native.Nat.{ℕ, ◌+◌, ◌*◌}
use native.Mathlib.Omega.{arith}
use lib.ListN.{length, get_or, take, drop, take-append-drop, length-drop}
use lib.Seq.{take_at}
use lib.IntN.{ℤ}
use Rattle.spec_en300401.specs.Bytes.{bytes_of_bits}
use Rattle.spec_trellis.specs.Clean.{Agrees}
use Rattle.spec_en300401.specs.Interleaving.{delay}
use Rattle.spec_en300401.proofs.Interleaving.{delay-lt}
use Rattle.fec_protection.specs.declared.Description.{Description}
use Rattle.fec_protection.proofs.Accepted.{kept-fits}
use Rattle.refusal.specs.Outcome.{gives}
use Rattle.msc_handler.specs.declared.Fed.{Fed}
use Rattle.msc_handler.specs.Frames.{frame_bits}
use Rattle.msc_handler.specs.History.{Cif, value_at}
use Rattle.msc_handler.specs.Promises.{said_of, Buffers, Turn, completes, turn_of, delayed, gathered, Feeds}
use Rattle.msc_state.specs.States.{state_after}
use Rattle.thm_msc.specs.Answers.{Call, call_of, Yields, Taken, yields as a-frame}
use Rattle.thm_msc.specs.Calls.{Held, Came, HeldCall, History}
use Rattle.thm_msc.specs.Heard.{LastSixteen, Sixteen, WholeSixteen}
use Rattle.spec_sender.specs.Msc.{Sender, place_of}
use Rattle.spec_sender.proofs.Msc.{own_bit}
use Rattle.thm_msc.specs.Theorems.{Agreement, AgreementInItsWords, AgreementComes, SameFrame, EarlierForgotten}
use Rattle.thm_msc.proofs.Accepting.{then_completes}
use Rattle.thm_msc.proofs.Histories.{holds, accepted_since, count_is, reads_last}
use Rattle.thm_msc.proofs.Slices.{Reads, GaveFrame, given, yields, slices_to_frame, bytes-long, slices_decide}

-- a history, and a call after it that makes a CIF whole
module _ {d : Description} {h : Held} {c : Came} (x : History d h c) {soft : List ℤ} {b : Buffers} {fed : Fed} {b' : Buffers} (call : HeldCall d h soft b fed b') where
  -- what is to be read of the ring
  reads : (n : LastSixteen c.cifs) → Reads d h.state.channel b.ring (λ (k i : ℕ). value_at (get_or n.last k []) (place_of d i))
  reads n = record { description = (holds d h c x).channel.description; count = count_is x call n; read = reads_last x call n }

  module _ (whole : turn_of h.state soft b ≡ gives completes) where
    feeds : Feeds (gives completes) h.state soft b fed.state (said_of fed.answer) b'
    feeds = subst (λ (t : Turn). Feeds t h.state soft b fed.state (said_of fed.answer) b') whole call.promise.feeds

    moved : fed.state ≡ state_after h.state
    unfolding Feeds
    moved = feeds.0

    gave : (n : LastSixteen c.cifs) → GaveFrame d (delayed h.state.channel b.ring) (said_of fed.answer) b.frame b'.frame
    unfolding Feeds
    gave n = given (gathered h.state soft b) b' (reads n) feeds.1

    -- the call yields some frame
    pub some_frame : LastSixteen c.cifs → Taken d (call_of h.state b fed b')
    some_frame n = let g = gave n in a-frame (bytes_of_bits (frame_bits d.bitrate g.framing.decoded)) (bytes-long g.framing) (yields g g.framing.frame_is moved)

-- of m + 16 CIFs the last sixteen
abbrev pub last-sixteen : (cifs : List Cif) (m : ℕ) → length cifs ≡ m + 16 → LastSixteen cifs
last-sixteen cifs m e = record { earlier = take m cifs; last = drop m cifs; split = sym (take-append-drop m cifs); sixteen = length-drop m cifs ∙ omega (arith, e) }

pub agreement : Agreement
agreement d h c x s r frame n soft b fed b' call whole =
    let ok = accepted_since x in
    let g = gave x call whole n.run in
    yields g
    (slices_to_frame d ok s r frame (reads x call n.run)
    (λ i l. subst (Agrees (value_at (get_or n.run.last (delay i) []) (place_of d i))) (own_bit d s (r + delay i) i (omega (arith, kept-fits d ok))) (n.agree i l)) g)
    (moved x call whole)

-- every kept value of each of the sixteen, and so those of frame r
strong : {d : Description} {s : Sender} {r : ℕ} {cifs : List Cif} → WholeSixteen d s r cifs → Sixteen d s r cifs
strong w = record { run = w.run; agree = λ i l. w.agree (delay i) (delay-lt i) i l }

pub agreement_in_its_words : AgreementInItsWords
agreement_in_its_words d h c x s r frame w = agreement d h c x s r frame (strong w)

pub agreement_comes : AgreementComes
agreement_comes d h c x s r frame n seventeen soft b fed b' call needed long = agreement d h c x s r frame n soft b fed b' call (then_completes x soft b needed long seventeen)

front : {d : Description} {bytes : List ℕ} {c : Call} → length bytes ≡ 3 * d.bitrate → Yields d bytes c → take (3 * d.bitrate) c.frame' ≡ bytes
front {d} {bytes} {c} l y = ap (take (3 * d.bitrate)) y.written ∙ take_at bytes (drop (3 * d.bitrate) c.frame) (3 * d.bitrate) l

pub same_frame : SameFrame
same_frame d h h₂ c c₂ x x₂ s r frame n n₂ soft soft₂ b b₂ fed fed₂ b' b₂' call call₂ whole whole₂ =
    front frame.size (agreement d h c x s r frame n soft b fed b' call whole) ∙ sym (front frame.size (agreement d h₂ c₂ x₂ s r frame n₂ soft₂ b₂ fed₂ b₂' call₂ whole₂))

pub earlier_forgotten : EarlierForgotten
earlier_forgotten d h h₂ c c₂ x x₂ n n₂ alike soft soft₂ b b₂ fed fed₂ b' b₂' call call₂ whole whole₂ =
    let g = gave x call whole n in
    let g₂ = gave x₂ call₂ whole₂ n₂ in
    let one = slices_decide (reads x call n) (reads x₂ call₂ n₂) alike g g₂ in
    record { bytes = one.bytes; size = one.size; first = yields g one.first (moved x call whole); second = yields g₂ one.second (moved x₂ call₂ whole₂); said_one = one.said_one }
