-- After any history no call with its needed lengths and a full symbol is refused.
-- Assumes nothing.
use mathlib.Core.Path.{◌≡◌, sym, subst}
use mathlib.Core.Bool.{false}
use mathlib.Core.List.{List}
use Prim.Native.Nat.{◌<◌, ◌≤◌}
use native.Mathlib.Omega.{arith}
use borrow.Author.Tests.{le-ltb, le-leb, lt-leb}
use lib.ListN.{length}
use lib.IntN.{ℤ}
use Rattle.spec_en300401.specs.Interleaving.{cif_bits, symbol_bits}
use Rattle.fec_protection.specs.declared.Description.{Description}
use Rattle.fec_protection.specs.Refusals.{depunctured_length}
use Rattle.fec_protection.proofs.Accepted.{accepted_passes}
use Rattle.refusal.specs.Outcome.{gives, outcome}
use Rattle.msc_state.specs.declared.Lengths.{Lengths}
use Rattle.msc_state.specs.declared.State.{State}
use Rattle.msc_handler.specs.Promises.{Buffers, lengths_of, step_of, gathers, completes, turn_of}
use Rattle.msc_state.specs.States.{bad_state, values_of, ring_length, frame_length, is_too_short, LongEnough, feed_refusal, steps_of}
use Rattle.msc_state.proofs.Refusals.{Sound}
use Rattle.thm_msc.specs.Answers.{Enough}
use Rattle.thm_msc.specs.Calls.{Held, Came, History}
use Rattle.thm_msc.specs.Theorems.{NeverRefused}
use Rattle.thm_msc.proofs.Histories.{holds, state_sound}

not_bad : (s : State) → Sound s → bad_state s ≡ false
unfolding bad_state
not_bad s h =
    rw (le-ltb 17 s.symbols h.symbols, le-ltb 3 s.cif_in_frame h.in_frame, le-ltb 15 s.channel.ring_index h.index, le-ltb 17 s.channel.cif_count h.count, accepted_passes s.channel.description h.description)

enough : (d : Description) (l : Lengths) → LongEnough d l → is_too_short d l ≡ false
unfolding is_too_short
enough d l h =
    rw (le-ltb l.cif cif_bits h.cif_long, le-ltb l.ring (ring_length d) h.ring_long, le-ltb l.deinterleaved (values_of d) h.read_long, le-ltb l.depunctured (depunctured_length d) h.soft_long, le-ltb l.words (steps_of d.bitrate) h.words_long, le-ltb l.bits (steps_of d.bitrate) h.bits_long, le-ltb l.frame (frame_length d) h.frame_long)

pub never_refused : NeverRefused
unfolding feed_refusal
never_refused d h c x soft b needed long =
    let here : Enough h.state.channel.description b = subst (λ (e : Description). Enough e b) (sym (holds d h c x).channel.description) needed in
    rw (not_bad h.state (state_sound x), enough h.state.channel.description (lengths_of b) here, le-ltb (length soft) symbol_bits long)

module _ {d : Description} {h : Held} {c : Came} (x : History d h c) (soft : List ℤ) (b : Buffers) (needed : Enough d b) (long : symbol_bits ≤ length soft) where
  -- so the eighteenth symbol makes a CIF whole
  pub then_completes : length c.begun ≡ 17 → turn_of h.state soft b ≡ gives completes
  unfolding turn_of
  then_completes e = λ i. outcome (never_refused d h c x soft b needed long i) (step_of (le-leb 17 h.state.symbols (omega (arith, (holds d h c x).board.counted)) i))

  -- and one before it does not
  pub then_gathers : length c.begun < 17 → turn_of h.state soft b ≡ gives gathers
  unfolding turn_of
  then_gathers l = λ i. outcome (never_refused d h c x soft b needed long i) (step_of (lt-leb 17 h.state.symbols (omega (arith, (holds d h c x).board.counted)) i))
