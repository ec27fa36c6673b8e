-- What a call that is not refused has: a sound state, buffers that are long enough, a whole symbol.
-- Assumes nothing.
use mathlib.Core.Path.{◌≡◌}
use mathlib.Core.Bool.{false, true≢false}
use Prim.Native.Nat.{ℕ, ◌≤◌}
use borrow.Author.Tests.{ltb-false}
use lib.Dec.{ltb}
use Rattle.fec_protection.specs.declared.Description.{Description}
use Rattle.fec_protection.specs.Refusals.{Accepted as IsAccepted, depunctured_length}
use Rattle.fec_protection.proofs.Accepted.{passes_accepted}
use Rattle.std.specs.Prelude.{Result, Ok, Err}
use Rattle.std.specs.Result.{is_err}
use Rattle.refusal.specs.declared.Refusal.{Refusal}
use Rattle.refusal.specs.Outcome.{outcome, told}
use Rattle.refusal.proofs.Laws.{given_number}
use Rattle.refusal.proofs.Checks.{none_of, off_at, clean, zeroed, later, held_not}
use Rattle.msc_state.specs.declared.Lengths.{Lengths}
use Rattle.msc_state.specs.declared.State.{State}
use Rattle.msc_state.specs.States.{faults, bad_state, values_of, ring_length, frame_length, steps_of, shortages, is_too_short, LongEnough, set_up_checks, set_up_refusal, reset_checks, reset_refusal, feed_checks, feed_refusal}

-- a state that is not bad
pub record Sound (s : State) : Type 0 where
  pub symbols : s.symbols ≤ 17
  pub in_frame : s.cif_in_frame ≤ 3
  pub index : s.channel.ring_index ≤ 15
  pub count : s.channel.cif_count ≤ 17
  pub description : IsAccepted s.channel.description

pub sound : (s : State) → bad_state s ≡ false → Sound s
unfolding bad_state
sound s e =
    let n = none_of (faults s) e in
    record {
      symbols = ltb-false 17 s.symbols (off_at n 0);
      in_frame = ltb-false 3 s.cif_in_frame (off_at n 1);
      index = ltb-false 15 s.channel.ring_index (off_at n 2);
      count = ltb-false 17 s.channel.cif_count (off_at n 3);
      description = passes_accepted s.channel.description (off_at n 4);
    }

-- buffers of which none is too short
pub long_enough : (d : Description) (l : Lengths) → is_too_short d l ≡ false → LongEnough d l
unfolding is_too_short
long_enough d l e =
    let n = none_of (shortages d l) e in
    record {
      cif_long = ltb-false l.cif 55296 (off_at n 0);
      ring_long = ltb-false l.ring (ring_length d) (off_at n 1);
      read_long = ltb-false l.deinterleaved (values_of d) (off_at n 2);
      soft_long = ltb-false l.depunctured (depunctured_length d) (off_at n 3);
      words_long = ltb-false l.words (steps_of d.bitrate) (off_at n 4);
      bits_long = ltb-false l.bits (steps_of d.bitrate) (off_at n 5);
      frame_long = ltb-false l.frame (frame_length d) (off_at n 6);
    }

-- set-up, reset and feeding that are not refused
pub set_up_long : (d : Description) (ring : ℕ) → set_up_refusal d ring ≡ 0 → ring_length d ≤ ring
unfolding set_up_refusal
set_up_long d ring e = ltb-false ring (ring_length d) (held_not 7 (ltb ring (ring_length d)) (zeroed (later (clean (set_up_checks d ring) e))))

pub reset_long : (s : State) (ring : ℕ) → reset_refusal s ring ≡ 0 → ring_length s.channel.description ≤ ring
unfolding reset_refusal
reset_long s ring e =
    let n = ring_length s.channel.description in
    ltb-false ring n (held_not 7 (ltb ring n) (zeroed (later (clean (reset_checks s ring) e))))

pub record Accepted (s : State) (soft : ℕ) (l : Lengths) : Type 0 where
  pub state : Sound s
  pub lengths : LongEnough s.channel.description l
  pub symbol : 3072 ≤ soft

pub accepted : (s : State) (soft : ℕ) (l : Lengths) → feed_refusal s soft l ≡ 0 → Accepted s soft l
unfolding feed_refusal
accepted s soft l e =
    let d = s.channel.description in
    let n = clean (feed_checks s soft l) e in
    let n1 = later n in
    record {
      state = sound s (held_not 9 (bad_state s) (zeroed n));
      lengths = long_enough d l (held_not 7 (is_too_short d l) (zeroed n1));
      symbol = ltb-false soft 3072 (held_not 8 (ltb soft 3072) (zeroed (later n1)));
    }

-- an answer that is no error has number 0
pub number_zero : {A : Type 0} (r : Result A Refusal) (n : ℕ) (a : A) → told r ≡ outcome n a → is_err r ≡ false → n ≡ 0
number_zero (Ok x) n a e h = given_number n a x e
number_zero (Err y) n a e h = absurd (true≢false h)
