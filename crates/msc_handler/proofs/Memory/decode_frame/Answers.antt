-- An accepted description, with the needed lengths, is depunctured to the values of a frame.
use Rattle.std.proofs.Common.{◌≡◌, ap, ◌∙◌, subst, ◌+◌, ◌*◌, ◌<◌, ◌≤◌, ℕ, List, ◌++◌, length, take, drop, ℤ, arith}
use Rattle.std.proofs.Math.Seq.{take_at}
use Rattle.spec_en300401.specs.Puncturing.{mask, depuncture}
use Rattle.spec_en300401.proofs.Puncturing.{length-depuncture}
use Rattle.std.specs.Result.{is_ok}
use Rattle.refusal.specs.Outcome.{unless_refused}
use Rattle.refusal.proofs.Told.{is-ok}
use Rattle.fec_protection.specs.declared.Description.{Description}
use Rattle.fec_protection.specs.Refusals.{Accepted, profile_of, depunctured_length}
use Rattle.fec_protection.proofs.Accepted.{rate_bound, word_length}
use Rattle.fec_depuncturing.specs.Promises.{msc_refusal_of}
use Rattle.fec_depuncturing.proofs.Depunctures.{long_enough}
use Rattle.fec_viterbi.specs.Decoders.{ends_of}
use Rattle.msc_state.specs.States.{values_of, steps_of}
use Rattle.msc_handler.specs.Code.{values_in}
use Rattle.msc_handler.specs.Frames.{Framed}
use Rattle.msc_handler.specs.Memory.{buffers_in}
use Rattle.msc_handler.specs.Promises.{buffers}
use Rattle.msc_handler.proofs.Memory.decode_frame.Goals as goal

few : (rate : ℕ) → rate < 2048 → steps_of rate ≤ 65536
few rate h = omega arith

-- what the call leaves: the values of what was read, as many as a frame has, and what stood behind them
record Left (d : Description) (read old new : List ℤ) : Type 0 where
  none : msc_refusal_of d (length old) ≡ 0
  places : new ≡ values_in d read ++ drop (depunctured_length d) old
  long : length (values_in d read) ≡ depunctured_length d

left_by : (d : Description) → Accepted d → (read old : List ℤ) → depunctured_length d ≤ length old → {n : ℕ} → n ≡ d.sub_size → {new : List ℤ}
    → new ≡ unless_refused (msc_refusal_of d (length old)) (depuncture (mask (profile_of d)) (take (64 * n) read) ++ drop (depunctured_length d) old) old → Left d read old new
left_by d ok read old long {n} size e =
    let none = long_enough d read old ok long in
    record {
      none = none;
      places =
          e ∙ ap (λ (m : ℕ). unless_refused m (depuncture (mask (profile_of d)) (take (64 * n) read) ++ drop (depunctured_length d) old) old) none
          ∙ ap (λ (k : ℕ). depuncture (mask (profile_of d)) (take (64 * k) read) ++ drop (depunctured_length d) old) size;
      long = length-depuncture (mask (profile_of d)) (take (values_of d) read) ∙ word_length d ok;
    }

-- in front of it, the values
front : {d : Description} {read old new : List ℤ} → Left d read old new → {rate : ℕ} → rate ≡ d.bitrate → take (96 * rate + 24) new ≡ values_in d read
front {d} {read} {old} {new} l e =
    ap (λ (k : ℕ). take (96 * k + 24) new) e ∙ ap (take (depunctured_length d)) l.places ∙ take_at (values_in d read) (drop (depunctured_length d) old) (depunctured_length d) l.long

pub unwrap-requires : goal.unwrap-requires
unwrap-requires c =
    let b = buffers_in c.args.self.now in
    let l = left_by c.args.d c.requires.none b.deinterleaved b.depunctured c.requires.soft_long c.from.ensures c.depuncture_msc.ensures.places in
    ap is_ok (is-ok _ _ tt c.depuncture_msc.ensures.answer l.none)

pub frame_of-requires : goal.frame_of-requires
frame_of-requires c =
    let d = c.args.d in
    let r = c.requires in
    let b = buffers_in c.args.self.now in
    let l = left_by d r.none b.deinterleaved b.depunctured r.soft_long c.from.ensures c.depuncture_msc.ensures.places in
    record {
      soft_long = ap length (front l c.from-2.ensures) ∙ l.long;
      few = few d.bitrate (rate_bound d r.none);
      words_long = r.words_long;
      bits_long = r.bits_long;
      frame_long = r.frame_long;
    }

pub returns-clause-promise : goal.returns-clause-promise
returns-clause-promise c =
    let d = c.args.d in
    let b = buffers_in c.args.self.now in
    let f = c.frame_of in
    let l = left_by d c.requires.none b.deinterleaved b.depunctured c.requires.soft_long c.from.ensures c.depuncture_msc.ensures.places in
    record {
      framing = subst (λ (xs : List ℤ). Framed (ends_of d.is_eep) d.bitrate xs b.words b.bits b.frame f.result f.new.words f.new.bits f.new.frame) (front l c.from-2.ensures) f.ensures;
      buffers_are = λ i. buffers b.cif b.ring b.deinterleaved (l.places i) f.new.words f.new.bits f.new.frame;
    }
