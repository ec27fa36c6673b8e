-- Any function that keeps the promise of feeding can be fed any symbols: the stores keep their lengths from call to call.
-- Assumes nothing.
use mathlib.Core.Path.{◌≡◌, refl, ap, ◌∙◌}
use mathlib.Core.List.{List, [], ◌∷◌}
use Prim.Native.Nat.{ℕ, suc, ◌*◌, ◌<◌, ◌≤◌}
use native.Mathlib.Omega.{arith}
use native.Mathlib.Decide.{dec_lt}
use native.Mathlib.Nat.{suc-mul, mul-le-mul_right}
use lib.ListN.{length}
use lib.Seq.{length-paste}
use lib.IntN.{ℤ}
use Rattle.fec_protection.specs.declared.Description.{Description}
use Rattle.fec_protection.proofs.Accepted.{units-inside}
use Rattle.msc_handler.specs.declared.Fed.{Fed}
use Rattle.msc_handler.specs.Promises.{Buffers, refusal_in, slice_of}
use Rattle.msc_handler.specs.Ring.{stored, refilled}
use Rattle.msc_handler.proofs.Feeding.{fed-gathers, fed-completes}
use Rattle.msc_state.specs.States.{values_of}
use Rattle.thm_msc.specs.Answers.{Call, call_of}
use Rattle.thm_msc.specs.Calls.{Held, held_after, Came, History, fed}
use Rattle.thm_msc.specs.Receiver.{handed, one_call, StoresLong}
use Rattle.thm_msc.specs.Stream.{FullCall, FedOn, no_symbol, one_more}
use Rattle.thm_msc.specs.Theorems.{CanBeFed}
use Rattle.thm_msc.proofs.Accepting.{never_refused}
use Rattle.thm_msc.proofs.Histories.{stored-length, slice_length, holds, accepted_since, state_sound}

-- ---- the stores keep their lengths

module _ {d : Description} {h : Held} {c : Came} (x : History d h c) {soft : List ℤ} {b : Buffers} {r : Fed} {b' : Buffers} (f : FullCall d h soft b r b') where
  none : refusal_in h.state soft b ≡ 0
  none = never_refused d h c x soft b f.lengths f.long

  abbrev filled : List ℤ
  filled = stored b.cif h.state.symbols soft

  abbrev own : List ℤ
  own = slice_of d filled

  cif_same : length filled ≡ length b.cif
  cif_same = stored-length b.cif soft (state_sound x).symbols f.lengths.cif_long f.long

  own-long : length own ≡ values_of d
  own-long = slice_length d filled (units-inside d (accepted_since x)) (omega (arith, cif_same, f.lengths.cif_long))

  ring_same : (k : ℕ) → k ≤ 15 → length (refilled b.ring (values_of d) k own) ≡ length b.ring
  unfolding refilled
  ring_same k l =
      let below : suc k ≤ 16 = omega arith in
      length-paste b.ring (k * values_of d) own (values_of d) (omega (arith, suc-mul k (values_of d), mul-le-mul_right (values_of d) below, f.lengths.ring_long)) (omega (arith, own-long))

  stores_kept : StoresLong d (held_after r b')
  stores_kept = go (dec_lt h.state.symbols 17)
    where
      go : Dec (h.state.symbols < 17) → StoresLong d (held_after r b')
      go (yes l) =
          let g = fed-gathers h.state soft b f.call.promise none l in
          record { cif_long = omega (arith, ap length g.kept, cif_same, f.lengths.cif_long); ring_long = omega (arith, ap length g.ring_same, f.lengths.ring_long) }
      go (no l) =
          let g = fed-completes h.state soft b f.call.promise none (omega arith) in
          let ring_is : b'.ring ≡ refilled b.ring (values_of d) h.state.channel.ring_index own =
          g.ring_is ∙ ap (λ (u : Description). refilled b.ring (values_of u) h.state.channel.ring_index (slice_of u filled)) (holds d h c x).channel.description in
          record {
            cif_long = omega (arith, ap length g.kept, cif_same, f.lengths.cif_long);
            ring_long = omega (arith, ap length ring_is, ring_same h.state.channel.ring_index (state_sound x).index, f.lengths.ring_long);
          }

-- ---- one call before others

fed-before : {d : Description} {h : Held} (soft : List ℤ) (b : Buffers) (r : Fed) (b' : Buffers) → FullCall d h soft b r b' → {softs : List (List ℤ)} {calls : List Call} {h' : Held} → FedOn d (held_after r b') softs calls h' → FedOn d h (soft ∷ softs) (call_of h.state b r b' ∷ calls) h'
fed-before soft b r b' f no_symbol = one_more soft b r b' no_symbol f
fed-before soft b r b' f (one_more soft₂ b₂ r₂ b₂' fs f₂) = one_more soft₂ b₂ r₂ b₂' (fed-before soft b r b' f fs) f₂

-- ---- call after call

pub can_be_fed : CanBeFed
can_be_fed f d h c x o stores [] es = record { calls = []; last = h; fed_on = no_symbol }
can_be_fed f d h c x o stores (w ∷ ws) (one_call t e es) =
    let b : Buffers = handed h w in
    let r : Fed = f.answers h.state w.soft b in
    let b' : Buffers = f.leaves h.state w.soft b in
    let full : FullCall d h w.soft b r b' =
    record {
      call = record { cif_kept = refl; ring_kept = refl; promise = f.keeps h w o t };
      lengths = record { cif_long = stores.cif_long; ring_long = stores.ring_long; read_long = e.read_long; soft_long = e.soft_long; words_long = e.words_long; bits_long = e.bits_long; frame_long = e.frame_long };
      long = e.symbol_long;
    } in
    let rest = can_be_fed f d (held_after r b') _ (fed w.soft b r b' x full.call) (f.stays h w o t) (stores_kept x full) ws es in
    record { calls = call_of h.state b r b' ∷ rest.calls; last = rest.last; fed_on = fed-before w.soft b r b' full rest.fed_on }
