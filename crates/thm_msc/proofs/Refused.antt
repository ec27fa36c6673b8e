-- After any history there are refused calls of buffers of any length whose needed part is what was held, as far as they go.
-- Assumes nothing.
use mathlib.Core.Path.{refl, ◌≡◌, subst}
use mathlib.Core.List.{List, []}
use lib.IntN.{ℤ}
use Rattle.spec_en300401.specs.Interleaving.{cif_bits}
use Rattle.fec_protection.specs.declared.Description.{Description}
use Rattle.refusal.specs.Outcome.{refuses}
use Rattle.refusal.specs.declared.Refusal.TheVariants.{BadState}
use Rattle.msc_handler.specs.declared.Answer.TheVariants.{Refused}
use Rattle.msc_handler.specs.declared.Fed.{Fed}
use Rattle.msc_handler.specs.Promises.{Buffers, buffers, turn_of, FeedPromise}
use Rattle.msc_handler.proofs.Feeding.{feed_refused}
use Rattle.msc_state.specs.declared.State.{State}
use Rattle.msc_state.specs.States.{bad_state, ring_length, feed_refusal, no_description}
use Rattle.thm_msc.specs.Calls.{Held, held, Came, FrontOf, left_in, History, refused, RefusedCall, feed_refused as a-refused-feed}
use Rattle.thm_msc.proofs.Fronts.{own_front, own-left}

-- a state of eighteen symbols is refused by 10, whatever comes with it
abbrev bad : State
bad = record { symbols = 18; cif_in_frame = 0; channel = record { description = no_description; ring_index = 0; cif_count = 0; frames_decoded = 0 } }

abbrev ten : Fed
ten = record { state = bad; answer = Refused BadState }

refused_ten : (b : Buffers) → FeedPromise bad [] b ten b
unfolding feed_refusal bad_state
refused_ten b = feed_refused bad [] b BadState refl

turned_away : (b : Buffers) → turn_of bad [] b ≡ refuses 10
unfolding turn_of feed_refusal bad_state
turned_away b = refl

pub refused-call : (d : Description) (h : Held) (cif ring : List ℤ) → FrontOf cif_bits cif h.cif → FrontOf (ring_length d) ring h.ring → RefusedCall d h (held h.state (left_in cif h.cif) (left_in ring h.ring))
refused-call d h cif ring e f =
    let b : Buffers = buffers cif ring [] [] [] [] [] in
    a-refused-feed 10 bad [] b ten b e f (refused_ten b) (turned_away b)

-- so a caller may go on with other buffers that hold the same
pub swapped : {d : Description} {h : Held} {c : Came} → History d h c → (cif ring : List ℤ) → FrontOf cif_bits cif h.cif → FrontOf (ring_length d) ring h.ring → History d (held h.state (left_in cif h.cif) (left_in ring h.ring)) c
swapped {d} {h} x cif ring e f = refused x (refused-call d h cif ring e f)

pub ring_swapped : {d : Description} {h : Held} {c : Came} → History d h c → (ring : List ℤ) → FrontOf (ring_length d) ring h.ring → History d (held h.state h.cif (left_in ring h.ring)) c
ring_swapped {d} {h} {c} x ring f = subst (λ (cif : List ℤ). History d (held h.state cif (left_in ring h.ring)) c) (own-left h.cif) (swapped x h.cif ring (own_front cif_bits h.cif) f)
