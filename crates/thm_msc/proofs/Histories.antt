-- What the state, the CIF store and the ring hold after any history of calls.
-- Assumes nothing.
use mathlib.Core.Path.{◌≡◌, refl, sym, ap, ◌∙◌, subst}
use mathlib.Core.Bool.{Bool, true, false}
use mathlib.Core.List.{List, [], ◌∷◌, ◌++◌}
use Prim.Native.Nat.{ℕ, zero, suc, ◌+◌, ◌*◌, ◌%◌, ◌<◌, ◌≤◌}
use native.Mathlib.Omega.{arith}
use native.Mathlib.Decide.{dec_lt}
use native.Mathlib.Nat.{not-suc-le-zero}
use borrow.Author.Tests.{leb-true, leb-false}
use lib.ListN.{length, get_or, drop, length-append, length-drop, get_or-append}
use lib.Seq.{length-paste, length-take-le, get_or-append_seam, get_or-append-add, get_or-take, get_or-drop}
use lib.IntN.{ℤ, pos}
use Rattle.laws.specs.Integers.{at}
use Rattle.spec_en300401.specs.Interleaving.{delay, symbol_bits, cif_bits}
use Rattle.fec_protection.specs.declared.Description.{Description}
use Rattle.refusal.specs.Outcome.{told, gives, refuses, outcome, unless_refused}
use Rattle.fec_protection.specs.Refusals.{Accepted}
use Rattle.fec_protection.proofs.Accepted.{units-inside}
use Rattle.refusal.proofs.Laws.{given_number, is_refusal}
use Rattle.refusal.proofs.Checks.{clean, zeroed, held_not}
use Rattle.msc_handler.specs.declared.Fed.{Fed}
use Rattle.msc_set_up.specs.declared.SetUp.{SetUp}
use Rattle.msc_state.specs.declared.State.{State}
use Rattle.msc_handler.specs.History.{symbol_of, Cif, value_at, slice_value, BoardHolds}
use Rattle.msc_handler.specs.Promises.{Buffers, lengths_of, refusal_in, step_of, Turn, gathers, completes, turn_of, slice_of, delayed}
use Rattle.msc_handler.specs.Ring.{stored, part, refilled}
use Rattle.msc_set_up.specs.Promises.{cleared, Prepared}
use Rattle.msc_state.specs.States.{bad_state, values_of, ring_length, started_at, fresh_state, set_up_checks, set_up_refusal, reset_checks, reset_refusal, whole, channel_after}
use Rattle.msc_handler.proofs.Feeding.{fed-refuses, fed-gathers, fed-completes}
use Rattle.msc_handler.proofs.History.{board_fresh, board_elsewhere, board_symbol, board_middle, board-whole, channel_fresh, channel_elsewhere, channel_next, channel_reads_last}
use Rattle.thm_msc.proofs.Moves.{after_middle, after-whole}
use Rattle.msc_state.proofs.Refusals.{Sound, sound, set_up_long, reset_long, Accepted as CallAccepted, accepted}
use Rattle.spec_sender.specs.Msc.{place_of}
use Rattle.thm_msc.specs.Calls.{Held, held, held_after, Came, came, after, HeldCall, History, RefusedCall, set_up_refused, reset_refused, feed_refused, set_up, reset, refused, fed, Holds}
use Rattle.thm_msc.specs.Heard.{LastSixteen}
use Rattle.thm_msc.specs.Theorems.{IsHeld}
use Rattle.thm_msc.proofs.Fronts.{front_at, left_at}

-- ---- set-up and reset, by their answer

refused-second : {A : Type 0} (n k : ℕ) (a b : A) → outcome {A = Unit {0}} n tt ≡ refuses k → unless_refused n a b ≡ b
refused-second zero k a b e = let z : ◌≡◌ {A = ℕ} 0 1 = cc in absurd (omega arith)
refused-second (suc n) k a b e = refl

module _ {n : ℕ} {d : Description} {other : State} {ring : List ℤ} {r : SetUp} {ring' : List ℤ} (p : Prepared n d other ring r ring') where
  not_refused : told r.answer ≡ gives tt → n ≡ 0
  not_refused e = given_number n tt tt (sym e ∙ p.answer)

  ring_kept : (k : ℕ) → told r.answer ≡ refuses k → ring' ≡ ring
  ring_kept k e = p.ring_is ∙ refused-second n k _ ring (sym p.answer ∙ e)

  -- nothing has come in
  prepared_holds : (cif : List ℤ) → n ≡ 0 → ring_length d ≤ length ring → Holds d (came [] []) (held r.state cif ring')
  unfolding started_at
  prepared_holds cif e needed =
      let s : r.state ≡ fresh_state d = p.state ∙ ap (λ (m : ℕ). unless_refused m (fresh_state d) other) e in
      let q : ring' ≡ cleared d ring = p.ring_is ∙ ap (λ (m : ℕ). unless_refused m (cleared d ring) ring) e in
      let fresh : Holds d (came [] []) (held (fresh_state d) cif (cleared d ring)) = record { eighteen = λ k l. absurd (not-suc-le-zero l); board = board_fresh cif; channel = channel_fresh d ring needed } in
      subst (Holds d (came [] [])) (λ i. held (sym s i) cif (sym q i)) fresh

-- ---- a feed call, by its turn

turn-gathers : (n : ℕ) (w : Bool) → outcome n (step_of w) ≡ gives gathers → (n ≡ 0) × (w ≡ false)
turn-gathers zero false e = (refl, refl)
turn-gathers zero true e = let z : ◌≡◌ {A = ℕ} 0 1 = cc in absurd (omega arith)
turn-gathers (suc n) w e = let z : ◌≡◌ {A = ℕ} 0 1 = cc in absurd (omega arith)

turn-completes : (n : ℕ) (w : Bool) → outcome n (step_of w) ≡ gives completes → (n ≡ 0) × (w ≡ true)
turn-completes zero true e = (refl, refl)
turn-completes zero false e = let z : ◌≡◌ {A = ℕ} 0 1 = cc in absurd (omega arith)
turn-completes (suc n) w e = let z : ◌≡◌ {A = ℕ} 0 1 = cc in absurd (omega arith)

-- ---- lengths that a symbol and a slice leave

pub stored-length : (cif soft : List ℤ) {k : ℕ} → k ≤ 17 → cif_bits ≤ length cif → symbol_bits ≤ length soft → length (stored cif k soft) ≡ length cif
unfolding stored
stored-length cif soft {k} l m n = length-paste cif (symbol_bits * k) soft symbol_bits (omega arith) n

pub slice_length : (d : Description) (cif : List ℤ) → d.start_addr + d.sub_size ≤ 864 → cif_bits ≤ length cif → length (slice_of d cif) ≡ values_of d
unfolding part
slice_length d cif inside l = length-take-le (values_of d) (drop (64 * d.start_addr) cif) (omega (arith, length-drop (64 * d.start_addr) cif))

-- ---- the calls, one by one

module _ {d : Description} {c : Came} {h : Held} (v : Holds d c h) where
  -- the same over other stores with the same values in their needed part
  elsewhere : {cif ring : List ℤ} → ((p : ℕ) → p < cif_bits → at cif p ≡ at h.cif p) → ((p : ℕ) → p < ring_length d → at ring p ≡ at h.ring p) → Holds d c (held h.state cif ring)
  elsewhere e f = record { eighteen = v.eighteen; board = board_elsewhere v.board e; channel = channel_elsewhere v.channel f }

  after-refused : {h' : Held} → RefusedCall d h h' → Holds d c h'
  unfolding turn_of
  after-refused (set_up_refused n e ring r ring' front p q) = elsewhere (λ p l. refl) (left_at (pos 0) (ring_length d) ring h.ring front ring' (ring_kept p n q))
  after-refused (reset_refused n s ring r ring' front p q) = elsewhere (λ p l. refl) (left_at (pos 0) (ring_length d) ring h.ring front ring' (ring_kept p n q))
  after-refused (feed_refused n s soft b r b' front-cif front-ring p q) =
      let u = (fed-refuses s soft b p (is_refusal (refusal_in s soft b) (step_of (whole s)) n (sym q))).1 in
      elsewhere (left_at (pos 0) cif_bits b.cif h.cif front-cif b'.cif (ap (λ (x : Buffers). x.cif) u)) (left_at (pos 0) (ring_length d) b.ring h.ring front-ring b'.ring (ap (λ (x : Buffers). x.ring) u))

  module _ {soft : List ℤ} {b : Buffers} {r : Fed} {b' : Buffers} (call : HeldCall d h soft b r b') where
    -- over the buffers of a call
    pub now : Holds d c (held h.state b.cif b.ring)
    now = elsewhere (front_at (pos 0) cif_bits b.cif h.cif call.cif_kept) (front_at (pos 0) (ring_length d) b.ring h.ring call.ring_kept)

    abbrev s : State
    s = h.state

    abbrev begun' : Cif
    begun' = c.begun ++ (symbol_of soft ∷ [])

    module _ (none : refusal_in s soft b ≡ 0) where
      taken : CallAccepted s (length soft) (lengths_of b)
      taken = accepted s (length soft) (lengths_of b) none

      next_middle : s.symbols < 17 → Holds d (came c.cifs begun') (held_after r b')
      next_middle l =
          let g = fed-gathers s soft b call.promise none l in
          let m : r.state ≡ record { symbols = s.symbols + 1; cif_in_frame = s.cif_in_frame; channel = s.channel } = g.moved ∙ after_middle s l in
          subst (Holds d (came c.cifs begun')) (λ i. held (sym m i) (sym g.kept i) (sym g.ring_same i))
          (record { eighteen = v.eighteen; board = board_middle now.board soft taken.lengths.cif_long taken.symbol l; channel = now.channel })

      module _ (full : 17 ≤ s.symbols) where
        -- the sub-channel's slice of the CIF that is now whole
        abbrev filled : List ℤ
        filled = stored b.cif s.symbols soft

        abbrev own : List ℤ
        own = slice_of d filled

        seventeen : length c.begun ≡ 17
        seventeen = omega (arith, v.board.short, v.board.counted)

        filled_long : length filled ≡ length b.cif
        filled_long = stored-length b.cif soft taken.state.symbols taken.lengths.cif_long taken.symbol

        place : d.start_addr + d.sub_size ≤ 864
        place = subst (λ (e : Description). e.start_addr + e.sub_size ≤ 864) v.channel.description (units-inside s.channel.description taken.state.description)

        own-long : length own ≡ values_of d
        own-long = slice_length d filled place (omega (arith, filled_long, taken.lengths.cif_long))

        own_at : (i : ℕ) → i < values_of d → at own i ≡ slice_value d begun' i
        unfolding part slice_value
        own_at i l =
            get_or-take (values_of d) (drop (64 * d.start_addr) filled) i (pos 0) l
            ∙ get_or-drop (64 * d.start_addr) filled i (pos 0)
            ∙ board_symbol now.board soft taken.lengths.cif_long taken.symbol (64 * d.start_addr + i) (omega (arith, place, seventeen))

        ring_long : ring_length d ≤ length b.ring
        ring_long = subst (λ (e : Description). ring_length e ≤ length b.ring) v.channel.description taken.lengths.ring_long

        ring_is : b'.ring ≡ refilled b.ring (values_of d) s.channel.ring_index own
        ring_is = (fed-completes s soft b call.promise none full).ring_is ∙ ap (λ (e : Description). refilled b.ring (values_of e) s.channel.ring_index (slice_of e filled)) v.channel.description

        more : length (c.cifs ++ (begun' ∷ [])) ≡ length c.cifs + 1
        more = length-append c.cifs (begun' ∷ [])

        eighteen_more : (k : ℕ) → k < length (c.cifs ++ (begun' ∷ [])) → length (get_or (c.cifs ++ (begun' ∷ [])) k []) ≡ 18
        eighteen_more k l = go (dec_lt k (length c.cifs))
          where
            go : Dec (k < length c.cifs) → length (get_or (c.cifs ++ (begun' ∷ [])) k []) ≡ 18
            go (yes y) = ap length (get_or-append c.cifs (begun' ∷ []) [] k y) ∙ v.eighteen k y
            go (no n) =
                let is : k ≡ length c.cifs = omega (arith, more) in
                ap length (ap (λ (m : ℕ). get_or (c.cifs ++ (begun' ∷ [])) m []) is ∙ get_or-append_seam c.cifs begun' [] []) ∙ length-append c.begun (symbol_of soft ∷ []) ∙ omega (arith, seventeen)

        next_whole : Holds d (came (c.cifs ++ (begun' ∷ [])) []) (held_after r b')
        next_whole =
            let m : r.state ≡ record { symbols = 0; cif_in_frame = (s.cif_in_frame + 1) % 4; channel = channel_after s.channel } = (fed-completes s soft b call.promise none full).moved ∙ after-whole s full in
            subst (Holds d (came (c.cifs ++ (begun' ∷ [])) [])) (λ i. held (sym m i) b'.cif (sym ring_is i))
            (record {
              eighteen = eighteen_more;
              board = subst (λ (w : ℕ). BoardHolds w [] 0 ((s.cif_in_frame + 1) % 4) b'.cif) (sym more) (board-whole now.board b'.cif);
              channel = channel_next now.channel begun' own ring_long (omega (arith, own-long)) own_at;
            })

    next : (t : Turn) → turn_of s soft b ≡ t → Holds d (after t soft c) (held_after r b')
    unfolding turn_of
    next (refuses k) e =
        let u = fed-refuses s soft b call.promise (is_refusal (refusal_in s soft b) (step_of (whole s)) k (sym e)) in
        subst (Holds d c) (λ i. held (sym u.0 i) (sym u.1 i).cif (sym u.1 i).ring) now
    next (gives gathers) e = let t = turn-gathers (refusal_in s soft b) (whole s) e in next_middle t.0 (leb-false 17 s.symbols t.1)
    next (gives completes) e = let t = turn-completes (refusal_in s soft b) (whole s) e in next_whole t.0 (leb-true 17 s.symbols t.1)

pub holds : IsHeld
holds d _ _ (set_up cif ring r ring' p e) = prepared_holds p cif (not_refused p e) (set_up_long d (length ring) (not_refused p e))
holds d _ _ (reset s cif ring r ring' q p e) = subst (λ (u : Description). Holds u (came [] []) (held r.state cif ring')) q (prepared_holds p cif (not_refused p e) (reset_long s (length ring) (not_refused p e)))
holds d _ c (refused {h} x q) = after-refused (holds d h c x) q
holds d _ _ (fed {h} {c} soft b r b' x call) = next (holds d h c x) call (turn_of h.state soft b) refl

-- the description was accepted
pub accepted_since : {d : Description} {h : Held} {c : Came} → History d h c → Accepted d
unfolding set_up_refusal reset_refusal
accepted_since {d} (set_up cif ring r ring' p e) = zeroed (clean (set_up_checks d (length ring)) (not_refused p e))
accepted_since (reset s cif ring r ring' q p e) = subst Accepted q (sound s (held_not 9 (bad_state s) (zeroed (clean (reset_checks s (length ring)) (not_refused p e))))).description
accepted_since (refused x q) = accepted_since x
accepted_since (fed soft b r b' x call) = accepted_since x

-- no count is beyond its range
pub state_sound : {d : Description} {h : Held} {c : Came} → History d h c → Sound h.state
state_sound {d} {h} {c} x =
    let v = holds d h c x in
    record {
      symbols = omega (arith, v.board.counted, v.board.short);
      in_frame = omega (arith, v.board.in_frame);
      index = omega (arith, v.channel.index);
      count = omega (arith, v.channel.count);
      description = subst Accepted (sym v.channel.description) (accepted_since x);
    }

-- ---- what a call reads of the ring once sixteen CIFs are whole

module _ {d : Description} {h : Held} {c : Came} (x : History d h c) {soft : List ℤ} {b : Buffers} {r : Fed} {b' : Buffers} (call : HeldCall d h soft b r b') (n : LastSixteen c.cifs) where
  wholes_long : length c.cifs ≡ length n.earlier + 16
  wholes_long = ap length n.split ∙ length-append n.earlier n.last ∙ ap (λ (k : ℕ). length n.earlier + k) n.sixteen

  pub count_is : 16 ≤ h.state.channel.cif_count
  count_is = omega (arith, (holds d h c x).channel.count, wholes_long)

  -- value i is of the CIF that came delay i CIFs after the first of the sixteen
  pub reads_last : (i : ℕ) → i < values_of d → at (delayed h.state.channel b.ring) i ≡ value_at (get_or n.last (delay i) []) (place_of d i)
  unfolding slice_value place_of
  reads_last i l =
      channel_reads_last (now (holds d h c x) call).channel (length n.earlier) i wholes_long l
      ∙ ap (λ (t : Cif). value_at t (64 * d.start_addr + i)) (ap (λ (cs : List Cif). get_or cs (length n.earlier + delay i) []) n.split ∙ get_or-append-add n.earlier n.last (delay i) [])
