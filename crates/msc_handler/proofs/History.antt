-- One symbol or one whole CIF more, for the board alone and for a channel alone; and what a whole CIF reads of the ring.
-- Assumes nothing.
use mathlib.Core.Path.{◌≡◌, refl, sym, ap, ap₂, ◌∙◌, subst}
use mathlib.Core.Logic.{◌⊎◌, inl, inr}
use mathlib.Core.Bool.{Bool, cond}
use mathlib.Core.List.{List, [], ◌∷◌, ◌++◌}
use Prim.Native.Nat.{ℕ, ◌+◌, ◌*◌, ◌-◌, ◌/◌, ◌%◌, ◌<◌, ◌≤◌, min}
use native.Mathlib.Omega.{arith}
use native.Mathlib.Decide.{dec_lt, ℕ_discrete}
use native.Mathlib.Nat.{suc-mul, mul-le-mul_right, mod-add-mod}
use borrow.Author.Tests.{lt-ltb, le-ltb, le-leb, lt-leb}
use lib.Dec.{ltb, leb}
use lib.ListN.{length, get_or, drop, replicate, length-append, length-replicate, get_or-replicate, get_or-append}
use lib.Seq.{paste, get_or-append_seam, get_or-take}
use lib.IntN.{ℤ, pos}
use Rattle.laws.specs.Integers.{at}
use Rattle.laws.proofs.Lists.{list_of-at}
use Rattle.laws.proofs.Pasted.{pasted_inside, pasted_else}
use Rattle.spec_en300401.specs.Interleaving.{cif_bits, symbol_bits, delay}
use Rattle.spec_en300401.proofs.Interleaving.{delay-lt}
use Rattle.fec_protection.specs.declared.Description.{Description}
use Rattle.msc_set_up.specs.Promises.{cleared}
use Rattle.msc_state.specs.declared.Channel.{Channel}
use Rattle.msc_state.specs.States.{values_of, ring_length, started_at, fresh_state, most_frames, channel_after}
use Rattle.msc_handler.specs.History.{symbol_of, Cif, value_at, slice_value, BoardHolds, held_value, ChannelHolds}
use Rattle.msc_handler.specs.Promises.{delayed}
use Rattle.msc_handler.specs.Ring.{stored, in_slot, slot_of, read_out, refilled}
use Rattle.msc_handler.proofs.Ring.{slot_end}

-- ---- the board

-- before any symbol, whatever the CIF store holds
pub board_fresh : (cif : List ℤ) → BoardHolds 0 [] 0 0 cif
board_fresh cif = record { short = omega arith; counted = refl; in_frame = refl; stored = λ p l. absurd (omega arith) }

taken_at : (soft : List ℤ) (j : ℕ) → j < symbol_bits → at (symbol_of soft) j ≡ at soft j
unfolding symbol_of
taken_at soft j l = get_or-take symbol_bits soft j (pos 0) l

module _ {wholes : ℕ} {begun : Cif} {symbols inFrame : ℕ} {cif : List ℤ} (v : BoardHolds wholes begun symbols inFrame cif) where
  -- no value of the CIF store beyond a CIF's counts
  pub board_elsewhere : {cif₂ : List ℤ} → ((p : ℕ) → p < cif_bits → at cif₂ p ≡ at cif p) → BoardHolds wholes begun symbols inFrame cif₂
  board_elsewhere e = record { short = v.short; counted = v.counted; in_frame = v.in_frame; stored = λ p l. e p (omega (arith, v.short)) ∙ v.stored p l }

  module _ (soft : List ℤ) (needed : cif_bits ≤ length cif) (long : symbol_bits ≤ length soft) where
    abbrev with_it : Cif
    with_it = begun ++ (symbol_of soft ∷ [])

    with_length : length with_it ≡ length begun + 1
    with_length = length-append begun (symbol_of soft ∷ [])

    fits : symbol_bits * symbols + symbol_bits ≤ length cif
    fits = omega (arith, v.short, v.counted)

    -- the CIF store holds the symbol too
    pub board_symbol : (p : ℕ) → p < symbol_bits * (length begun + 1) → at (stored cif symbols soft) p ≡ value_at with_it p
    unfolding stored value_at
    board_symbol p l = go (dec_lt p (symbol_bits * symbols))
      where
        go : Dec (p < symbol_bits * symbols) → at (paste cif (symbol_bits * symbols) soft symbol_bits) p ≡ at (get_or with_it (p / symbol_bits) []) (p % symbol_bits)
        go (yes y) =
            pasted_else (pos 0) cif (symbol_bits * symbols) soft symbol_bits fits long p (inl y) ∙ v.stored p (omega (arith, v.counted))
            ∙ sym (ap (λ (t : List ℤ). at t (p % symbol_bits)) (get_or-append begun (symbol_of soft ∷ []) [] (p / symbol_bits) (omega (arith, v.counted))))
        go (no n) =
            let j : ℕ = p - symbol_bits * symbols in
            let e : symbols ≡ length begun = v.counted in
            let k : j < symbol_bits = omega arith in
            let q : symbol_bits * symbols + j ≡ p = omega arith in
            let a : p / symbol_bits ≡ length begun = omega arith in
            let b : p % symbol_bits ≡ j = omega arith in
            ap (at (paste cif (symbol_bits * symbols) soft symbol_bits)) (sym q)
            ∙ pasted_inside (pos 0) cif (symbol_bits * symbols) soft symbol_bits fits long j k
            ∙ sym (taken_at soft j k)
            ∙ sym (ap₂ (λ (x y : ℕ). at (get_or with_it x []) y) a b ∙ ap (λ (t : List ℤ). at t j) (get_or-append_seam begun (symbol_of soft) [] []))

    -- one symbol more, in the middle of a CIF
    pub board_middle : symbols < 17 → BoardHolds wholes with_it (symbols + 1) inFrame (stored cif symbols soft)
    board_middle h =
        let e : symbols ≡ length begun = v.counted in
        record { short = omega (arith, with_length); counted = omega (arith, with_length); in_frame = v.in_frame; stored = λ p l. board_symbol p (omega (arith, with_length)) }

  -- one whole CIF more: no symbol counts any longer
  pub board-whole : (cif₂ : List ℤ) → BoardHolds (wholes + 1) [] 0 ((inFrame + 1) % 4) cif₂
  board-whole cif₂ = record { short = omega arith; counted = refl; in_frame = ap (λ (k : ℕ). (k + 1) % 4) v.in_frame ∙ mod-add-mod wholes 4 1; stored = λ p l. absurd (omega arith) }

-- ---- a channel

-- before any CIF, with a ring of zeros
module _ (d : Description) (ring : List ℤ) (needed : ring_length d ≤ length ring) where
  fresh_slots : (j i : ℕ) → j < 16 → i < values_of d → in_slot (cleared d ring) (values_of d) ((0 + j) % 16) i ≡ held_value d [] j i
  unfolding cleared held_value
  fresh_slots j i k l =
      let s : (0 + j) % 16 ≡ j = omega arith in
      let e : j * values_of d + i < ring_length d = omega (arith, slot_end j 16 (values_of d) i k l) in
      ap (λ (t : ℕ). at (replicate (ring_length d) (pos 0) ++ drop (ring_length d) ring) (t * values_of d + i)) s
      ∙ get_or-append (replicate (ring_length d) (pos 0)) (drop (ring_length d) ring) (pos 0) (j * values_of d + i) (omega (arith, length-replicate (ring_length d) (pos 0)))
      ∙ get_or-replicate (ring_length d) (j * values_of d + i) (pos 0) (pos 0) e
      ∙ sym (ap (λ (b : Bool). cond b (pos 0) (slice_value d (get_or [] (0 + j - 16) []) i)) (lt-ltb (0 + j) 16 (omega arith)))

  pub channel_fresh : ChannelHolds d [] (fresh_state d).channel (cleared d ring)
  unfolding started_at
  channel_fresh = record { description = refl; index = refl; count = refl; frames = refl; slots = fresh_slots }

-- the ring once slot x has taken a whole CIF's slice
module _ (n : ℕ) (ring own : List ℤ) (x : ℕ) (index : x < 16) (needed : 16 * n ≤ length ring) (long : n ≤ length own) where
  slot_fits : x * n + n ≤ length ring
  slot_fits = omega (arith, suc-mul x n, mul-le-mul_right n index)

  new_slot : (i : ℕ) → i < n → in_slot (refilled ring n x own) n x i ≡ at own i
  unfolding refilled
  new_slot i l = pasted_inside (pos 0) ring (x * n) own n slot_fits long i l

  other_slot : (s i : ℕ) → (s ≡ x → ⊥) → i < n → in_slot (refilled ring n x own) n s i ≡ in_slot ring n s i
  unfolding refilled
  other_slot s i ne l = pasted_else (pos 0) ring (x * n) own n slot_fits long (s * n + i) (go (dec_lt s x))
    where
      go : Dec (s < x) → (s * n + i < x * n) ⊎ (x * n + n ≤ s * n + i)
      go (yes y) = inl (slot_end s x n i y l)
      go (no m) =
          let g : x < s = omega arith in
          inr (omega (arith, suc-mul x n, mul-le-mul_right n g))

-- the number of frames after one whole CIF more
frames_next : (w count frames : ℕ) → count ≡ min 17 w → frames ≡ min most_frames (w - 16) → cond (leb 16 count) (min most_frames (frames + 1)) frames ≡ min most_frames (w + 1 - 16)
frames_next w count frames e f = go (dec_lt count 16)
  where
    go : Dec (count < 16) → cond (leb 16 count) (min most_frames (frames + 1)) frames ≡ min most_frames (w + 1 - 16)
    go (yes y) = ap (λ (b : Bool). cond b (min most_frames (frames + 1)) frames) (lt-leb 16 count y) ∙ omega arith
    go (no n) = ap (λ (b : Bool). cond b (min most_frames (frames + 1)) frames) (le-leb 16 count (omega arith)) ∙ omega arith

module _ {d : Description} {cifs : List Cif} {c : Channel} {ring : List ℤ} (v : ChannelHolds d cifs c ring) where
  -- no value of the ring beyond its needed length counts
  pub channel_elsewhere : {ring₂ : List ℤ} → ((p : ℕ) → p < ring_length d → at ring₂ p ≡ at ring p) → ChannelHolds d cifs c ring₂
  channel_elsewhere {ring₂} e =
      record {
        description = v.description;
        index = v.index;
        count = v.count;
        frames = v.frames;
        slots = λ j i k l.
            let s : ℕ = (length cifs + j) % 16 in
            let below : s < 16 = omega arith in
            e (s * values_of d + i) (omega (arith, slot_end s 16 (values_of d) i below l)) ∙ v.slots j i k l;
      }

  -- one whole CIF more, whose slice is `own`
  module _ (cif : Cif) (own : List ℤ) (needed : ring_length d ≤ length ring) (long : values_of d ≤ length own) (is : (i : ℕ) → i < values_of d → at own i ≡ slice_value d cif i) where
    abbrev next : List Cif
    next = cifs ++ (cif ∷ [])

    abbrev w : ℕ
    w = length cifs

    next_length : length next ≡ w + 1
    next_length = length-append cifs (cif ∷ [])

    abbrev ring' : List ℤ
    ring' = refilled ring (values_of d) (w % 16) own

    -- the same slice, counted from one CIF later
    held-earlier : (j i : ℕ) → j < 15 → held_value d cifs (j + 1) i ≡ cond (ltb (w + 1 + j) 16) (pos 0) (slice_value d (get_or next (w + 1 + j - 16) []) i)
    unfolding held_value
    held-earlier j i k = go (dec_lt (w + (j + 1)) 16)
      where
        same : w + (j + 1) ≡ w + 1 + j
        same = omega arith

        go : Dec (w + (j + 1) < 16) → cond (ltb (w + (j + 1)) 16) (pos 0) (slice_value d (get_or cifs (w + (j + 1) - 16) []) i) ≡ cond (ltb (w + 1 + j) 16) (pos 0) (slice_value d (get_or next (w + 1 + j - 16) []) i)
        go (yes y) = rw (lt-ltb (w + (j + 1)) 16 y, lt-ltb (w + 1 + j) 16 (omega arith)) refl
        go (no n) =
            let inside : w + (j + 1) - 16 < w = omega arith in
            ap (λ (t : List (List ℤ)). cond (ltb (w + (j + 1)) 16) (pos 0) (slice_value d t i)) (sym (get_or-append cifs (cif ∷ []) [] (w + (j + 1) - 16) inside))
            ∙ ap (λ (m : ℕ). cond (ltb m 16) (pos 0) (slice_value d (get_or next (m - 16) []) i)) same

    slots_next : (j i : ℕ) → j < 16 → i < values_of d → in_slot ring' (values_of d) ((w + 1 + j) % 16) i ≡ cond (ltb (w + 1 + j) 16) (pos 0) (slice_value d (get_or next (w + 1 + j - 16) []) i)
    slots_next j i k l = go (ℕ_discrete j 15)
      where
        go : Dec (j ≡ 15) → in_slot ring' (values_of d) ((w + 1 + j) % 16) i ≡ cond (ltb (w + 1 + j) 16) (pos 0) (slice_value d (get_or next (w + 1 + j - 16) []) i)
        go (yes y) =
            let slot : (w + 1 + j) % 16 ≡ w % 16 = omega arith in
            let last : w + 1 + j - 16 ≡ w = omega arith in
            ap (λ (x : ℕ). in_slot ring' (values_of d) x i) slot
            ∙ new_slot (values_of d) ring own (w % 16) (omega arith) (omega arith) long i l ∙ is i l
            ∙ sym (ap₂ (λ (b : Bool) (m : ℕ). cond b (pos 0) (slice_value d (get_or next m []) i)) (le-ltb (w + 1 + j) 16 (omega arith)) last ∙ ap (λ (t : Cif). slice_value d t i) (get_or-append_seam cifs cif [] []))
        go (no n) =
            let slot : (w + 1 + j) % 16 ≡ (w + (j + 1)) % 16 = omega arith in
            ap (λ (x : ℕ). in_slot ring' (values_of d) x i) slot
            ∙ other_slot (values_of d) ring own (w % 16) (omega arith) (omega arith) long ((w + (j + 1)) % 16) i (λ e. omega arith) l
            ∙ v.slots (j + 1) i (omega arith) l
            ∙ held-earlier j i (omega arith)

    pub channel_next : ChannelHolds d next (channel_after c) (refilled ring (values_of d) c.ring_index own)
    unfolding channel_after held_value
    channel_next =
        record {
          description = v.description;
          index = ap (λ (k : ℕ). (k + 1) % 16) v.index ∙ mod-add-mod w 16 1 ∙ sym (ap (λ (k : ℕ). k % 16) next_length);
          count = omega (arith, v.count, next_length);
          frames = frames_next w c.cif_count c.frames_decoded v.count v.frames ∙ sym (ap (λ (k : ℕ). min most_frames (k - 16)) next_length);
          slots = λ j i k l.
              (λ t. in_slot (refilled ring (values_of d) (v.index t) own) (values_of d) ((next_length t + j) % 16) i) ∙ slots_next j i k l
              ∙ sym (ap (λ (m : ℕ). cond (ltb (m + j) 16) (pos 0) (slice_value d (get_or next (m + j - 16) []) i)) next_length);
        }

  -- value i that the next whole CIF reads of the ring is value i of the slice that came delay i CIFs after the one sixteen CIFs ago
  pub channel_reads : (i : ℕ) → i < values_of d → at (delayed c ring) i ≡ held_value d cifs (delay i) i
  unfolding read_out
  channel_reads i l =
      let n = values_of c.description in
      let here : i < n = subst (λ (u : Description). i < values_of u) (sym v.description) l in
      list_of-at n (λ (k : ℕ). in_slot ring n (slot_of c.ring_index k) k) (pos 0) i here
      ∙ (λ t. in_slot ring (values_of (v.description t)) ((v.index t + delay i) % 16) i)
      ∙ ap (λ (q : ℕ). in_slot ring (values_of d) q i) (mod-add-mod (length cifs) 16 (delay i))
      ∙ v.slots (delay i) i (delay-lt i) l

  -- so once sixteen are whole it is of one of the last sixteen
  pub channel_reads_last : (before i : ℕ) → length cifs ≡ before + 16 → i < values_of d → at (delayed c ring) i ≡ slice_value d (get_or cifs (before + delay i) []) i
  unfolding held_value
  channel_reads_last before i e l =
      channel_reads i l
      ∙ ap (λ (m : ℕ). cond (ltb (m + delay i) 16) (pos 0) (slice_value d (get_or cifs (m + delay i - 16) []) i)) e
      ∙ ap₂ (λ (b : Bool) (m : ℕ). cond b (pos 0) (slice_value d (get_or cifs m []) i)) (le-ltb (before + 16 + delay i) 16 (omega arith)) (omega arith)
