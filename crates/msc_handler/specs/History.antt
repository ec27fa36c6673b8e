-- Document 01, "msc/mod.rs": what the board and a channel hold once some CIFs have come in whole and some symbols of the next.
use Rattle.std.specs.Prelude.{◌≡◌, cond, List, [], ℕ, ◌+◌, ◌*◌, ◌-◌, ◌/◌, ◌%◌, ◌<◌, min, ltb, length, get_or, take, ℤ, pos}
use Rattle.laws.specs.Integers.{at}
use Rattle.spec_en300401.specs.Interleaving.{symbol_bits, cif_symbols, frame_cifs, unit_bits}
use Rattle.fec_protection.specs.declared.Description.{Description}
use Rattle.msc_state.specs.declared.Channel.{Channel}
use Rattle.msc_handler.specs.Ring.{in_slot}
use Rattle.msc_state.specs.States.{values_of, most_frames}

-- what is taken of a symbol: its first 3,072 values
unfoldable pub symbol_of : List ℤ → List ℤ
symbol_of soft = take symbol_bits soft

-- a CIF as it came in: its symbols in order, of each the values that are taken
abbrev pub Cif : Type 0
Cif = List (List ℤ)

-- value p of a CIF, and value i of the sub-channel's slice of it
unfoldable pub value_at : Cif → ℕ → ℤ
value_at cif p = at (get_or cif (p / symbol_bits) []) (p % symbol_bits)

unfoldable pub slice_value : Description → Cif → ℕ → ℤ
slice_value d cif i = value_at cif (unit_bits * d.start_addr + i)

-- the board, which knows of no channel: the symbols of the CIF begun are counted and stand in the CIF store; whole CIFs are counted modulo 4
pub record BoardHolds (wholes : ℕ) (begun : Cif) (symbols inFrame : ℕ) (cif : List ℤ) : Type 0 where
  pub short : length begun < cif_symbols
  pub counted : symbols ≡ length begun
  pub in_frame : inFrame ≡ wholes % frame_cifs
  pub stored : (p : ℕ) → p < symbol_bits * length begun → at cif p ≡ value_at begun p

-- of whole CIFs, the oldest first: value i of the slice that came j CIFs after the one sixteen CIFs ago; 0 before the first
unfoldable pub held_value : Description → List Cif → ℕ → ℕ → ℤ
held_value d cifs j i = cond (ltb (length cifs + j) 16) (pos 0) (slice_value d (get_or cifs (length cifs + j - 16) []) i)

-- one channel, which knows of no symbol: the ring index counts the whole CIFs modulo 16, the count up to 17, the frames those beyond sixteen;
-- slot w + j of the ring, modulo 16 and with w CIFs whole, holds the slice that came j CIFs after the one sixteen CIFs ago
pub record ChannelHolds (d : Description) (cifs : List Cif) (c : Channel) (ring : List ℤ) : Type 0 where
  pub description : c.description ≡ d
  pub index : c.ring_index ≡ length cifs % 16
  pub count : c.cif_count ≡ min 17 (length cifs)
  pub frames : c.frames_decoded ≡ min most_frames (length cifs - 16)
  pub slots : (j i : ℕ) → j < 16 → i < values_of d → in_slot ring (values_of d) ((length cifs + j) % 16) i ≡ held_value d cifs j i
