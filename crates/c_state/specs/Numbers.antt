-- docs/DECISIONS.md, "For C": the state of document 01's "msc/mod.rs" as eleven numbers, and back. Too few of them are refusal 8, one that its field does not hold is 10.
use Rattle.std.specs.Prelude.{Bool, cond, List, [], ◌∷◌, ◌++◌, ℕ, ltb, length, get_or, drop}
use Rattle.refusal.specs.Outcome.{check, first_of, any_of}
use Rattle.msc_state.specs.declared.State.{State}
use Rattle.c_description.specs.Places.{describes, short}

abbrev pub flag_of : Bool → ℕ
flag_of eep = cond eep 1 0

-- symbols, CIF in frame, ring index, CIF count, frames decoded, and the description's six
unfoldable pub numbers_of : State → List ℕ
numbers_of s =
    s.symbols ∷ s.cif_in_frame ∷ s.channel.ring_index ∷ s.channel.cif_count ∷ s.channel.frames_decoded ∷ s.channel.description.start_addr ∷ s.channel.description.sub_size
    ∷ s.channel.description.bitrate ∷ s.channel.description.protection_level ∷ s.channel.description.eep_option ∷ flag_of s.channel.description.is_eep ∷ []

-- and back
unfoldable pub state_in : List ℕ → State
state_in xs =
    record {
      symbols = get_or xs 0 0;
      cif_in_frame = get_or xs 1 0;
      channel = record {
        description = describes (get_or xs 5 0) (get_or xs 6 0) (get_or xs 7 0) (get_or xs 8 0) (get_or xs 9 0) (get_or xs 10 0);
        ring_index = get_or xs 2 0;
        cif_count = get_or xs 3 0;
        frames_decoded = get_or xs 4 0;
      };
    }

-- a number that its field does not hold: above 255, or 65,535 for start, size and bit rate
abbrev pub overs : List ℕ → List Bool
overs xs =
    ltb 255 (get_or xs 0 0) ∷ ltb 255 (get_or xs 1 0) ∷ ltb 255 (get_or xs 2 0) ∷ ltb 255 (get_or xs 3 0) ∷ ltb 65535 (get_or xs 5 0) ∷ ltb 65535 (get_or xs 6 0) ∷ ltb 65535 (get_or xs 7 0) ∷ ltb 255 (get_or xs 8 0)
    ∷ ltb 255 (get_or xs 9 0) ∷ []

unfoldable pub out_of_range : List ℕ → Bool
out_of_range xs = any_of (overs xs)

-- a state's numbers before the rest as it was
abbrev pub state_put : State → List ℕ → List ℕ
state_put s xs = numbers_of s ++ drop 11 xs

-- fewer than eleven places, then a number that its field does not hold: 8, 10
abbrev pub state_checks : List ℕ → List ℕ
state_checks xs = short 11 (length xs) ∷ check 10 (out_of_range xs) ∷ []

unfoldable pub state_refusal : List ℕ → ℕ
state_refusal xs = first_of (state_checks xs)
