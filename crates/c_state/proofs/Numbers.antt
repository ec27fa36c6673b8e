-- A state to eleven numbers and back, and the tests of the numbers.
-- Assumes nothing.
use Rattle.std.proofs.Common.{◌≡◌, refl, sym, ap, ◌∙◌, Bool, true, false, not, List, ℕ, ◌<◌, ◌≤◌, ◌+◌, ltb, eqb, length, get_or, Result, Ok, Err, arith}
use Rattle.std.specs.Result.{IsErrAnd}
use mathlib.Core.Bool.{true≢false}
use borrow.Author.Tests.{lt-ltb, le-ltb, ltb-false}
use Rattle.refusal.specs.Outcome.{Outcome, refuses, gives, outcome, told, any_of}
use Rattle.refusal.specs.declared.Refusal.{Refusal}
use Rattle.refusal.specs.declared.Refusal.TheVariants.{BadState}
use Rattle.refusal.proofs.Checks.{none_of, off_at, clean, zeroed, held_not}
use Rattle.fec_protection.specs.declared.Description.{Description}
use Rattle.msc_state.specs.declared.State.{State}
use Rattle.c_description.specs.Places.{describes}
use Rattle.c_state.specs.Numbers.{flag_of, numbers_of, state_in, overs, out_of_range, state_put, state_checks, state_refusal}

-- ---- the tests of the numbers

pub under_eleven : (xs : List ℕ) → length xs < 11 → refuses 8 ≡ outcome (state_refusal xs) (state_in xs)
unfolding state_refusal
under_eleven xs h = rw (lt-ltb _ _ h) refl

-- one flag of some holds
some_flag : (bs : List Bool) (k : ℕ) → get_or bs k false ≡ true → any_of bs ≡ true
some_flag bs k e = go (any_of bs) refl
  where
    go : (b : Bool) → any_of bs ≡ b → any_of bs ≡ true
    go true q = q
    go false q = absurd (true≢false (sym e ∙ off_at (none_of bs q) k))

-- number n, of test k, is above what its field holds
pub over_field : {E : Type 0} (xs : List ℕ) (k most n : ℕ) {x : Refusal} (r : Result State Refusal)
    → get_or (overs xs) k false ≡ ltb most n → 11 ≤ length xs → (x ≡ BadState) × ((e : E) × (n < most + 1 → ⊥)) → IsErrAnd r (λ y. y ≡ x) → told r ≡ outcome (state_refusal xs) (state_in xs)
unfolding state_refusal out_of_range
over_field xs k most n (Ok s) e l f g = absurd g
over_field xs k most n (Err y) e l f g =
    let over : any_of (overs xs) ≡ true = some_flag (overs xs) k (e ∙ lt-ltb most n (let h = f.1.1 in omega arith)) in
    rw (le-ltb _ _ l, over) (ap (λ (z : Refusal). told {A = State} (Err z)) (g ∙ f.0))

-- a number that its field holds
abbrev pub Fits : ℕ → ℕ → ℕ → Type 0
Fits most n x = (n < most + 1) × (x ≡ n)

at_most : (most : ℕ) {n x : ℕ} → Fits most n x → ltb most n ≡ false
at_most most {n} f = le-ltb most n (let h = f.0 in omega arith)

pub all_fit : (xs : List ℕ) → 11 ≤ length xs → (start size rate level option index count symbols in_frame : ℕ)
    → Fits 65535 (get_or xs 5 0) start → Fits 65535 (get_or xs 6 0) size → Fits 65535 (get_or xs 7 0) rate → Fits 255 (get_or xs 8 0) level → Fits 255 (get_or xs 9 0) option
    → Fits 255 (get_or xs 2 0) index → Fits 255 (get_or xs 3 0) count → Fits 255 (get_or xs 0 0) symbols → Fits 255 (get_or xs 1 0) in_frame
    → ◌≡◌ {A = Outcome State}
    (gives
    (record {
      symbols = symbols;
      cif_in_frame = in_frame;
      channel = record {
        description = record { start_addr = start; sub_size = size; bitrate = rate; protection_level = level; eep_option = option; is_eep = not (eqb (get_or xs 10 0) 0) };
        ring_index = index;
        cif_count = count;
        frames_decoded = get_or xs 4 0;
      };
    }))
    (outcome (state_refusal xs) (state_in xs))
unfolding state_refusal out_of_range state_in describes
all_fit xs l _ _ _ _ _ _ _ _ _ start size rate level option index count symbols in_frame =
    rw (le-ltb _ _ l, at_most 255 symbols, at_most 255 in_frame, at_most 255 index, at_most 255 count, at_most 65535 start, at_most 65535 size, at_most 65535 rate, at_most 255 level, at_most 255 option) (cc)

-- ---- a state that was written and is read again

-- a state that may be read
pub long_enough : (state : List ℕ) → state_refusal state ≡ 0 → 11 ≤ length state
unfolding state_refusal
long_enough state e = ltb-false (length state) 11 (held_not 7 (ltb (length state) 11) (zeroed (clean (state_checks state) e)))

described_back : (d : Description) → describes d.start_addr d.sub_size d.bitrate d.protection_level d.eep_option (flag_of d.is_eep) ≡ d
unfolding describes
described_back d = ap (λ (b : Bool). record { start_addr = d.start_addr; sub_size = d.sub_size; bitrate = d.bitrate; protection_level = d.protection_level; eep_option = d.eep_option; is_eep = b }) (flag_back d.is_eep)
  where
    flag_back : (b : Bool) → not (eqb (flag_of b) 0) ≡ b
    flag_back true = refl
    flag_back false = refl

pub written_read : (s : State) (xs : List ℕ) → state_in (state_put s xs) ≡ s
unfolding numbers_of state_in
written_read s xs =
    ap (λ (d : Description). record { symbols = s.symbols; cif_in_frame = s.cif_in_frame; channel = record { description = d; ring_index = s.channel.ring_index; cif_count = s.channel.cif_count; frames_decoded = s.channel.frames_decoded } })
    (described_back s.channel.description)

pub written-long : (s : State) (xs : List ℕ) → 11 ≤ length (state_put s xs)
unfolding numbers_of
written-long s xs = omega arith
