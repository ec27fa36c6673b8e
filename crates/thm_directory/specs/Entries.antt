-- Document 02, order 1: which entries count, what set-up says of them, and which bytes are FIBs.
use Rattle.std.specs.Prelude.{◌≡◌, true, List, [], ◌∷◌, ◌++◌, ℕ, ◌+◌, ◌*◌, ◌%◌, ◌<◌, ◌≤◌, ℤ, length, get_or, take}
use Rattle.std.proofs.Math.Option.{none, some}
use Rattle.spec_en300401.specs.Fib.{Fig, field_from, end_marker, length_in}
use Rattle.spec_en300401.specs.Organisation.{SubChannel, Service, Entry, sub_channel, service, start_in, short_form, units_of, rate_of}
use Rattle.spec_en300401.specs.Directory.{Listed, enter_all}
use Rattle.fec_protection.specs.Refusals.{outside, refusal_of}
use Rattle.fic_handler.specs.declared.Fic.{Fic}
use Rattle.fic_handler.specs.Blocks.{Buffers, total}
use Rattle.fic_handler.specs.Promise.{Processed}
use Rattle.fic_directory_places.specs.Promises.{description_of}
use Rattle.fic_directory.specs.Promises.{fibs_of}

-- ---- a later entry wins

-- none of some entries is for a sub-channel
pub data NotFor (id : ℕ) : List Entry → Type 0 where
  no_more : NotFor id []
  other_sub : {j : ℕ} {c : SubChannel} {es : List Entry} → (id ≡ j → ⊥) → NotFor id es → NotFor id (sub_channel j c ∷ es)
  a_service : {s : Service} {es : List Entry} → NotFor id es → NotFor id (service s ∷ es)

-- whatever was entered before, the last entry for a sub-channel is what the directory has
abbrev pub LaterWins : Type 0
LaterWins =
    (id : ℕ) (c : SubChannel) (es fs : List Entry) (l : Listed) → NotFor id fs → id < length l.directory.subs
    → get_or (enter_all (es ++ (sub_channel id c ∷ fs)) l).directory.subs id none ≡ some c

-- ---- a broken FIG

abbrev pub header_of : Fig → ℕ
header_of g = g.type * 32 + length g.body

-- FIGs as bytes
unfoldable pub bytes_of : List Fig → List ℕ
bytes_of [] = []
bytes_of (g ∷ gs) = header_of g ∷ (g.body ++ bytes_of gs)

pub data WholeFigs : List Fig → Type 0 where
  none_there_lem : WholeFigs []
  one_more : {g : Fig} {gs : List Fig} → length g.body < 32 → (header_of g ≡ end_marker → ⊥) → WholeFigs gs → WholeFigs (g ∷ gs)

-- the FIGs before one that passes the end count, that one does not, and its offset is reported
abbrev pub BeforeBroken : Type 0
BeforeBroken =
    (gs : List Fig) (h : ℕ) (rest : List ℕ) (n o : ℕ) → WholeFigs gs → (h ≡ end_marker → ⊥) → length rest < length_in h → length gs < n
    → field_from n o (bytes_of gs ++ (h ∷ rest)) ≡ record { figs = gs; broken = some (o + length (bytes_of gs)) }

-- ---- set-up

-- what comes out of a short form is refused by 7 where start and size pass 864, and by nothing else
abbrev pub ShortAccepted : Type 0
ShortAccepted = (a b c : ℕ) → c < 64 → refusal_of (description_of (short_form a b c)) ≡ outside (start_in a b) (short_form a b c).size

-- a long form by its fields
abbrev pub long_by : ℕ → ℕ → ℕ → ℕ → SubChannel
long_by start o l z = record { start = start; size = z; rate = rate_of o l z; level = l; option = o; eep = true }

-- what set-up says of it: reserved options 1; under one unit's size 3, and 2-A under two; no whole number of them 5; else 7 or nothing
pub record LongRefused (start o l z : ℕ) : Type 0 where
  pub reserved : 1 < o → refusal_of (description_of (long_by start o l z)) ≡ 1
  pub too_few : o ≤ 1 → l ≤ 3 → z < units_of o l → refusal_of (description_of (long_by start o l z)) ≡ 3
  pub one_at_2a : o ≡ 0 → l ≡ 1 → z < 16 → refusal_of (description_of (long_by start o l z)) ≡ 3
  pub not_whole : o ≤ 1 → l ≤ 3 → units_of o l ≤ z → (o ≡ 0 → l ≡ 1 → 16 ≤ z) → (z % units_of o l ≡ 0 → ⊥) → refusal_of (description_of (long_by start o l z)) ≡ 5
  pub whole : o ≤ 1 → l ≤ 3 → units_of o l ≤ z → (o ≡ 0 → l ≡ 1 → 16 ≤ z) → z % units_of o l ≡ 0 → refusal_of (description_of (long_by start o l z)) ≡ outside start z

abbrev pub LongForms : Type 0
LongForms = (start o l z : ℕ) → z < 1024 → LongRefused start o l z

-- ---- the FIC handler

-- what it writes is whole FIBs, as many as it answers
pub record Whole (count : ℕ) (out : List ℕ) : Type 0 where
  pub length_is : length out ≡ 32 * count
  pub fibs_are : length (fibs_of out) ≡ count

abbrev pub HandlerWrites : Type 0
HandlerWrites = (xs : List ℤ) (n : ℕ) (before after : Buffers) (r : Fic) (p : Processed xs n before r after) → Whole (total p.block n) (take (32 * total p.block n) after.fibs)
