-- Document 01, "Sender's model" and "What the receiver owes": when CIFs that came in are those of a sender.
use Rattle.std.specs.Prelude.{◌≡◌, List, [], ◌++◌, ℕ, ◌+◌, ◌<◌, length, get_or}
use Rattle.spec_trellis.specs.Clean.{Agrees}
use Rattle.spec_en300401.specs.Interleaving.{delay}
use Rattle.spec_en300401.specs.Puncturing.{kept_size}
use Rattle.fec_protection.specs.declared.Description.{Description}
use Rattle.fec_protection.specs.Refusals.{profile_of}
use Rattle.msc_state.specs.States.{values_of}
use Rattle.msc_handler.specs.History.{Cif, value_at}
use Rattle.spec_sender.specs.Msc.{Sender, place_of, cif_bit}

-- the sub-channel's kept values, those that stand for a bit of a code word: its first ones; padding may follow
abbrev pub kept_of : Description → ℕ
kept_of d = kept_size (profile_of d)

-- value i of the sub-channel in a CIF that came in is not 0 and of the sign of the bit that the sender's CIF r has at that place
abbrev pub AgreesAt : Description → Sender → ℕ → Cif → ℕ → Type 0
AgreesAt d s r cif i = Agrees (value_at cif (place_of d i)) (cif_bit d s r (place_of d i))

-- CIF r of the sender has come in whole, as this CIF of the receiver's: each kept value agrees
abbrev pub CameIn : Description → Sender → ℕ → Cif → Type 0
CameIn d s r cif = (i : ℕ) → i < kept_of d → AgreesAt d s r cif i

-- the last sixteen CIFs that came in, with no other between
pub record LastSixteen (cifs : List Cif) : Type 0 where
  pub earlier : List Cif
  pub last : List Cif
  pub split : cifs ≡ earlier ++ last
  pub sixteen : length last ≡ 16

-- they are the sender's CIFs r to r + 15
pub record WholeSixteen (d : Description) (s : Sender) (r : ℕ) (cifs : List Cif) : Type 0 where
  pub run : LastSixteen cifs
  pub agree : (k : ℕ) → k < 16 → CameIn d s (r + k) (get_or run.last k [])

-- they are so as far as frame r goes, whose bit i is in CIF r + delay i: no other value is asked to agree
pub record Sixteen (d : Description) (s : Sender) (r : ℕ) (cifs : List Cif) : Type 0 where
  pub run : LastSixteen cifs
  pub agree : (i : ℕ) → i < kept_of d → AgreesAt d s (r + delay i) (get_or run.last (delay i) []) i

-- twice sixteen CIFs with the same values where frame r's bits were sent: nothing else of the sub-channel, and nothing of the others, is asked to be the same
abbrev pub SameSlices : Description → List Cif → List Cif → Type 0
SameSlices d last last₂ = (i : ℕ) → i < values_of d → value_at (get_or last (delay i) []) (place_of d i) ≡ value_at (get_or last₂ (delay i) []) (place_of d i)
