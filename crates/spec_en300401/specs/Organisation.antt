-- Clauses 5.2.2.1, 6.2.1 and 6.3.1: FIG type 0, sub-channel organisation (0/1, short and long form) and service organisation (0/2), as entries in order.
use Rattle.std.specs.Prelude.{Bool, true, false, cond, ◌&&◌, List, [], ◌∷◌, ◌++◌, ℕ, zero, suc, ◌+◌, ◌*◌, ◌/◌, ◌%◌, ◌^◌, eqb, ltb, length, get_or, take, drop}
use Rattle.std.proofs.Math.Option.{Option, none, some}
use Rattle.spec_en300401.specs.Fib.{Fig, field_of}
use Rattle.spec_en300401.specs.Uep.{Row, uep_table, no_row}

-- ---- what an entry says

-- a sub-channel: start and size in units, kbit/s, protection level and EEP option, and whether it is EEP
pub record SubChannel : Type 0 where
  pub start : ℕ
  pub size : ℕ
  pub rate : ℕ
  pub level : ℕ
  pub option : ℕ
  pub eep : Bool

-- a service: whether its identifier has 32 bits, the identifier, and its components, 16 bits each as sent
pub record Service : Type 0 where
  pub wide : Bool
  pub sid : ℕ
  pub components : List ℕ

-- an entry of FIG 0/1, with its SubChId, or of FIG 0/2
pub data Entry : Type 0 where
  sub_channel : ℕ → SubChannel → Entry
  service : Service → Entry

-- ---- FIG 0/1

-- units for each 8 kbit/s of set A, or 32 kbit/s of set B, by level
abbrev pub units_of : ℕ → ℕ → ℕ
units_of zero level = get_or (12 ∷ 8 ∷ 6 ∷ 4 ∷ []) level 1
units_of (suc o) level = get_or (27 ∷ 21 ∷ 18 ∷ 15 ∷ []) level 1

-- the bit rate of a size, rounded down; 0 for the reserved options 2 to 7
unfoldable pub rate_of : ℕ → ℕ → ℕ → ℕ
rate_of zero level size = 8 * size / units_of 0 level
rate_of (suc zero) level size = 32 * size / units_of 1 level
rate_of (suc (suc o)) level size = 0

-- of the first two bytes of an entry: SubChId, 6 bits, and start address, 10 bits
abbrev pub sub_ch_id : ℕ → ℕ
sub_ch_id a = a / 4

abbrev pub start_in : ℕ → ℕ → ℕ
start_in a b = a % 4 * 256 + b

-- the short form's third byte: 0, the table switch, and the row's number in the table
unfoldable pub short_form : ℕ → ℕ → ℕ → SubChannel
short_form a b c =
    let row : Row = get_or uep_table (c % 64) no_row in
    record { start = start_in a b; size = row.units; rate = row.rate; level = row.level; option = 0; eep = false }

-- the long form's third and fourth byte: 1, option, 3 bits, level, 2 bits, and size, 10 bits
unfoldable pub long_form : ℕ → ℕ → ℕ → ℕ → SubChannel
long_form a b c d =
    let option : ℕ = c / 16 % 8 in
    let level : ℕ = c / 4 % 4 in
    let size : ℕ = c % 4 * 256 + d in
    record { start = start_in a b; size = size; rate = rate_of option level size; level = level; option = option; eep = true }

-- a short form with the table switch set is reserved: stepped over
abbrev pub short_entry : ℕ → ℕ → ℕ → List Entry
short_entry a b c = cond (ltb c 64) (sub_channel (sub_ch_id a) (short_form a b c) ∷ []) []

-- the entries of FIG 0/1; one that the FIG's end cuts off is none
unfoldable pub sub_channels : List ℕ → List Entry
sub_channels [] = []
sub_channels (a ∷ []) = []
sub_channels (a ∷ b ∷ []) = []
sub_channels (a ∷ b ∷ c ∷ []) = cond (ltb c 128) (short_entry a b c) []
sub_channels (a ∷ b ∷ c ∷ d ∷ bs) = cond (ltb c 128) (short_entry a b c ++ sub_channels (d ∷ bs)) (sub_channel (sub_ch_id a) (long_form a b c d) ∷ sub_channels bs)

-- ---- FIG 0/2

-- a number of some bytes, the high byte first
unfoldable pub number_of : ℕ → List ℕ → ℕ
number_of n [] = n
number_of n (b ∷ bs) = number_of (256 * n + b) bs

-- 16 bits each
unfoldable pub pairs_of : List ℕ → List ℕ
pairs_of [] = []
pairs_of (a ∷ []) = []
pairs_of (a ∷ b ∷ bs) = (256 * a + b) ∷ pairs_of bs

-- SIds are of 16 or of 32 bits for the whole FIG
abbrev pub sid_bytes : Bool → ℕ
sid_bytes wide = cond wide 4 2

-- an entry is an identifier, a byte whose low four bits count the components, and two bytes for each
abbrev pub component_bytes : Bool → List ℕ → ℕ
component_bytes wide bs = 2 * (get_or bs (sid_bytes wide) 0 % 16)

abbrev pub entry_bytes : Bool → List ℕ → ℕ
entry_bytes wide bs = sid_bytes wide + 1 + component_bytes wide bs

unfoldable pub service_in : Bool → List ℕ → Service
service_in wide bs = record { wide = wide; sid = number_of 0 (take (sid_bytes wide) bs); components = pairs_of (take (component_bytes wide bs) (drop (sid_bytes wide + 1) bs)) }

-- the entries of FIG 0/2, n of them at the most; one that the FIG's end cuts off is none
unfoldable pub services_in : ℕ → Bool → List ℕ → List Entry
services_in zero wide bs = []
services_in (suc n) wide bs =
    cond (ltb (sid_bytes wide) (length bs)) (cond (ltb (length bs) (entry_bytes wide bs)) [] (service (service_in wide bs) ∷ services_in n wide (drop (entry_bytes wide bs) bs))) []

-- of a component's 16 bits: TMId 2, then for stream audio, 00, ASCTy 6, SubChId 6, P/S 1 (primary), CA 1
abbrev pub primary_audio : ℕ → Bool
primary_audio w = eqb (w / 2 ^ 14) 0 && eqb (w / 2 % 2) 1

-- the SubChId of the primary audio component, the first where there are several
unfoldable pub audio_in : List ℕ → Option ℕ
audio_in [] = none
audio_in (w ∷ ws) = cond (primary_audio w) (some (w / 4 % 64)) (audio_in ws)

-- ---- FIG type 0

-- by the extension, the low five bits of the byte behind the header
abbrev pub extended : ℕ → Bool → List ℕ → List Entry
extended e wide bs = cond (eqb e 1) (sub_channels bs) (cond (eqb e 2) (services_in (length bs) wide bs) [])

-- C/N, OE and P/D stand before it. C/N 1 is the next configuration and OE 1 another ensemble: neither is on the air here now
unfoldable pub type_zero : List ℕ → List Entry
type_zero [] = []
type_zero (t ∷ bs) = cond (ltb t 64) (extended (t % 32) (eqb (t / 32) 1) bs) []

-- a FIG of another type has none of these entries
unfoldable pub entries_in : Fig → List Entry
entries_in g = cond (eqb g.type 0) (type_zero g.body) []

unfoldable pub entries_of_all : List Fig → List Entry
entries_of_all [] = []
entries_of_all (g ∷ gs) = entries_in g ++ entries_of_all gs

-- the entries of a FIB, in order
unfoldable pub entries_of : List ℕ → List Entry
entries_of fib = entries_of_all (field_of fib).figs
