-- What the private functions of the crate ask and promise: the code's own terms, over the standard's definitions.
use Rattle.std.specs.Prelude.{◌≡◌, Bool, true, false, ◌&&◌, List, [], ◌∷◌, ◌++◌, ℕ, ◌+◌, ◌*◌, ◌/◌, ◌%◌, ◌^◌, ◌<◌, ◌≤◌, eqb, length, get_or, drop, MatchOption}
use Rattle.std.specs.Prelude.{Option as Answer, Some, None, IfSome}
use Rattle.laws.specs.Words.{pick_n}
use Rattle.spec_en300401.specs.Uep.{Row}
use Rattle.spec_en300401.specs.Fib.{Field, field_from}
use Rattle.spec_en300401.specs.Organisation.{SubChannel, Service, Entry, service, sub_channels, services_in, service_in, entry_bytes, entries_in, entries_of_all}
use Rattle.spec_en300401.specs.Directory.{place_for}
use Rattle.fec_protection.specs.declared.Description.{Description}
use Rattle.fic_directory_places.specs.Places.{Held, held, services_of}
use Rattle.fic_directory_places.specs.Promises.{answered}
use Rattle.fic_directory.specs.Promises.{entered, put, put_all, read_into, reading_of}
use Rattle.fic_directory.specs.declared.Reading.{Reading}

-- a row of the UEP table as the code holds it
abbrev pub row_of : Row → ℕ × ℕ × ℕ
row_of p = (p.rate, p.level, p.units)

-- a description as a sub-channel of the directory
abbrev pub channel_of : Description → SubChannel
channel_of d =
    record { start = d.start_addr; size = d.sub_size; rate = d.bitrate; level = d.protection_level; option = d.eep_option; eep = d.is_eep }

-- the numbers of the places, and what the caller has beyond them
abbrev pub and_beyond : Held → Held → Held
and_beyond h t = held (h.subs ++ t.subs) (h.services ++ t.services)

-- the first entry of what is left of FIG 0/1 is entered, and some bytes are still left
pub record SubsLeft (rest left before after : List ℕ) : Type 0 where
  pub shorter : length left < length rest
  pub puts : (beyond services : List ℕ) (n : ℕ) → put_all (sub_channels rest) (entered (held (before ++ beyond) services) n) ≡ put_all (sub_channels left) (entered (held (after ++ beyond) services) n)

-- all entries of FIG 0/1 are entered
pub record SubsRead (body before after : List ℕ) : Type 0 where
  pub puts : (beyond services : List ℕ) (n : ℕ) → put_all (sub_channels body) (entered (held (before ++ beyond) services) n) ≡ entered (held (after ++ beyond) services) n

-- all entries of FIG 0/2
abbrev pub services : Bool → List ℕ → List Entry
services wide bs = services_in (length bs) wide bs

-- no whole entry is left
pub record NoneLeft (wide : Bool) (rest : List ℕ) : Type 0 where
  pub is : services wide rest ≡ []

-- a whole entry, no byte less and no byte more
pub record IsEntry (wide : Bool) (entry : List ℕ) : Type 0 where
  pub long : length entry ≡ entry_bytes wide entry

-- the first entry of what is left, and what is behind it
pub record FirstOf (wide : Bool) (rest entry behind : List ℕ) : Type 0 where
  pub whole : IsEntry wide entry
  pub lengths : length entry + length behind ≡ length rest
  pub entries : services wide rest ≡ service (service_in wide entry) ∷ services wide behind

-- a service's identifier and its width, as they stand in its first number
unfoldable pub sid_key : Service → ℕ
sid_key s = s.sid + pick_n s.wide 1 0 * 2 ^ 32

pub record KeyIs (s : Service) (r : ℕ) : Type 0 where
  pub is : r ≡ sid_key s
  pub small : r < 2 ^ 33
  pub sid : s.sid < 2 ^ 32

-- whether that number is marked, and has the key
abbrev pub is_key : ℕ → ℕ → Bool
is_key key w = eqb (w / 2 ^ 48 % 2) 1 && eqb (w % 2 ^ 33) key

-- the lowest place whose first number passes a test, which is told by the answers that it may give
pub record LowestPlace (answers : ℕ → Bool → Type 0) (services : List ℕ) (r : Answer ℕ) : Type 0 where
  pub found : MatchOption r ((p : ℕ) → p < 64 → answers (get_or services (4 * p) 0) false)
      (λ p. (p < 64) × answers (get_or services (4 * p) 0) true × ((q : ℕ) → q < p → answers (get_or services (4 * q) 0) false))

pub record PlaceFor (key : ℕ) (services : List ℕ) (r : Answer ℕ) : Type 0 where
  pub inside : IfSome r (λ p. p < 64)
  pub is : (s : Service) → s.sid < 2 ^ 32 → key ≡ sid_key s → r ≡ answered (place_for s (services_of services))

-- component k of pairs of bytes, 0 where there is none, and four of them in a number
abbrev pub pair_at : List (List ℕ) → ℕ → ℕ
pair_at pairs k = 256 * get_or (get_or pairs k []) 0 0 + get_or (get_or pairs k []) 1 0

abbrev pub four_of : List (List ℕ) → ℕ → ℕ
four_of pairs j = pair_at pairs (4 * j) + pair_at pairs (4 * j + 1) * 2 ^ 16 + pair_at pairs (4 * j + 2) * 2 ^ 32 + pair_at pairs (4 * j + 3) * 2 ^ 48

-- a service is entered, or left out, where r holds
pub record ServicePut (wide : Bool) (entry before : List ℕ) (r : Bool) (after : List ℕ) : Type 0 where
  pub puts : (subs beyond : List ℕ) (n : ℕ) → put (service (service_in wide entry)) (entered (held subs (before ++ beyond)) n) ≡ entered (held subs (after ++ beyond)) (n + pick_n r 1 0)

-- all entries of FIG 0/2 are entered, but r that are left out
pub record ServicesRead (wide : Bool) (body before : List ℕ) (r : ℕ) (after : List ℕ) : Type 0 where
  pub few : r ≤ length body
  pub puts : (subs beyond : List ℕ) (n : ℕ) → put_all (services wide body) (entered (held subs (before ++ beyond)) n) ≡ entered (held subs (after ++ beyond)) (n + r)

-- a FIG's entries are entered
pub record FigRead (kind : ℕ) (body : List ℕ) (before : Held) (r : ℕ) (after : Held) : Type 0 where
  pub few : r ≤ length body
  pub puts : (beyond : Held) (n : ℕ) → put_all (entries_in (record { type = kind; body = body })) (entered (and_beyond before beyond) n) ≡ entered (and_beyond after beyond) (n + r)

-- the FIGs of a field, from an offset on
abbrev pub figs_from : ℕ → List ℕ → Field
figs_from at field = field_from (length field) at (drop at field)

-- the entries of a field's FIGs are entered
pub record FieldDone (field : List ℕ) (before : Held) (broken : Answer ℕ) (r : ℕ) (after : Held) : Type 0 where
  pub few : r ≤ length field
  pub broken_is : broken ≡ answered (figs_from 0 field).broken
  pub puts : (beyond : Held) (n : ℕ) → put_all (entries_of_all (figs_from 0 field).figs) (entered (and_beyond before beyond) n) ≡ entered (and_beyond after beyond) (n + r)

-- what was read so far is so little that one FIB more overflows nothing
pub record Few (r : Reading) (left : ℕ) : Type 0 where
  pub fibs_few : r.fibs < 2 ^ 59
  pub broken_few : r.broken ≤ r.fibs
  pub left_few : r.left_out ≤ 30 * r.fibs
  pub one_few : left ≤ 30

-- one FIB more
abbrev pub noted_by : Reading → Answer ℕ → ℕ → Reading
noted_by r None left =
    record { fibs = r.fibs + 1; broken = r.broken; first_fib = r.first_fib; first_offset = r.first_offset; left_out = r.left_out + left }
noted_by r (Some o) left =
    record {
      fibs = r.fibs + 1;
      broken = r.broken + 1;
      first_fib = pick_n (eqb r.broken 0) r.fibs r.first_fib;
      first_offset = pick_n (eqb r.broken 0) o r.first_offset;
      left_out = r.left_out + left;
    }

-- all FIBs are read
pub record AllRead (bytes : List ℕ) (before : Held) (r : Reading) (after : Held) : Type 0 where
  pub reading : (beyond : Held) → r ≡ reading_of bytes (and_beyond before beyond)
  pub numbers : (beyond : Held) → and_beyond after beyond ≡ (read_into bytes (and_beyond before beyond)).numbers
