-- Document 02, order 1: the directory of what is on the air, and how a FIB takes any directory to the next.
use Rattle.std.specs.Prelude.{Bool, true, false, cond, ◌&&◌, List, [], ◌∷◌, ℕ, zero, suc, ◌+◌, eqb, set, replicate, take, drop}
use Rattle.std.proofs.Math.Option.{Option, none, some}
use Rattle.spec_en300401.specs.Fib.{field_of, fib_bytes}
use Rattle.spec_en300401.specs.Organisation.{SubChannel, Service, Entry, sub_channel, service, entries_of}

-- 64 places of each: a sub-channel's place is its SubChId; a service has the place that was the lowest free one when it first came
pub record Directory : Type 0 where
  pub subs : List (Option SubChannel)
  pub services : List (Option Service)

abbrev pub places : ℕ
places = 64

-- nothing is there
abbrev pub none_there : Directory
none_there = record { subs = replicate places none; services = replicate places none }

-- the same service: the same identifier, of the same width
abbrev pub same_flag : Bool → Bool → Bool
same_flag true b = b
same_flag false true = false
same_flag false false = true

abbrev pub is_service : Service → Option Service → Bool
is_service s none = false
is_service s (some t) = same_flag s.wide t.wide && eqb s.sid t.sid

abbrev pub is_free_place : Option Service → Bool
is_free_place none = true
is_free_place (some s) = false

-- the lowest place that passes a test, counted from i; none
unfoldable pub first_place : (Option Service → Bool) → ℕ → List (Option Service) → Option ℕ
first_place f i [] = none
first_place f i (x ∷ xs) = cond (f x) (some i) (first_place f (suc i) xs)

abbrev pub or_first : Option ℕ → Option ℕ → Option ℕ
or_first none q = q
or_first (some p) q = some p

-- where a service goes: to its own place, or else to the lowest free one
unfoldable pub place_for : Service → List (Option Service) → Option ℕ
place_for s xs = or_first (first_place (is_service s) 0 xs) (first_place is_free_place 0 xs)

-- a directory, and how many entries of services were left out on the way to it
pub record Listed : Type 0 where
  pub directory : Directory
  pub left_out : ℕ

abbrev pub put_at : Option ℕ → Service → Listed → Listed
put_at none s l = record { directory = l.directory; left_out = l.left_out + 1 }
put_at (some p) s l = record { directory = record { subs = l.directory.subs; services = set l.directory.services p (some s) }; left_out = l.left_out }

-- one entry: a later one replaces an earlier one; a sixty-fifth service is left out and counted
unfoldable pub enter : Entry → Listed → Listed
enter (sub_channel id c) l = record { directory = record { subs = set l.directory.subs id (some c); services = l.directory.services }; left_out = l.left_out }
enter (service s) l = put_at (place_for s l.directory.services) s l

unfoldable pub enter_all : List Entry → Listed → Listed
enter_all [] l = l
enter_all (e ∷ es) l = enter_all es (enter e l)

-- one FIB takes any directory to the next
abbrev pub read : List ℕ → Listed → Listed
read fib l = enter_all (entries_of fib) l

-- ---- FIBs one after another

-- whole FIBs of some bytes; an incomplete end is not read
unfoldable pub fibs_in : ℕ → List ℕ → List (List ℕ)
fibs_in zero bs = []
fibs_in (suc n) bs = take fib_bytes bs ∷ fibs_in n (drop fib_bytes bs)

unfoldable pub read_all : List (List ℕ) → Listed → Listed
read_all [] l = l
read_all (f ∷ fs) l = read_all fs (read f l)

-- how many FIBs ended at a FIG that passes the end
abbrev pub counted : Option ℕ → ℕ
counted none = 0
counted (some o) = 1

unfoldable pub broken_fibs : List (List ℕ) → ℕ
broken_fibs [] = 0
broken_fibs (f ∷ fs) = counted (field_of f).broken + broken_fibs fs

-- the first of them: its number, counted from i, and the FIG's offset; 0 and 0 with none
pub record Broken : Type 0 where
  pub fib : ℕ
  pub offset : ℕ

abbrev pub or_broken : Option ℕ → ℕ → Broken → Broken
or_broken none i later = later
or_broken (some o) i later = record { fib = i; offset = o }

unfoldable pub first_broken : ℕ → List (List ℕ) → Broken
first_broken i [] = record { fib = 0; offset = 0 }
first_broken i (f ∷ fs) = or_broken (field_of f).broken i (first_broken (suc i) fs)
