-- Document 02, order 1: what holds of a directory over calls, entries and set-up.
use Rattle.std.specs.Prelude.{◌≡◌, List, ◌++◌, ℕ, ◌+◌, ◌%◌, ◌^◌, ◌<◌, ◌≤◌, eqb, length}
use Rattle.std.proofs.Math.Option.{some}
use Rattle.std.proofs.lemmas.List.Edits.{sets}
use Rattle.laws.specs.Bits.{Below, AreBytes}
use Rattle.laws.specs.Words.{pick_n}
use Rattle.spec_en300401.specs.Organisation.{SubChannel, Service}
use Rattle.spec_en300401.specs.Directory.{Listed, read_all}
use Rattle.fic_directory_places.specs.Places.{sub_word, sub_in, service_words, service_at, most_components, Held, directory_in}
use Rattle.fic_directory.specs.declared.Reading.{Reading}
use Rattle.fic_directory.specs.Promises.{Entered, entered, fibs_of, read_into, reading_of}

-- ---- the numbers that the caller holds

-- what an entry says is within the bits that hold it: of every entry of a FIB
pub record SubFits (c : SubChannel) : Type 0 where
  pub start : c.start < 2 ^ 16
  pub size : c.size < 2 ^ 16
  pub rate : c.rate < 2 ^ 16
  pub level : c.level < 2 ^ 8
  pub option : c.option < 2 ^ 4

pub record ServiceFits (s : Service) : Type 0 where
  pub sid : s.sid < 2 ^ 32
  pub few : length s.components ≤ most_components
  pub words : Below (2 ^ 16) s.components

-- what is packed is unpacked
abbrev pub SubHeld : Type 0
SubHeld = (c : SubChannel) → SubFits c → sub_in (sub_word c) ≡ some c

abbrev pub ServiceHeld : Type 0
ServiceHeld = (s : Service) (xs : List ℕ) (i : ℕ) → ServiceFits s → i + 4 ≤ length xs → service_at (sets xs i (service_words s (length s.components))) i ≡ some s

-- a directory in numbers, and how many entries were left out, front the standard's definitions have them
abbrev pub listed_in : Entered → Listed
listed_in e = record { directory = directory_in e.numbers; left_out = e.left_out }

-- the numbers after reading are the directory that the FIBs make of the one before, whatever the numbers were
abbrev pub ReadIsDirectory : Type 0
ReadIsDirectory =
    (bytes : List ℕ) (h : Held) → AreBytes bytes → 64 ≤ length h.subs → 256 ≤ length h.services → listed_in (read_into bytes h) ≡ read_all (fibs_of bytes) (listed_in (entered h 0))

-- ---- call by call

-- two answers front one: the counts add up; the first broken FIB is the first's, or else the second's with its number raised, or else 0, 0
abbrev pub joined : Reading → Reading → Reading
joined a b =
    record {
      fibs = a.fibs + b.fibs;
      broken = a.broken + b.broken;
      first_fib = pick_n (eqb a.broken 0) (pick_n (eqb b.broken 0) 0 (a.fibs + b.first_fib)) a.first_fib;
      first_offset = pick_n (eqb a.broken 0) (pick_n (eqb b.broken 0) 0 b.first_offset) a.first_offset;
      left_out = a.left_out + b.left_out;
    }

-- where the first bytes are whole FIBs, reading them and then the others is reading all
pub record ReadsOn (front back : List ℕ) (h : Held) : Type 0 where
  pub numbers : (read_into (front ++ back) h).numbers ≡ (read_into back (read_into front h).numbers).numbers
  pub reading : reading_of (front ++ back) h ≡ joined (reading_of front h) (reading_of back (read_into front h).numbers)

abbrev pub CallByCall : Type 0
CallByCall = (front back : List ℕ) (h : Held) → length front % 32 ≡ 0 → ReadsOn front back h
