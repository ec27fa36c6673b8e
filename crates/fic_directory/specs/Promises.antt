-- Document 02, order 1: what reading FIBs into a directory answers, and what every number of the caller's holds after it.
use Rattle.std.specs.Prelude.{◌≡◌, List, [], ◌∷◌, ◌++◌, ℕ, ◌+◌, ◌*◌, ◌/◌, length, set, Result}
use Rattle.std.proofs.Math.Option.{Option, none, some}
use Rattle.std.proofs.lemmas.List.Edits.{sets}
use Rattle.refusal.specs.Outcome.{told, outcome, unless_refused}
use Rattle.refusal.specs.declared.Refusal.{Refusal}
use Rattle.spec_en300401.specs.Fib.{fib_bytes}
use Rattle.spec_en300401.specs.Organisation.{Service, Entry, sub_channel, service, entries_of}
use Rattle.spec_en300401.specs.Directory.{place_for, fibs_in, broken_fibs, first_broken}
use Rattle.fic_directory_places.specs.Places.{sub_word, service_words, services_of, Held, held}
use Rattle.fic_directory_places.specs.Promises.{directory_refusal}
use Rattle.fic_directory.specs.declared.Reading.{Reading}

-- the numbers, and how many entries of services were left out on the way to them
pub record Entered : Type 0 where
  pub numbers : Held
  pub left_out : ℕ

abbrev pub entered : Held → ℕ → Entered
entered h n = record { numbers = h; left_out = n }

-- a service put in its place; left out where there is none
abbrev pub put_at : Option ℕ → Service → Entered → Entered
put_at none s e = entered e.numbers (e.left_out + 1)
put_at (some p) s e = entered (held e.numbers.subs (sets e.numbers.services (4 * p) (service_words s (length s.components)))) e.left_out

-- one entry: its own numbers are written anew, and all others are as they were
unfoldable pub put : Entry → Entered → Entered
put (sub_channel id c) e = entered (held (set e.numbers.subs id (sub_word c)) e.numbers.services) e.left_out
put (service s) e = put_at (place_for s (services_of e.numbers.services)) s e

unfoldable pub put_all : List Entry → Entered → Entered
put_all [] e = e
put_all (x ∷ xs) e = put_all xs (put x e)

-- the FIBs of some bytes, 32 each, and what their entries make of a directory
abbrev pub fibs_of : List ℕ → List (List ℕ)
fibs_of bytes = fibs_in (length bytes / fib_bytes) bytes

unfoldable pub entries_of_fibs : List (List ℕ) → List Entry
entries_of_fibs [] = []
entries_of_fibs (f ∷ fs) = entries_of f ++ entries_of_fibs fs

abbrev pub read_into : List ℕ → Held → Entered
read_into bytes h = put_all (entries_of_fibs (fibs_of bytes)) (entered h 0)

-- what is answered: FIBs read, FIBs that ended at a FIG that passes the end, the first of these, and entries left out
unfoldable pub reading_of : List ℕ → Held → Reading
reading_of bytes h =
    record {
      fibs = length bytes / fib_bytes;
      broken = broken_fibs (fibs_of bytes);
      first_fib = (first_broken 0 (fibs_of bytes)).fib;
      first_offset = (first_broken 0 (fibs_of bytes)).offset;
      left_out = (read_into bytes h).left_out;
    }

-- refused by 12 before any byte is read, and all as it was; or the FIBs read, and every number by the standard's definitions
pub record ReadPromise (bytes : List ℕ) (before : Held) (r : Result Reading Refusal) (after : Held) : Type 0 where
  pub answer : told r ≡ outcome (directory_refusal (length before.subs) (length before.services)) (reading_of bytes before)
  pub numbers : after ≡ unless_refused (directory_refusal (length before.subs) (length before.services)) (read_into bytes before).numbers before
