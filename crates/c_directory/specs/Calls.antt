-- docs/DECISIONS.md, "For C": what order 1's five calls return and write; an answer is numbers in the caller's places, 12 comes first, then 8 for those.
use Rattle.std.specs.Prelude.{◌≡◌, List, [], ◌∷◌, ◌++◌, ℕ, length, get_or, replicate, drop, Option, Some, None}
use Rattle.std.proofs.Math.Option.{none}
use Rattle.laws.specs.Words.{pick_n}
use Rattle.refusal.specs.Outcome.{or_else, unless_refused}
use Rattle.fec_protection.specs.declared.Description.{Description}
use Rattle.c_description.specs.Places.{describes, short, Wrote}
use Rattle.fic_directory_places.specs.declared.ServiceEntry.{ServiceEntry}
use Rattle.fic_directory_places.specs.Places.{Held, subs_of, services_of}
use Rattle.fic_directory_places.specs.Promises.{subs_refusal, services_refusal, directory_refusal, emptied, described, service_of, audio_of}
use Rattle.fic_directory.specs.declared.Reading.{Reading}
use Rattle.fic_directory.specs.Promises.{read_into, reading_of}

-- 12 of a directory
abbrev pub held_refusal : Held → ℕ
held_refusal h = directory_refusal (length h.subs) (length h.services)

-- every place emptied, or 12 and all as it was
pub record EmptyCall (before : Held) (number : ℕ) (after : Held) : Type 0 where
  pub answer : number ≡ held_refusal before
  pub numbers : after ≡ unless_refused (held_refusal before) (emptied before) before

-- what was read: FIBs, broken ones, number and offset of the first broken one, entries of services left out
abbrev pub counts_of : Reading → List ℕ
counts_of r = r.fibs ∷ r.broken ∷ r.first_fib ∷ r.first_offset ∷ r.left_out ∷ []

-- 12, then 8 under five counts
unfoldable pub read_number : Held → ℕ → ℕ
read_number h counts = or_else (held_refusal h) (short 5 counts)

pub record ReadCall (fibs : List ℕ) (before : Held) (counts : List ℕ) (number : ℕ) (after : Held) (counts' : List ℕ) : Type 0 where
  pub answer : number ≡ read_number before (length counts)
  pub numbers : after ≡ unless_refused (read_number before (length counts)) (read_into fibs before).numbers before
  pub counts_are : counts' ≡ unless_refused (read_number before (length counts)) (counts_of (reading_of fibs before) ++ drop 5 counts) counts

-- an answer of some numbers before the rest as it was; or refusal n, or else 8 under as many places, and all as it was
abbrev pub Answered : ℕ → ℕ → List ℕ → List ℕ → List ℕ → ℕ → Type 0
Answered n need values before after number = Wrote (or_else n (short need (length before))) need values before after number

-- 1 and the six numbers of a description, in the order in which set-up takes them; seven times 0 for none
abbrev pub description_told : Option Description → List ℕ
description_told None = 0 ∷ 0 ∷ 0 ∷ 0 ∷ 0 ∷ 0 ∷ 0 ∷ []
description_told (Some d) =
    1 ∷ d.start_addr ∷ d.sub_size ∷ d.bitrate ∷ d.protection_level ∷ d.eep_option ∷ pick_n d.is_eep 1 0 ∷ []

abbrev pub SubCall : List ℕ → ℕ → List ℕ → ℕ → List ℕ → Type 0
SubCall subs id before number after =
    Answered (subs_refusal (length subs)) 7 (description_told (described (get_or (subs_of subs) id none))) before after number

-- a description that was told is the one that set-up then reads
abbrev pub told_at : Description → ℕ → ℕ
told_at d k = get_or (description_told (Some d)) k 0

abbrev pub Handed : Type 0
Handed = (d : Description) → describes (told_at d 1) (told_at d 2) (told_at d 3) (told_at d 4) (told_at d 5) (told_at d 6) ≡ d

-- 1, whether its identifier has 32 bits, the identifier, how many components, and twelve components' words, 0 where there is none; sixteen times 0 for no service
abbrev pub service_told : Option ServiceEntry → List ℕ
service_told None = replicate 16 0
service_told (Some s) = (1 ∷ pick_n s.wide 1 0 ∷ s.sid ∷ s.count ∷ []) ++ s.words

abbrev pub ServiceCall : List ℕ → ℕ → List ℕ → ℕ → List ℕ → Type 0
ServiceCall services place before number after =
    Answered (services_refusal (length services)) 16 (service_told (service_of (get_or (services_of services) place none))) before after number

-- 1 and the SubChId, or twice 0
abbrev pub audio_told : Option ℕ → List ℕ
audio_told None = 0 ∷ 0 ∷ []
audio_told (Some n) = 1 ∷ n ∷ []

abbrev pub AudioCall : List ℕ → ℕ → List ℕ → ℕ → List ℕ → Type 0
AudioCall services place before number after =
    Answered (services_refusal (length services)) 2 (audio_told (audio_of (get_or (services_of services) place none))) before after number
