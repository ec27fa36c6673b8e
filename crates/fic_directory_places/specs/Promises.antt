-- Document 02, order 1: refusal 12, what emptying a directory leaves of the caller's numbers, and what is at its places.
use Rattle.std.specs.Prelude.{◌≡◌, List, [], ◌∷◌, ◌++◌, ℕ, ltb, length, get_or, replicate, take, drop, Result}
use Rattle.std.specs.Prelude.{Option as Answer, Some, None}
use Rattle.std.proofs.Math.Option.{Option, none, some}
use Rattle.refusal.specs.Outcome.{told, check, first_of, outcome, unless_refused}
use Rattle.refusal.specs.declared.Refusal.{Refusal}
use Rattle.spec_en300401.specs.Organisation.{SubChannel, Service, audio_in}
use Rattle.fec_protection.specs.declared.Description.{Description}
use Rattle.fic_directory_places.specs.declared.ServiceEntry.{ServiceEntry}
use Rattle.fic_directory_places.specs.Places.{sub_numbers, service_numbers, most_components, Held, held, subs_of, services_of}

-- 12: fewer numbers than 64 sub-channel or 64 service places take
abbrev pub subs_refusal : ℕ → ℕ
subs_refusal n = check 12 (ltb n sub_numbers)

abbrev pub services_refusal : ℕ → ℕ
services_refusal n = check 12 (ltb n service_numbers)

unfoldable pub directory_refusal : ℕ → ℕ → ℕ
directory_refusal subs services = first_of (subs_refusal subs ∷ services_refusal services ∷ [])

-- every place emptied, and what is beyond them as it was
unfoldable pub emptied : Held → Held
emptied h = held (replicate sub_numbers 0 ++ drop sub_numbers h.subs) (replicate service_numbers 0 ++ drop service_numbers h.services)

pub record EmptyPromise (before : Held) (r : Result (Unit {0}) Refusal) (after : Held) : Type 0 where
  pub answer : told r ≡ outcome (directory_refusal (length before.subs) (length before.services)) tt
  pub numbers : after ≡ unless_refused (directory_refusal (length before.subs) (length before.services)) (emptied before) before

-- what is there, or nothing, as the code answers it
abbrev pub answered : {A : Type 0} → Option A → Answer A
answered none = None
answered (some a) = Some a

-- a sub-channel as set-up takes it
abbrev pub description_of : SubChannel → Description
description_of c =
    record { start_addr = c.start; sub_size = c.size; bitrate = c.rate; protection_level = c.level; eep_option = c.option; is_eep = c.eep }

abbrev pub described : Option SubChannel → Answer Description
described none = None
described (some c) = Some (description_of c)

-- what the directory has for a SubChId; nothing for one above 63
pub record SubPromise (subs : List ℕ) (id : ℕ) (r : Result (Answer Description) Refusal) : Type 0 where
  pub answer : told r ≡ outcome (subs_refusal (length subs)) (described (get_or (subs_of subs) id none))

-- a service's identifier, how many components it has, and twelve words, 0 where there is no component
abbrev pub words_of : List ℕ → List ℕ
words_of cs = take most_components (cs ++ replicate most_components 0)

abbrev pub service_of : Option Service → Answer ServiceEntry
service_of none = None
service_of (some s) = Some (record { wide = s.wide; sid = s.sid; count = length s.components; words = words_of s.components })

-- what the directory has at a service's place; nothing at one above 63
pub record ServicePromise (services : List ℕ) (place : ℕ) (r : Result (Answer ServiceEntry) Refusal) : Type 0 where
  pub answer : told r ≡ outcome (services_refusal (length services)) (service_of (get_or (services_of services) place none))

abbrev pub audio_of : Option Service → Answer ℕ
audio_of none = None
audio_of (some s) = answered (audio_in s.components)

-- the sub-channel that a listener of the service at a place hears
pub record AudioPromise (services : List ℕ) (place : ℕ) (r : Result (Answer ℕ) Refusal) : Type 0 where
  pub answer : told r ≡ outcome (services_refusal (length services)) (audio_of (get_or (services_of services) place none))
