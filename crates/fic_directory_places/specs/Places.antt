-- docs/DECISIONS.md, order 1: how the caller holds a directory: one number for a sub-channel, four for a service. Fields by their bits; other bits are ignored.
use Rattle.std.specs.Prelude.{Bool, cond, List, [], ◌∷◌, ℕ, ◌+◌, ◌*◌, ◌/◌, ◌%◌, ◌^◌, min, eqb, get_or}
use Rattle.std.proofs.Math.Option.{Option, none, some}
use Rattle.laws.specs.Lists.{list_of}
use Rattle.laws.specs.Words.{pick_n}
use Rattle.spec_en300401.specs.Organisation.{SubChannel, Service}
use Rattle.spec_en300401.specs.Directory.{Directory, places}

-- the k bits of a number from bit j on
abbrev pub field : ℕ → ℕ → ℕ → ℕ
field w j k = w / 2 ^ j % 2 ^ k

abbrev pub flag_at : ℕ → ℕ → Bool
flag_at w j = eqb (field w j 1) 1

-- a sub-channel: start from bit 0, size from 16, rate from 32, 16 bits each; level from 48, 8 bits; option from 56, 4 bits; EEP at 60; 61 says that it is there
unfoldable pub sub_word : SubChannel → ℕ
sub_word c =
    c.start + c.size * 2 ^ 16 + c.rate * 2 ^ 32 + c.level * 2 ^ 48 + c.option * 2 ^ 56 + pick_n c.eep 1 0 * 2 ^ 60 + 2 ^ 61

unfoldable pub sub_in : ℕ → Option SubChannel
sub_in w =
    cond (flag_at w 61)
    (some (record { start = field w 0 16; size = field w 16 16; rate = field w 32 16; level = field w 48 8; option = field w 56 4; eep = flag_at w 60 }))
    none

-- the most components that an entry has: 28 bytes of a FIG hold no more
abbrev pub most_components : ℕ
most_components = 12

-- a service's first number: its identifier from bit 0, 32 bits; 32 says that it has 32 bits; how many components from 40, 4 bits; 48 says that it is there
unfoldable pub service_head : Service → ℕ → ℕ
service_head s n = s.sid + pick_n s.wide 1 0 * 2 ^ 32 + n * 2 ^ 40 + 2 ^ 48

-- the others: component k in number k / 4, from bit 16 × (k mod 4) on; 0 where there is none
unfoldable pub component_word : List ℕ → ℕ → ℕ
component_word cs j =
    get_or cs (4 * j) 0 + get_or cs (4 * j + 1) 0 * 2 ^ 16 + get_or cs (4 * j + 2) 0 * 2 ^ 32 + get_or cs (4 * j + 3) 0 * 2 ^ 48

unfoldable pub service_words : Service → ℕ → List ℕ
service_words s n = service_head s n ∷ component_word s.components 0 ∷ component_word s.components 1 ∷ component_word s.components 2 ∷ []

-- the service of four numbers from place i on
unfoldable pub service_at : List ℕ → ℕ → Option Service
service_at xs i =
    cond (flag_at (get_or xs i 0) 48)
    (some (record { wide = flag_at (get_or xs i 0) 32; sid = field (get_or xs i 0) 0 32; components = list_of (min most_components (field (get_or xs i 0) 40 4)) (λ (k : ℕ). field (get_or xs (i + 1 + k / 4) 0) (16 * (k % 4)) 16) }))
    none

-- how many numbers the places take
abbrev pub sub_numbers : ℕ
sub_numbers = places

abbrev pub service_numbers : ℕ
service_numbers = 4 * places

-- the numbers that the caller holds
pub record Held : Type 0 where
  pub subs : List ℕ
  pub services : List ℕ

abbrev pub held : List ℕ → List ℕ → Held
held a b = record { subs = a; services = b }

-- the directory that they are
unfoldable pub subs_of : List ℕ → List (Option SubChannel)
subs_of xs = list_of places (λ (p : ℕ). sub_in (get_or xs p 0))

unfoldable pub services_of : List ℕ → List (Option Service)
services_of xs = list_of places (λ (p : ℕ). service_at xs (4 * p))

unfoldable pub directory_in : Held → Directory
directory_in h = record { subs = subs_of h.subs; services = services_of h.services }
