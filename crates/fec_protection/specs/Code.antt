-- What the private functions of the crate ask and promise: the code's own terms, over the standard's definitions.
use Rattle.std.specs.Prelude.{List, map, ℕ, ◌+◌, ◌*◌, ◌-◌, ◌<◌, ◌≤◌, get_or}
use Rattle.spec_en300401.specs.Eep.{level_of}
use Rattle.spec_en300401.specs.Puncturing.{Region}
use Rattle.fec_profiles.specs.declared.Section.{Section}
use Rattle.fec_protection.specs.declared.EepLevel.{EepLevel}
use Rattle.fec_protection.specs.declared.ProtectionParams.{ProtectionParams}

-- a level's row with `pi` counted from 0
unfoldable pub level_row : ℕ → ℕ → EepLevel
level_row o l = record { fold1 = (level_of o l).fold1; fold2 = (level_of o l).fold2; pi1 = (level_of o l).pi1 - 1; pi2 = (level_of o l).pi2 - 1 }

-- an empty region, and what stands beyond the four
abbrev pub empty : Section
empty = record { blocks = 0; pi = 24 }

abbrev pub no_section : Section
no_section = record { blocks = 0; pi = 0 }

abbrev pub section_in : ProtectionParams → ℕ → Section
section_in p i = get_or p.sections i no_section

-- numbers that no sum or product of the sizes overflows with
pub record Bounded (p : ProtectionParams) : Type 0 where
  pub blocks : (i : ℕ) → (section_in p i).blocks < 65536
  pub pi : (i : ℕ) → (section_in p i).pi ≤ 24

-- the blocks of the four regions, and the bits that they send
abbrev pub blocks_by : ProtectionParams → ℕ
blocks_by p = (section_in p 0).blocks + (section_in p 1).blocks + (section_in p 2).blocks + (section_in p 3).blocks

abbrev pub sent_of : Section → ℕ
sent_of s = 4 * (s.blocks * (9 + s.pi))

abbrev pub sent_by : ProtectionParams → ℕ
sent_by p = sent_of (section_in p 0) + sent_of (section_in p 1) + sent_of (section_in p 2) + sent_of (section_in p 3)

-- the profile that is held: a region with its vector counted from 1 again
abbrev pub region : Section → Region
region s = record { blocks = s.blocks; pi = s.pi + 1 }

abbrev pub regions_in : ProtectionParams → List Region
regions_in p = map region p.sections
