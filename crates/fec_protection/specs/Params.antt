-- Document 01, "Forms that change": `ProtectionParams`, the blocks and the `pi` of four regions, counted from 0; 24, none of the 24, where a region is empty.
use Rattle.std.specs.Prelude.{List}
use Rattle.spec_en300401.specs.Puncturing.{Region}
use Rattle.fec_profiles.specs.Rows.{sections_of}
use Rattle.fec_protection.specs.declared.ProtectionParams.{ProtectionParams}

-- a profile of at most four regions as the code holds it
abbrev pub params_of : List Region → ProtectionParams
params_of rs = record { sections = sections_of rs }
