-- A description that was told is the one that set-up then reads.
-- Assumes nothing.
use mathlib.Core.Path.{◌≡◌, refl, ap}
use mathlib.Core.Bool.{Bool, true, false, not}
use lib.Dec.{eqb}
use Rattle.laws.specs.Words.{pick_n}
use Rattle.fec_protection.specs.declared.Description.{Description}
use Rattle.c_description.specs.Places.{describes}
use Rattle.c_directory.specs.Calls.{Handed}

flag_back : (b : Bool) → not (eqb (pick_n b 1 0) 0) ≡ b
flag_back true = refl
flag_back false = refl

flagged : Description → Bool → Description
flagged d b =
    record { start_addr = d.start_addr; sub_size = d.sub_size; bitrate = d.bitrate; protection_level = d.protection_level; eep_option = d.eep_option; is_eep = b }

pub handed : Handed
unfolding describes flagged
handed d = ap (flagged d) (flag_back d.is_eep)
