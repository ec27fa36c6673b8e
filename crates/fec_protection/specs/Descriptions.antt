-- Document 01, "Twelve cases proved as one table": descriptions by their numbers.
use Rattle.std.specs.Prelude.{true, false, ℕ}
use Rattle.fec_protection.specs.declared.Description.{Description}

-- of EEP: option, level, bit rate, start, size
abbrev pub eep : ℕ → ℕ → ℕ → ℕ → ℕ → Description
eep o l k s n = record { start_addr = s; sub_size = n; bitrate = k; protection_level = l; eep_option = o; is_eep = true }

-- of UEP: level, bit rate, start, size
abbrev pub uep : ℕ → ℕ → ℕ → ℕ → Description
uep l k s n = record { start_addr = s; sub_size = n; bitrate = k; protection_level = l; eep_option = 0; is_eep = false }
