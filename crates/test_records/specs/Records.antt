-- The form of a record (compare/README.md): numbers are low byte first, and a byte that is not there is 0.
use Rattle.std.specs.Prelude.{◌≡◌, not, List, ℕ, ◌+◌, ◌*◌, ◌≤◌, eqb, length, get_or, take, drop}
use Rattle.fec_protection.specs.declared.Description.{Description}

abbrev pub pair_at : List ℕ → ℕ → ℕ
pair_at xs i = get_or xs i 0 + 256 * get_or xs (i + 1) 0

abbrev pub word_of : List ℕ → ℕ
word_of xs = pair_at xs 0 + 65536 * pair_at xs 2

-- start, size and bit rate in two bytes each, then level, option and 1 for EEP or 0
abbrev pub description_of : List ℕ → Description
description_of xs = record { start_addr = pair_at xs 0; sub_size = pair_at xs 2; bitrate = pair_at xs 4; protection_level = get_or xs 6 0; eep_option = get_or xs 7 0; is_eep = not (eqb (get_or xs 8 0) 0) }

-- what reading a part leaves: n bytes came, no more than a length of two bytes can say, and beyond 65,535 the buffer is as it was
pub record Part (old : List ℕ) (n : ℕ) (new : List ℕ) : Type 0 where
  pub inside : n ≤ length new
  pub long : n ≡ length (take n new)
  pub most : n ≤ 65535
  pub beyond : drop 65535 new ≡ drop 65535 old
