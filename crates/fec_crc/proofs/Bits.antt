-- The flag `all_bits` and the fact `AreBits`, and the CRC register as a fold.
-- Assumes nothing.
use mathlib.Core.Path.{◌≡◌, refl, sym, ◌∙◌}
use mathlib.Core.Bool.{true}
use mathlib.Core.List.{List, [], ◌∷◌}
use Prim.Native.Nat.{ℕ}
use borrow.Author.Tests.{ltb-true, lt-ltb}
use lib.Dec.{ltb}
use Rattle.std.specs.Prelude.{fold}
use Rattle.std.proofs.lemmas.List.Elements.{All-from_get_or}
use Rattle.std.proofs.lemmas.List.Sums.{AllPass-from_list_all, list_all-from_AllPass}
use Rattle.laws.specs.Bits.{AreBits, bits_of}
use Rattle.spec_en300401.specs.Bytes.{bits_of_bytes}
use Rattle.spec_en300401.specs.Crc.{crc_from}
use Rattle.spec_en300401.proofs.Crc.{from-append}
use Rattle.fec_crc.specs.Tests.{all_bits}

pub all_are : (xs : List ℕ) → all_bits xs ≡ true → AreBits xs
all_are xs e = record { each = λ i l. ltb-true _ 2 (AllPass-from_list_all (λ (b : ℕ). ltb b 2) xs e i 0 l) }

pub are_all : (xs : List ℕ) → AreBits xs → all_bits xs ≡ true
are_all xs h = list_all-from_AllPass (λ (b : ℕ). ltb b 2) xs (All-from_get_or (λ (b : ℕ). ltb b 2 ≡ true) xs 0 (λ i l. lt-ltb _ 2 (h.each i l)))

-- one byte after the other
pub over_bytes : (r : ℕ) (ys : List ℕ) → fold (λ (q y : ℕ). crc_from q (bits_of 8 y)) r ys ≡ crc_from r (bits_of_bytes ys)
unfolding crc_from bits_of_bytes
over_bytes r [] = refl
over_bytes r (y ∷ ys) = over_bytes (crc_from r (bits_of 8 y)) ys ∙ sym (from-append r (bits_of 8 y) (bits_of_bytes ys))
