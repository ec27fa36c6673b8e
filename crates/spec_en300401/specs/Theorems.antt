-- What is claimed of the standard's definitions, claim by claim: each name here is proved in proofs/.
use Rattle.std.specs.Prelude.{◌≡◌, Bool, false, List, ◌++◌, ℕ, ◌+◌, ◌*◌, ◌<◌, length, get_or, ℤ, pos}
use Rattle.std.proofs.Math.Option.{some}
use Rattle.laws.specs.Bits.{AreBytes}
use Rattle.laws.specs.Integers.{at, pick_z}
use Rattle.spec_en300401.specs.Bytes.{bits_of_bytes, bytes_of_bits}
use Rattle.spec_en300401.specs.Dispersal.{disperse}
use Rattle.spec_en300401.specs.Puncturing.{puncture, depuncture, kept_size}
use Rattle.spec_en300401.specs.Uep.{Row, uep_row}

-- dispersal twice is the identity (disperse_twice)
abbrev pub DisperseTwice : Type 0
DisperseTwice = (xs : List ℕ) → disperse (disperse xs) ≡ xs

-- what was sent, with any surplus after it, comes back: each kept place has its value, and 0 stands elsewhere (there_and_back)
abbrev pub ThereAndBack : Type 0
ThereAndBack = (ks : List Bool) (xs ys : List ℤ) → length ks ≡ length xs → (i : ℕ) → i < length ks → at (depuncture ks (puncture ks xs ++ ys)) i ≡ pick_z (get_or ks i false) (at xs i) (pos 0)

-- bytes as bits and packed again are themselves (bytes_back)
abbrev pub BytesBack : Type 0
BytesBack = (ys : List ℕ) → AreBytes ys → bytes_of_bits (bits_of_bytes ys) ≡ ys

-- a UEP row's kept bits and its padding fill its units (row_fills)
abbrev pub RowFills : Type 0
RowFills = (k l : ℕ) (p : Row) → uep_row k l ≡ some p → kept_size p.regions + p.pad ≡ 64 * p.units
