-- Document 01, "Program `fic`": soft values as two's-complement bytes.
use Rattle.std.specs.Prelude.{List, map, ℕ, ◌-◌, min, ltb, ℤ, pos, negsuc, length}
use Rattle.std.proofs.Math.Seq.{paste}
use Rattle.laws.specs.Integers.{pick_z}

-- a byte below 128 is itself, any other 256 less
unfoldable pub soft_of : ℕ → ℤ
soft_of b = pick_z (ltb b 128) (pos b) (negsuc (255 - b))

-- the bytes' values from the first place on, as many as there are of both; the other places as they were
abbrev pub converted : List ℕ → List ℤ → List ℤ
converted bytes old = paste old 0 (map soft_of bytes) (min (length bytes) (length old))
