-- Document 01, "msc/mod.rs": the CIF store, the sub-channel's slice of it, and the ring of sixteen slots, as lists.
use Rattle.std.specs.Prelude.{List, ℕ, ◌+◌, ◌*◌, ◌%◌, take, drop, ℤ}
use Rattle.std.proofs.Math.Seq.{paste}
use Rattle.laws.specs.Integers.{at}
use Rattle.laws.specs.Lists.{list_of}
use Rattle.spec_en300401.specs.Interleaving.{delay, symbol_bits}

-- the CIF store once a symbol's first 3,072 values stand in its place
unfoldable pub stored : List ℤ → ℕ → List ℤ → List ℤ
stored cif symbols soft = paste cif (symbol_bits * symbols) soft symbol_bits

-- n values from place `from` on
unfoldable pub part : List ℤ → ℕ → ℕ → List ℤ
part cif from n = take n (drop from cif)

-- value i of slot k, in a ring of slots of n values
abbrev pub in_slot : List ℤ → ℕ → ℕ → ℕ → ℤ
in_slot ring n k i = at ring (k * n + i)

-- with ring index x, value i is read from slot (x + map[i mod 16]) mod 16
abbrev pub slot_of : ℕ → ℕ → ℕ
slot_of x i = (x + delay i) % 16

-- what is read of the ring, with ring index x
unfoldable pub read_out : List ℤ → ℕ → ℕ → List ℤ
read_out ring n x = list_of n (λ (i : ℕ). in_slot ring n (slot_of x i) i)

-- slot x takes the new values
unfoldable pub refilled : List ℤ → ℕ → ℕ → List ℤ → List ℤ
refilled ring n x own = paste ring (x * n) own n
