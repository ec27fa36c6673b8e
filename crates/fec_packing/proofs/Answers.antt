-- The promise of `pack` where the bytes fit.
-- Assumes nothing.
use mathlib.Core.Path.{◌≡◌}
use mathlib.Core.List.{List, ◌++◌}
use Prim.Native.Nat.{ℕ, ◌/◌, ◌≤◌}
use borrow.Author.Tests.{le-ltb}
use lib.ListN.{length, drop}
use Rattle.refusal.proofs.Laws.{where_done}
use Rattle.fec_packing.specs.Bytes.{bytes_of, pack_refusal, packed}

pub long_enough : (xs out : List ℕ) → length xs / 8 ≤ length out → pack_refusal xs out ≡ 0
unfolding pack_refusal
long_enough xs out h = simp (le-ltb _ _ h)

-- where the bytes fit, they are written
pub packed-is : (xs out : List ℕ) → length xs / 8 ≤ length out → packed xs out ≡ bytes_of xs ++ drop (length xs / 8) out
packed-is xs out h = where_done (pack_refusal xs out) (bytes_of xs ++ drop (length xs / 8) out) out (long_enough xs out h)
