use Rattle.std.proofs.Common.{◌≡◌, ◌<◌, ◌*◌, ℕ}
use Rattle.std.proofs.Math.Seq.{paste}
use Rattle.laws.specs.Integers.{at}
use Rattle.msc_handler.specs.Ring.{in_slot, slot_of}
use Rattle.msc_handler.proofs.deinterleave.Given as goal

-- so many values are read
abbrev pub invariant-loop-i : goal.invariant-loop-i
invariant-loop-i l = (k : ℕ) → k < l.i → at l.out k ≡ in_slot l.fn.ring l.n (slot_of l.x k) k

-- so many values of slot x are replaced
abbrev pub invariant-loop-k : goal.invariant-loop-k
invariant-loop-k l = l.ring ≡ paste l.fn.ring (l.x * l.n) l.own l.k
