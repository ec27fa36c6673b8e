-- `fec_quality::percent` meets its contract, by the sum's two cases.
-- Assumes nothing.
use mathlib.Core.Path.{◌≡◌, refl, sym, ap}
use Prim.Native.Nat.{ℕ, zero, suc}
use lib.IntN.{ℤ, pos}
use lib.Ieee.{binary64, of_bits, of_int, mul, div}
use mir.Facts.{to_z-of_z}
use Rattle.fec_quality.specs.Figures.{percent_of}
use Rattle.fec_quality.proofs.percent.Goals as goal

hundred : of_bits binary64 4636737291354636288 ≡ of_int binary64 (pos 100)
unfolding of_bits of_int
hundred = refl

some_sum : (m : ℤ) (n : ℕ) → (n ≡ 0 → ⊥) → mul binary64 (div binary64 (of_int binary64 m) (of_int binary64 (pos n))) (of_bits binary64 4636737291354636288) ≡ percent_of m n
unfolding percent_of
some_sum m zero h = absurd (h refl)
some_sum m (suc n) h = ap (mul binary64 (div binary64 (of_int binary64 m) (of_int binary64 (pos (suc n))))) hundred

pub returns-then-sum-eq0 : goal.returns-then-sum-eq0
unfolding of_bits percent_of
returns-then-sum-eq0 c = sym (ap (percent_of c.args.metric) c.if-sum-eq0.true)

pub returns : goal.returns
returns c = rw (to_z-of_z c.ranges.metric) (some_sum c.args.metric c.args.sum c.if-sum-eq0.false)
