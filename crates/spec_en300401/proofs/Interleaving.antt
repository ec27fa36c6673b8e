-- Laws of time interleaving: no delay is above 15, and bit i of a frame is in the CIF that comes that many CIFs later.
-- Assumes nothing.
use mathlib.Core.Path.{◌≡◌, ap, ◌∙◌}
use mathlib.Core.Bool.{Bool, cond}
use Prim.Native.Nat.{ℕ, ◌+◌, ◌-◌, ◌%◌, ◌<◌}
use native.Mathlib.Omega.{arith}
use lib.Dec.{ltb, ltb→lt}
use borrow.Author.Tests.{le-ltb}
use Rattle.laws.proofs.Tables.{rule_at}
use Rattle.spec_en300401.specs.Interleaving.{delays, delay, interleaved}

pub delay-lt : (i : ℕ) → delay i < 16
unfolding delays
delay-lt i = ltb→lt (delay i) 16 (rule_at (λ (k d : ℕ). ltb d 16) 0 delays tt (i % 16) (omega arith))

pub interleaved-at {ℓ} : {A : Type ℓ} (none : A) (frame : ℕ → ℕ → A) (r i : ℕ) → interleaved none frame (r + delay i) i ≡ frame r i
unfolding interleaved
interleaved-at none frame r i =
    ap (λ (b : Bool). cond b none (frame (r + delay i - delay i) i)) (le-ltb (r + delay i) (delay i) (omega arith))
    ∙ ap (λ (k : ℕ). frame k i) (omega arith)
