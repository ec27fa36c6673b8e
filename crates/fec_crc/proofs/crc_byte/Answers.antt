-- `fec_crc::crc_byte` meets its contract: what is left of the byte's bits still goes in.
-- Assumes nothing.
use mathlib.Core.Path.{◌≡◌, sym, ap, ◌∙◌}
use Prim.Native.Nat.{ℕ, suc, ◌-◌, ◌/◌, ◌%◌, ◌^◌, ◌<◌}
use native.Mathlib.Omega.{arith}
use Rattle.std.proofs.lemmas.Nat.{and_mask}
use Rattle.laws.specs.Bits.{bits_of}
use Rattle.spec_en300401.specs.Crc.{crc_step, crc_from}
use Rattle.fec_crc.proofs.crc_byte.Goals as goal

step : (byte reg : ℕ) {left next : ℕ} → 0 < left → next ≡ crc_step reg (byte / 2 ^ (left - 1) % 2) → crc_from reg (bits_of left byte) ≡ crc_from next (bits_of (left - 1) byte)
unfolding crc_from bits_of
step byte reg {left} {next} h e =
    ap (λ (k : ℕ). crc_from reg (bits_of k byte)) whole ∙ ap (λ (r : ℕ). crc_from r (bits_of (left - 1) byte)) (sym e)
  where
    whole : left ≡ suc (left - 1)
    whole = omega arith

all : (byte reg : ℕ) {left : ℕ} → left ≡ 0 → crc_from reg (bits_of left byte) ≡ reg
unfolding crc_from bits_of
all byte reg z = ap (λ (k : ℕ). crc_from reg (bits_of k byte)) z

pub loop-place-preserved : goal.loop-place-preserved
loop-place-preserved c = c.loop-place.invariant ∙ step c.args.byte c.loop-place.reg (omega arith) (c.crc_step-reg.ensures ∙ ap (crc_step c.loop-place.reg) (and_mask _ 1))

pub returns : goal.returns
returns c = sym (c.loop-place.invariant ∙ all c.args.byte c.loop-place.reg (let z : c.loop-place.place ≡ 0 = omega arith in z))
