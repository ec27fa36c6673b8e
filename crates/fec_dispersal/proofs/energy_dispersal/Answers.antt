-- `fec_dispersal::energy_dispersal` meets its contract, by what its loop keeps.
-- Assumes nothing.
use mathlib.Core.Path.{sym, ap, ap₂, ◌∙◌}
use Prim.Native.Nat.{ℕ, ◌+◌, ◌*◌, ◌/◌, ◌%◌}
use native.Mathlib.Omega.{arith}
use lib.Bits.{bit_xor}
use lib.ListN.{get_or}
use lib.Seq.{ext_get_or}
use Rattle.laws.proofs.Slices.{changed_none, changed_next}
use Rattle.spec_en300401.specs.Dispersal.{prbs, disperse}
use Rattle.spec_en300401.proofs.Dispersal.{register-start, register-lt, register_bit, register_next, disperse-length, disperse-at}
use Rattle.fec_dispersal.proofs.energy_dispersal.Goals as goal

abbrev xored : ℕ → ℕ → ℕ
xored n x = bit_xor x (prbs n)

pub loop-value-init : goal.loop-value-init
loop-value-init c = record { register = register-start; changed = changed_none 0 xored _ }

pub overflow_mul-reg : goal.overflow_mul-reg
overflow_mul-reg c = omega (arith, register-lt c.loop-value.value-index)

pub overflow_add-reg : goal.overflow_add-reg
overflow_add-reg c = omega (arith, register-lt c.loop-value.value-index)

pub loop-value-preserved : goal.loop-value-preserved
loop-value-preserved c =
    let i = c.loop-value.value-index in
    let v = c.loop-value.invariant in
    let bit = ap (λ (r : ℕ). (r / 256 + r / 16) % 2) v.register ∙ register_bit i in
    record {
      register = ap₂ (λ (r p : ℕ). (2 * r + p) % 512) v.register bit ∙ register_next i;
      changed = changed_next 0 xored _ i c.loop-value.bits _ (omega arith) (ap (bit_xor (get_or c.loop-value.bits i 0)) bit) v.changed;
    }

pub returns : goal.returns
returns c =
    let old = c.args.bits.now in
    let v = c.loop-value.invariant.changed in
    ext_get_or 0 c.loop-value.bits (disperse old) (v.long ∙ sym (disperse-length old)) (λ k l. v.done k (omega arith) ∙ sym (disperse-at old k (omega arith)))
