-- What the loop of `fec_dispersal::energy_dispersal` keeps: the register holds the nine stages before the next bit, and the values passed
-- have been xored with their bits.
use Rattle.std.proofs.Common.{◌≡◌, ℕ}
use Rattle.std.specs.Int.Bits.{bit_xor}
use Rattle.laws.proofs.Slices.{Changed}
use Rattle.spec_en300401.specs.Dispersal.{prbs}
use Rattle.spec_en300401.proofs.Dispersal.{register_at}
use Rattle.fec_dispersal.proofs.energy_dispersal.Given as goal

abbrev pub invariant-loop-value : goal.invariant-loop-value
invariant-loop-value l = record {
  register : l.reg ≡ register_at l.value-index;
  changed : Changed 0 (λ (n x : ℕ). bit_xor x (prbs n)) l.initial.bits l.value-index l.bits;
}
