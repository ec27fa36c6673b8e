-- `fec_crc::check_crc_bits` meets its contract: 256 zeros and ones are packed, and the byte test of the 32 bytes is the bit test.
-- Assumes nothing.
use mathlib.Core.Path.{◌≡◌, refl, sym, ap, subst, ◌∙◌}
use mathlib.Core.List.{List, ◌++◌, append-nil}
use Prim.Native.Nat.{ℕ, ◌/◌}
use native.Mathlib.Omega.{arith}
use lib.ListN.{length, drop_of_length-le}
use Rattle.std.specs.Prelude.{Result, Ok}
use Rattle.std.specs.Result.{IsOk}
use Rattle.refusal.specs.declared.Refusal.{Refusal}
use Rattle.laws.specs.Bits.{AreBits}
use Rattle.refusal.proofs.Told.{is-ok}
use Rattle.spec_en300401.specs.Bytes.{bytes_of_bits}
use Rattle.fec_packing.specs.Bytes.{bytes_of, pack_refusal, Packs}
use Rattle.fec_packing.proofs.Answers.{long_enough, packed-is}
use Rattle.fec_packing.proofs.Bits.{bytes_of-bits}
use Rattle.fec_crc.specs.Tests.{byte_test}
use Rattle.fec_crc.proofs.Agree.{tests_agree, no_bits, not_256}
use Rattle.fec_crc.proofs.Bits.{all_are}
use Rattle.fec_crc.proofs.check_crc_bits.Goals as goal

module _ (bits fib : List ℕ) (long : length bits ≡ 256) (room : length fib ≡ 32) {r : Result ℕ Refusal} {new : List ℕ} (p : Packs bits fib r new) where
  done : r ≡ Ok (length bits / 8)
  done = is-ok r (pack_refusal bits fib) (length bits / 8) p.answer (long_enough bits fib (omega arith))

  bytes : AreBits bits → new ≡ bytes_of_bits bits
  bytes h =
      p.bytes ∙ packed-is bits fib (omega arith) ∙ ap (λ (l : List ℕ). bytes_of bits ++ l) (drop_of_length-le fib (omega arith)) ∙ append-nil (bytes_of bits)
      ∙ bytes_of-bits bits h

pub returns-then-bits-ne-FIB_BITS : goal.returns-then-bits-ne-FIB_BITS
returns-then-bits-ne-FIB_BITS c = not_256 _ c.if-bits-ne-FIB_BITS.true

pub returns-then-not-are_bits : goal.returns-then-not-are_bits
returns-then-not-are_bits c = no_bits _ c.if-not-are_bits.ensures

pub unwrap-requires : goal.unwrap-requires
unwrap-requires c = subst (λ (r : Result ℕ Refusal). IsOk r) (sym (done c.args.bits.now _ c.if-bits-ne-FIB_BITS.false refl c.pack.ensures)) refl

pub returns : goal.returns
returns c =
    let bits = c.args.bits.now in
    let h = all_are bits (sym c.if-not-are_bits.ensures) in
    c.fib_crc_valid.ensures ∙ ap byte_test (bytes bits _ c.if-bits-ne-FIB_BITS.false refl c.pack.ensures h) ∙ sym (tests_agree bits c.if-bits-ne-FIB_BITS.false h)
