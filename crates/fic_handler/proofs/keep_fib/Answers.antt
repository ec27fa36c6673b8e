-- By the test.
use Rattle.std.proofs.Common.{◌≡◌, refl, sym, ap, ◌∙◌, subst, Bool, cond, List, ◌++◌, ℕ, ◌/◌, ◌≤◌, length, drop, arith}
use Rattle.std.specs.Result.{IsOk}
use Rattle.laws.specs.Bits.{AreBits}
use Rattle.refusal.proofs.Told.{is-ok}
use Rattle.spec_en300401.specs.Bytes.{bytes_of_bits}
use Rattle.fec_crc.proofs.Agree.{bit_is}
use Rattle.fec_packing.specs.Bytes.{bytes_of, packed}
use Rattle.fec_packing.proofs.Bits.{as_bits}
use Rattle.fec_packing.proofs.Answers.{long_enough, packed-is}
use Rattle.fic_handler.proofs.keep_fib.Goals as goal

packs : (bits out : List ℕ) → length bits ≡ 256 → 32 ≤ length out → AreBits bits → packed bits out ≡ bytes_of_bits bits ++ drop 32 out
unfolding bytes_of
packs bits out e h b =
    packed-is bits out (omega arith) ∙ ap (λ (n : ℕ). bytes_of bits ++ drop (n / 8) out) e ∙ ap (λ (r : List ℕ). bytes_of_bits r ++ drop 32 out) (as_bits bits b)

pub returns-then-passed-clause-bytes : goal.returns-then-passed-clause-bytes
returns-then-passed-clause-bytes c =
    let bits = c.args.bits.now in
    let passed = sym c.if-passed.true ∙ c.check_crc_bits-passed.ensures ∙ bit_is bits (omega arith) c.requires.are_bits in
    c.pack.ensures.bytes ∙ packs bits c.args.out.now (omega arith) c.requires.room c.requires.are_bits ∙ ap (λ (t : Bool). cond t (bytes_of_bits bits ++ drop 32 c.args.out.now) c.args.out.now) passed

pub unwrap-requires : goal.unwrap-requires
unwrap-requires c = subst IsOk (sym (is-ok c.pack.result _ _ c.pack.ensures.answer (long_enough c.args.bits.now c.args.out.now (omega arith)))) refl
