-- One FIB more at each turn.
use Rattle.std.proofs.Common.{◌≡◌, refl, sym, ap, ap₂, ◌∙◌, subst, Bool, true, false, cond, List, [], ◌++◌, ℕ, ◌+◌, ◌*◌, ◌-◌, ◌/◌, ◌<◌, ◌≤◌, arith, length, get_or, take, drop}
use Rattle.std.specs.Simd.{first_chunks}
use mir.Val.{bool_byte}
use borrow.Rule.Slice.PartMut.{put_mid}
use Rattle.laws.specs.Bits.{AreBits}
use Rattle.laws.specs.Words.{pick_n}
use Rattle.laws.proofs.Words.{bit_lt}
use Rattle.laws.proofs.Slices.{tail_part, tail_put}
use Rattle.laws.proofs.Bits.{below-take, below-drop}
use Rattle.spec_en300401.specs.Bytes.{bytes_of_bits}
use Rattle.spec_en300401.specs.Crc.{fib_valid}
use Rattle.fic_handler.specs.Blocks.{fib_of, passed_bytes, count_of}
use Rattle.fic_handler.specs.Code.{KeptFibs}
use Rattle.laws.proofs.Chunks.{chunk_at}
use Rattle.fic_handler.proofs.Fibs.{kept_next}
use Rattle.fic_handler.proofs.keep_fibs.Goals as goal

one_or_none : (t : Bool) → pick_n t 1 0 ≡ bool_byte t
one_or_none true = refl
one_or_none false = refl

this_fib : (bits : List ℕ) {each : List (List ℕ)} {j : ℕ} → length bits ≡ 768 → each ≡ first_chunks 256 (length bits / 256) bits → j < 3 → get_or each j [] ≡ fib_of bits j
this_fib bits {each} {j} e front h = ap (λ (l : List (List ℕ)). get_or l j []) front ∙ chunk_at 256 (length bits / 256) bits j [] (omega arith)

next : {bits old fibs new fib : List ℕ} {kept j k : ℕ} {t : Bool} → length bits ≡ 768 → j < 3 → 32 * kept ≤ length fibs → KeptFibs bits j old kept fibs
    → fib ≡ fib_of bits j → t ≡ fib_valid fib → k ≡ bool_byte t
    → new ≡ cond (fib_valid fib) (bytes_of_bits fib ++ drop 32 (take (length fibs - 32 * kept) (drop (32 * kept) fibs))) (take (length fibs - 32 * kept) (drop (32 * kept) fibs))
    → KeptFibs bits (j + 1) old (kept + k) (put_mid (32 * kept) (length fibs - 32 * kept) fibs new)
next {bits} {old} {fibs} {new} {fib} {kept} {j} {k} {t} e h fits v is passed count bytes =
    subst (KeptFibs bits (j + 1) old (kept + k)) (sym (tail_put (32 * kept) fibs fits new))
    (kept_next e h v (count ∙ sym (one_or_none t) ∙ ap (λ (b : Bool). pick_n b 1 0) (passed ∙ ap fib_valid is))
    (bytes ∙ ap₂ (λ (f l : List ℕ). cond (fib_valid f) (bytes_of_bits f ++ drop 32 l) l) is (tail_part (32 * kept) fibs fits)))

pub loop-fib-init : goal.loop-fib-init
unfolding passed_bytes count_of
loop-fib-init c = record { few = omega arith; so_far = record { kept_is = refl; bytes = refl } }

pub keep_fib-requires-clause-are_bits : goal.keep_fib-requires-clause-are_bits
keep_fib-requires-clause-are_bits c =
    subst AreBits (sym (this_fib c.args.bits.now c.requires.bits_len c.as_chunks.ensures.front (omega arith))) (below-take 256 (below-drop (256 * c.loop-fib.fib-index) c.requires.are_bits))

pub loop-fib-preserved : goal.loop-fib-preserved
loop-fib-preserved c =
    let l = c.loop-fib in
    record {
      few = omega (arith, one_or_none c.keep_fib.result, c.from-kept.ensures, bit_lt c.keep_fib.result);
      so_far =
          next c.requires.bits_len (omega arith) (omega arith) l.invariant.so_far (this_fib c.args.bits.now c.requires.bits_len c.as_chunks.ensures.front (omega arith)) c.keep_fib.ensures.passed c.from-kept.ensures
          c.keep_fib.ensures.bytes;
    }
