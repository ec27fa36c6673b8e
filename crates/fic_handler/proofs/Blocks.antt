-- Laws of one block: its values with the erasures put back, and its data bits at the front of the given ones.
-- Assumes nothing.
use mathlib.Core.Path.{◌≡◌, ap, ◌∙◌, subst}
use mathlib.Core.Bool.{Bool}
use mathlib.Core.List.{List, [], ◌++◌, append_assoc, append-nil}
use Prim.Native.Nat.{ℕ, ◌*◌, ◌≤◌}
use native.Mathlib.Omega.{arith}
use borrow.Author.Tests.{le-ltb}
use lib.IntN.{ℤ}
use lib.ListN.{length, take, drop}
use lib.Seq.{take_at, length-take-le, drop-length}
use Rattle.laws.specs.Bits.{AreBits}
use Rattle.laws.proofs.Bits.{below-take}
use Rattle.spec_en300401.specs.Puncturing.{mask, depuncture, fic_profile}
use Rattle.spec_trellis.specs.Trellis.{zero_end}
use Rattle.spec_en300401.proofs.Dispersal.{disperse-length, disperse-bits}
use Rattle.spec_en300401.proofs.Puncturing.{length-depuncture, fic-length}
use Rattle.std.specs.Prelude.{Result}
use Rattle.refusal.specs.declared.Refusal.{Refusal}
use Rattle.refusal.specs.Outcome.{check, unless_refused}
use Rattle.fec_depuncturing.specs.Promises.{DepuncturedFic}
use Rattle.fec_quality.specs.declared.Quality.{Quality}
use Rattle.fec_quality.specs.Figures.{quality_of}
use Rattle.fec_viterbi.specs.Result.{Decodes, ChoiceWords}
use Rattle.fec_viterbi.proofs.Result.{decoded-length, decoded-bits}
use Rattle.fic_handler.specs.Blocks.{data_bits, count_of, passed_bytes, Buffers}
use Rattle.fic_handler.specs.Code.{KeptFibs, BlockDecoded, BlockProcessed}

-- a block with the erasures put back
abbrev pub restored : List ℤ → List ℤ
restored values = depuncture (mask fic_profile) values

pub restored_length : (values : List ℤ) → length (restored values) ≡ 3096
restored_length values = length-depuncture (mask fic_profile) values ∙ fic-length

pub depunctured-is : (values before after : List ℤ) (r : Result (Unit {0}) Refusal) → 3096 ≤ length before → DepuncturedFic values before after r → after ≡ restored values ++ drop 3096 before
depunctured-is values before after r h p = p.places ∙ ap (λ (t : Bool). unless_refused (check 8 t) (restored values ++ drop 3096 before) before) (le-ltb (length before) 3096 h)

pub whole_is : (values before after : List ℤ) → length before ≡ 3096 → after ≡ restored values ++ drop 3096 before → after ≡ restored values
whole_is values before after h e =
    e ∙ ap (λ (l : List ℤ). restored values ++ l) (subst (λ (n : ℕ). drop n before ≡ []) h (drop-length before)) ∙ append-nil (restored values)

pub data_length : {xs : List ℤ} {decoded : List ℕ} {m : ℤ} → Decodes zero_end xs 774 decoded m → length (data_bits decoded) ≡ 768
unfolding data_bits
data_length {decoded = decoded} d = disperse-length (take 768 decoded) ∙ length-take-le 768 decoded (omega (arith, decoded-length d))

pub data_are : {xs : List ℤ} {decoded : List ℕ} {m : ℤ} → Decodes zero_end xs 774 decoded m → AreBits (data_bits decoded)
unfolding data_bits
data_are d = disperse-bits (below-take 768 (decoded-bits d))

-- the data bits stand at the front
pub data_front : {xs : List ℤ} {words bits : List ℕ} {q : Quality} {words' bits' : List ℕ} (b : BlockDecoded xs words bits q words' bits') → take 768 bits' ≡ data_bits b.block.decoded
data_front {bits = bits} b =
    ap (take 768) (b.bits_are ∙ append_assoc (data_bits b.block.decoded) (drop 768 b.block.decoded) (drop 774 bits))
    ∙ take_at (data_bits b.block.decoded) (drop 768 b.block.decoded ++ drop 774 bits) 768 (data_length b.decodes)

-- depuncturing, decoding and keeping the FIBs of a block, put together
pub block_done : (values : List ℤ) (before after : Buffers) (r : Result (Unit {0}) Refusal) (q : Quality) (k : ℕ) → length before.depunctured ≡ 3096 → DepuncturedFic values before.depunctured after.depunctured r
    → (b : BlockDecoded after.depunctured before.words before.bits q after.words after.bits) → KeptFibs (take 768 after.bits) 3 before.fibs k after.fibs → BlockProcessed values before k q after
block_done values before after r q k h p b f =
    let d = depunctured-is values before.depunctured after.depunctured r (omega arith) p in
    let e = whole_is values before.depunctured after.depunctured h d in
    let g = data_front b in
    record {
      block = b.block;
      decodes = subst (λ (xs : List ℤ). Decodes zero_end xs 774 b.block.decoded b.block.metric) e b.decodes;
      chosen = subst (λ (xs : List ℤ). ChoiceWords xs 774 b.block.choices) e b.chosen;
      count_is = f.kept_is ∙ ap (λ (xs : List ℕ). count_of xs 3) g;
      quality_is = b.quality_is ∙ ap (quality_of b.block.metric) e;
      depunctured_are = d;
      words_are = b.words_are;
      bits_are = b.bits_are;
      fibs_are = f.bytes ∙ ap (λ (xs : List ℕ). passed_bytes xs 3 ++ drop (32 * k) before.fibs) g;
    }
