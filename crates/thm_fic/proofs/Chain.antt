-- The FIC's chain there and back: a block that was heard clean decodes to its three FIBs, and each passes.
-- Assumes nothing.
use mathlib.Core.Path.{◌≡◌, sym, ap, ap₂, ◌∙◌, subst}
use mathlib.Core.Bool.{Bool, true, cond}
use mathlib.Core.List.{List, [], ◌++◌, append_assoc}
use Prim.Native.Nat.{ℕ, ◌+◌, ◌*◌, ◌<◌}
use native.Mathlib.Omega.{arith}
use lib.ListN.{get_or, take, drop}
use lib.Seq.{get_or-take, get_or-drop}
use lib.IntN.{ℤ, pos}
use Rattle.laws.specs.Integers.{at}
use Rattle.laws.specs.Words.{pick_n}
use Rattle.spec_en300401.specs.Bytes.{bits_of_bytes, bytes_of_bits}
use Rattle.spec_trellis.specs.Clean.{Agrees}
use Rattle.spec_en300401.specs.Crc.{fib_valid}
use Rattle.spec_en300401.specs.Dispersal.{disperse}
use Rattle.spec_en300401.specs.Puncturing.{fic_profile}
use Rattle.spec_en300401.proofs.Bytes.{bytes_back, take-bits, drop_bits}
use Rattle.spec_sender.specs.Coding.{message, sent}
use Rattle.spec_sender.specs.Fic.{Data, with_crc, fibs_of, block_sent}
use Rattle.spec_sender.proofs.Coding.{message-bits, dispersed_back}
use Rattle.spec_sender.proofs.Fic.{with_valid, with_bytes, fib-place, block_message_length, block_mask_length, block-length}
use Rattle.fec_viterbi.proofs.Clean.{clean_decoded}
use Rattle.fic_handler.specs.Blocks.{block_of, depunctured_block, data_bits, fib_of, good, passed_bytes, count_of, Block, IsBlock}
use Rattle.thm_fic.specs.Heard.{Heard}

module _ (f : Data) where
  -- ---- the FIBs of the block's bits, and that each passes

  fib-at : (j : ℕ) → j < 3 → fib_of (bits_of_bytes (fibs_of f)) j ≡ bits_of_bytes (with_crc (f.fib j))
  fib-at j h =
      let eight : 256 * j ≡ 8 * (32 * j) = omega arith in
      ap (λ (n : ℕ). take 256 (drop n (bits_of_bytes (fibs_of f)))) eight
      ∙ ap (take 256) (drop_bits (32 * j) (fibs_of f)) ∙ take-bits 32 (drop (32 * j) (fibs_of f)) ∙ ap bits_of_bytes (fib-place f j h)

  good-at : (j : ℕ) → j < 3 → good (bits_of_bytes (fibs_of f)) j ≡ true
  good-at j h = ap fib_valid (fib-at j h) ∙ with_valid (f.fib j) (f.size j h)

  one_more : (j : ℕ) → j < 3 → cond (good (bits_of_bytes (fibs_of f)) j) (bytes_of_bits (fib_of (bits_of_bytes (fibs_of f)) j)) [] ≡ with_crc (f.fib j)
  one_more j h =
      ap (λ (t : Bool). cond t (bytes_of_bits (fib_of (bits_of_bytes (fibs_of f)) j)) []) (good-at j h) ∙ ap bytes_of_bits (fib-at j h)
      ∙ bytes_back (with_crc (f.fib j)) (with_bytes (f.fib j) (f.size j h) (f.bytes j h))

  all-passed : passed_bytes (bits_of_bytes (fibs_of f)) 3 ≡ fibs_of f
  unfolding passed_bytes fibs_of
  all-passed =
      ap₂ (λ (a b : List ℕ). a ++ b) (ap₂ (λ (a b : List ℕ). a ++ b) (one_more 0 (omega arith)) (one_more 1 (omega arith))) (one_more 2 (omega arith))
      ∙ append_assoc (with_crc (f.fib 0)) (with_crc (f.fib 1)) (with_crc (f.fib 2))

  all-counted : count_of (bits_of_bytes (fibs_of f)) 3 ≡ 3
  unfolding count_of
  all-counted =
      ap₂ (λ (a b : ℕ). a + b) (ap₂ (λ (a b : ℕ). a + b) (ap (λ (t : Bool). 0 + pick_n t 1 0) (good-at 0 (omega arith))) (ap (λ (t : Bool). pick_n t 1 0) (good-at 1 (omega arith))))
      (ap (λ (t : Bool). pick_n t 1 0) (good-at 2 (omega arith)))

  -- ---- a block heard clean

  module _ {xs : List ℤ} {b : ℕ} (h : Heard f xs b) {k : Block} (is : IsBlock xs b k) where
    value_at_lem : (i : ℕ) → i < 2304 → at (block_of xs b) i ≡ at xs (2304 * b + i)
    value_at_lem i l = get_or-take 2304 (drop (2304 * b) xs) i (pos 0) l ∙ get_or-drop (2304 * b) xs i (pos 0)

    decoded-is : take 768 k.decoded ≡ message (fibs_of f)
    unfolding block_sent sent depunctured_block
    decoded-is =
        let short : (i : ℕ) → i < _ → i < 2304 = λ i l. subst (λ (n : ℕ). i < n) (block-length f) l in
        ap (λ (n : ℕ). take n k.decoded) (sym (block_message_length f))
        ∙ clean_decoded fic_profile (block_of xs b) (message-bits (fibs_of f)) (block_mask_length f)
        (λ i l. subst (λ (v : ℤ). Agrees v (get_or (block_sent f) i 0)) (sym (value_at_lem i (short i l))) (h.agrees i (short i l)))
        (omega (arith, block_message_length f)) is.decodes

    data_is : data_bits k.decoded ≡ bits_of_bytes (fibs_of f)
    unfolding data_bits
    data_is = ap disperse decoded-is ∙ dispersed_back (fibs_of f)

    pub block-passed : passed_bytes (data_bits k.decoded) 3 ≡ fibs_of f
    block-passed = ap (λ (bits : List ℕ). passed_bytes bits 3) data_is ∙ all-passed

    pub block-counted : count_of (data_bits k.decoded) 3 ≡ 3
    block-counted = ap (λ (bits : List ℕ). count_of bits 3) data_is ∙ all-counted
