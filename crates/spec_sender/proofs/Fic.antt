-- What is sent of three FIBs: 96 bytes, each FIB's own and valid, and 2,304 bits by clause 11.2's two regions.
-- Assumes nothing.
use mathlib.Core.Path.{◌≡◌, sym, ap, ap₂, ◌∙◌}
use mathlib.Core.Bool.{true}
use mathlib.Core.List.{List, [], ◌∷◌, ◌++◌}
use Prim.Native.Nat.{ℕ, zero, suc, ◌+◌, ◌*◌, ◌/◌, ◌%◌, ◌<◌}
use native.Mathlib.Omega.{arith}
use lib.Dec.{eqb}
use lib.ListN.{length, take, drop, length-append}
use lib.Seq.{take_at, drop_at, drop-drop, take_all}
use store.Seg.{eqb_same}
use Rattle.laws.specs.Bits.{num_of, AreBytes}
use Rattle.laws.proofs.Bits.{below-nil, below-cons, below-append}
use Rattle.spec_en300401.specs.Bytes.{bits_of_bytes}
use Rattle.spec_en300401.specs.Crc.{crc_word, fib_valid}
use Rattle.spec_en300401.specs.MotherCode.{code_word}
use Rattle.spec_en300401.specs.Puncturing.{Region, region_mask, mask, puncture, fic_profile}
use Rattle.spec_en300401.proofs.Bytes.{take-bits, drop_bits, two_bytes}
use Rattle.spec_en300401.proofs.Puncturing.{length-region, fic-length, fic-kept}
use Rattle.spec_sender.specs.Coding.{message, sent}
use Rattle.spec_sender.specs.Fic.{Data, with_crc, fibs_of, block_sent}
use Rattle.spec_sender.proofs.Coding.{message-length, mask-length, word_length, sent-length, puncture-append}

-- ---- one FIB

word_lt : (bs : List ℕ) → crc_word bs < 65536
unfolding crc_word
word_lt bs = omega arith

module _ (own : List ℕ) (size : length own ≡ 30) where
  pub with_length : length (with_crc own) ≡ 32
  unfolding with_crc
  with_length = length-append own _ ∙ omega (arith, size)

  -- it is valid
  pub with_valid : fib_valid (bits_of_bytes (with_crc own)) ≡ true
  unfolding with_crc fib_valid
  with_valid =
      let w : ℕ = crc_word (bits_of_bytes own) in
      let last : List ℕ = w / 256 ∷ w % 256 ∷ [] in
      let small : w < 65536 = word_lt (bits_of_bytes own) in
      let first : take 240 (bits_of_bytes (own ++ last)) ≡ bits_of_bytes own = take-bits 30 (own ++ last) ∙ ap bits_of_bytes (take_at own last 30 size) in
      let rest : drop 240 (bits_of_bytes (own ++ last)) ≡ bits_of_bytes last = drop_bits 30 (own ++ last) ∙ ap bits_of_bytes (drop_at own last 30 size) in
      let word : num_of (bits_of_bytes last) ≡ w = two_bytes (w / 256) (w % 256) (omega arith) (omega arith) ∙ omega arith in
      ap₂ eqb (ap crc_word first) (ap num_of rest ∙ word) ∙ eqb_same w

  pub with_bytes : AreBytes own → AreBytes (with_crc own)
  unfolding with_crc
  with_bytes h =
      let small : crc_word (bits_of_bytes own) < 65536 = word_lt (bits_of_bytes own) in
      below-append h (below-cons (omega arith) (below-cons (omega arith) below-nil))

-- ---- three FIBs

module _ (f : Data) where
  fib-length : (j : ℕ) → j < 3 → length (with_crc (f.fib j)) ≡ 32
  fib-length j l = with_length (f.fib j) (f.size j l)

  pub fibs-length : length (fibs_of f) ≡ 96
  unfolding fibs_of
  fibs-length =
      length-append (with_crc (f.fib 0)) _
      ∙ omega (arith, length-append (with_crc (f.fib 1)) (with_crc (f.fib 2)), fib-length 0 (omega arith), fib-length 1 (omega arith), fib-length 2 (omega arith))

  -- the bytes of FIB j are where they should be
  pub fib-place : (j : ℕ) → j < 3 → take 32 (drop (32 * j) (fibs_of f)) ≡ with_crc (f.fib j)
  unfolding fibs_of
  fib-place zero h = take_at (with_crc (f.fib 0)) _ 32 (fib-length 0 h)
  fib-place (suc zero) h = ap (take 32) (drop_at (with_crc (f.fib 0)) _ 32 (fib-length 0 (omega arith))) ∙ take_at (with_crc (f.fib 1)) _ 32 (fib-length 1 h)
  fib-place (suc (suc zero)) h =
      ap (take 32)
      (sym (drop-drop 32 32 (with_crc (f.fib 0) ++ (with_crc (f.fib 1) ++ with_crc (f.fib 2))))
      ∙ ap (drop 32) (drop_at (with_crc (f.fib 0)) _ 32 (fib-length 0 (omega arith)))
      ∙ drop_at (with_crc (f.fib 1)) _ 32 (fib-length 1 (omega arith)))
      ∙ take_all 32 (with_crc (f.fib 2)) (omega (arith, fib-length 2 h))
  fib-place (suc (suc (suc j))) h = absurd (omega arith)

  -- ---- their bits as they are sent

  profile_fits : length (mask fic_profile) ≡ 4 * (8 * length (fibs_of f) + 6)
  profile_fits = fic-length ∙ omega (arith, fibs-length)

  pub block_message_length : length (message (fibs_of f)) ≡ 768
  block_message_length = message-length (fibs_of f) ∙ omega (arith, fibs-length)

  pub block_mask_length : length (mask fic_profile) ≡ 4 * (length (message (fibs_of f)) + 6)
  block_mask_length = mask-length fic_profile (fibs_of f) profile_fits

  pub block-length : length (block_sent f) ≡ 2304
  unfolding block_sent
  block-length = sent-length fic_profile (fibs_of f) profile_fits ∙ fic-kept

  -- 21 blocks under PI 16, then three under PI 15 with the tail
  pub block-regions :
      let word : List ℕ = code_word (message (fibs_of f)) in
      block_sent f ≡ puncture (region_mask (record { blocks = 21; pi = 16 })) (take 2688 word) ++ puncture (mask (record { blocks = 3; pi = 15 } ∷ [])) (drop 2688 word)
  unfolding block_sent sent mask
  block-regions =
      let first : Region = record { blocks = 21; pi = 16 } in
      let later : Region = record { blocks = 3; pi = 15 } in
      let word : List ℕ = code_word (message (fibs_of f)) in
      puncture-append (region_mask first) (mask (later ∷ [])) word (omega (arith, length-region first, word_length fic_profile (fibs_of f) profile_fits, block_message_length))
      ∙ ap (λ (n : ℕ). puncture (region_mask first) (take n word) ++ puncture (mask (later ∷ [])) (drop n word)) (length-region first)
