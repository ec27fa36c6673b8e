-- How long a message, a punctured word and a padded one are, and that dispersal undone gives the bytes again.
-- Assumes nothing.
use mathlib.Core.Path.{◌≡◌, refl, sym, ap, ◌∙◌}
use mathlib.Core.Bool.{Bool, true, false}
use mathlib.Core.List.{List, [], ◌∷◌, ◌++◌}
use Prim.Native.Nat.{ℕ, ◌+◌, ◌*◌, ◌-◌, ◌<◌, ◌≤◌}
use native.Mathlib.Omega.{arith}
use native.Mathlib.Nat.{not-suc-le-zero}
use lib.ListN.{length, get_or, take, drop, replicate, length-append, length-replicate, get_or-append}
use Rattle.laws.specs.Bits.{AreBits, AreBytes}
use Rattle.laws.proofs.Lists.{length-list_of}
use Rattle.spec_en300401.specs.Bytes.{bits_of_bytes, bytes_of_bits}
use Rattle.spec_en300401.specs.Dispersal.{disperse}
use Rattle.spec_en300401.specs.MotherCode.{code_word}
use Rattle.spec_en300401.specs.Puncturing.{Region, mask, puncture, kept_size}
use Rattle.spec_en300401.proofs.Bytes.{bits-length, bits_of_bytes_lem, bytes_back}
use Rattle.spec_en300401.proofs.Dispersal.{disperse-length, disperse-bits, disperse_twice}
use Rattle.spec_en300401.proofs.Puncturing.{length-puncture}
use Rattle.spec_sender.specs.Coding.{message, sent, padded}

-- ---- the message

module _ (block : List ℕ) where
  pub message-length : length (message block) ≡ 8 * length block
  unfolding message
  message-length = disperse-length (bits_of_bytes block) ∙ bits-length block

  pub message-bits : AreBits (message block)
  unfolding message
  message-bits = search (disperse-bits, bits_of_bytes_lem)

  -- dispersed once more it is the block's bits, and these are its bytes
  pub dispersed_back : disperse (message block) ≡ bits_of_bytes block
  unfolding message
  dispersed_back = disperse_twice (bits_of_bytes block)

  pub bytes_again : AreBytes block → bytes_of_bits (disperse (message block)) ≡ block
  bytes_again h = ap bytes_of_bits dispersed_back ∙ bytes_back block h

-- ---- what is sent of it, where the profile is for a block of its length

module _ (profile : List Region) (block : List ℕ) (fits : length (mask profile) ≡ 4 * (8 * length block + 6)) where
  pub mask-length : length (mask profile) ≡ 4 * (length (message block) + 6)
  mask-length = fits ∙ omega (arith, message-length block)

  pub word_length : length (code_word (message block)) ≡ 4 * (length (message block) + 6)
  unfolding code_word
  word_length = length-list_of (4 * (length (message block) + 6)) _

  -- as many bits as the profile keeps
  pub sent-length : length (sent profile block) ≡ kept_size profile
  unfolding sent kept_size
  sent-length = length-puncture (mask profile) (code_word (message block)) (mask-length ∙ sym word_length)

-- the front of a word under its own flags, and then the rest
module _ {A : Type 0} where
  pub puncture-append : (ks ls : List Bool) (xs : List A) → length ks ≤ length xs → puncture (ks ++ ls) xs ≡ puncture ks (take (length ks) xs) ++ puncture ls (drop (length ks) xs)
  unfolding puncture
  puncture-append [] ls xs h = refl
  puncture-append (k ∷ ks) ls [] h = absurd (not-suc-le-zero h)
  puncture-append (true ∷ ks) ls (x ∷ xs) h = ap (λ (r : List A). x ∷ r) (puncture-append ks ls xs (omega arith))
  puncture-append (false ∷ ks) ls (x ∷ xs) h = puncture-append ks ls xs (omega arith)

-- ---- padding

module _ (n : ℕ) (bits : List ℕ) where
  pub padded-length : length bits ≤ n → length (padded n bits) ≡ n
  unfolding padded
  padded-length h = length-append bits (replicate (n - length bits) 0) ∙ omega (arith, length-replicate {A = ℕ} (n - length bits) 0)

  pub padded_front : (i : ℕ) → i < length bits → get_or (padded n bits) i 0 ≡ get_or bits i 0
  unfolding padded
  padded_front i l = get_or-append bits (replicate (n - length bits) 0) 0 i l
