-- Which number turns a decoder's caller away, in document 01's order.
-- Assumes nothing.
use mathlib.Core.Path.{◌≡◌}
use Prim.Native.Nat.{ℕ, ◌<◌, ◌≤◌, min}
use borrow.Author.Tests.{lt-ltb, le-ltb}
use Rattle.fec_viterbi.specs.Decoders.{decoder_refusal}

module _ (n words bits : ℕ) where
  pub too_long : 65536 < n → decoder_refusal n words bits ≡ 11
  unfolding decoder_refusal
  too_long h = simp (lt-ltb _ _ h)

  pub too_short : n ≤ 65536 → min words bits < n → decoder_refusal n words bits ≡ 8
  unfolding decoder_refusal
  too_short h r = simp (le-ltb _ _ h, lt-ltb _ _ r)

  pub no_refusal : n ≤ 65536 → n ≤ min words bits → decoder_refusal n words bits ≡ 0
  unfolding decoder_refusal
  no_refusal h r = simp (le-ltb _ _ h, le-ltb _ _ r)
