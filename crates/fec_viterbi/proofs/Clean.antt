-- A clean word is decoded: where the values agree with what was sent of a message, the decoded bits begin with the message.
-- Assumes nothing.
use mathlib.Core.Path.{◌≡◌, ap, ◌∙◌, refl, subst}
use mathlib.Core.List.{List}
use Prim.Native.Nat.{ℕ, ◌+◌, ◌*◌, ◌<◌}
use lib.ListN.{length, get_or, take}
use lib.Seq.{take_at}
use lib.IntN.{ℤ}
use Rattle.laws.specs.Bits.{AreBits}
use Rattle.laws.specs.Integers.{at}
use Rattle.spec_trellis.specs.Clean.{Agrees, six_zeros}
use Rattle.spec_en300401.specs.MotherCode.{code_word}
use Rattle.spec_en300401.specs.Puncturing.{Region, mask, puncture, depuncture}
use Rattle.spec_trellis.specs.Trellis.{Ends, Best}
use Rattle.spec_trellis.proofs.CleanWord.{clean_bits, sent_clean}
use Rattle.fec_viterbi.specs.Result.{Decodes}
use Rattle.fec_viterbi.specs.Theorems.{CleanIsDecoded}

-- under any profile, by either decoder
pub clean_decoded : (rs : List Region) {m : List ℕ} (vs : List ℤ) → AreBits m → length (mask rs) ≡ 4 * (length m + 6)
    → ((i : ℕ) → i < length (puncture (mask rs) (code_word m)) → Agrees (at vs i) (get_or (puncture (mask rs) (code_word m)) i 0))
    → {n : ℕ} → n ≡ length m + 6 → {ends : Ends} {decoded : List ℕ} {metric : ℤ} → Decodes ends (depuncture (mask rs) vs) n decoded metric → take (length m) decoded ≡ m
clean_decoded rs {m} vs h l agree e {ends} x =
    let best : Best (depuncture (mask rs) vs) (length m + 6) ends x.start x.path = subst (λ (k : ℕ). Best (depuncture (mask rs) vs) k ends x.start x.path) e x.best in
    ap (take (length m)) (x.bits_are ∙ clean_bits (sent_clean rs h l agree) best) ∙ take_at m six_zeros (length m) refl

pub clean_decodes : CleanIsDecoded
clean_decodes rs m vs h l agree ends decoded metric x = clean_decoded rs vs h l agree refl x
