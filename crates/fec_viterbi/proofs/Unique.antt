-- Two results that a decoder's promise allows are one: the answer, the words and the bits.
-- Assumes nothing.
use mathlib.Core.Path.{◌≡◌, sym, ap, ◌∙◌, subst}
use mathlib.Core.Bool.{Bool}
use mathlib.Core.List.{List, [], ◌∷◌, ◌++◌, map, reverse}
use Prim.Native.Nat.{ℕ, zero, suc, ◌+◌, ◌-◌, ◌*◌, ◌/◌, ◌%◌, ◌^◌, ◌<◌}
use native.Mathlib.Omega.{arith}
use native.Mathlib.Decide.{dec_lt}
use lib.ListN.{length, get_or, drop}
use lib.Seq.{ext_get_or, get_or-drop}
use lib.IntN.{ℤ, ◌-ℤ◌}
use Rattle.laws.proofs.Words.{word_same}
use Rattle.spec_trellis.specs.Trellis.{bit_n, end_of, score_of, Ends, BestInto, SamePath}
use Rattle.spec_trellis.specs.Program.{start_into, bits_into}
use Rattle.spec_trellis.proofs.TrellisOrder.{best_unique}
use Rattle.spec_trellis.proofs.TrellisProgram.{into-best, into-length}
use Rattle.spec_trellis.proofs.TrellisSubtracted.{subtracted_unique}
use Rattle.refusal.specs.Outcome.{gives, outcome, unless_refused, told}
use Rattle.refusal.proofs.Told.{told_one}
use Rattle.fec_viterbi.specs.Decoders.{steps, decoder_refusal, Choices, Accepted, Untouched}
use Rattle.fec_viterbi.specs.Theorems.{SameDecoding, DecodedUnique}

-- each state has a best path, so each bit of a word is fixed
bit_unique : {xs : List ℤ} {t v w : ℕ} → Choices xs t v → Choices xs t w → (s : ℕ) → s < 64 → v / 2 ^ s % 2 ≡ w / 2 ^ s % 2
bit_unique {xs} {t} {v} {w} f g s h = go (start_into xs (suc t) s) (bits_into xs (suc t) s) (into-length xs (suc t) s) (into-best xs (suc t) s h)
  where
    same : (a b c : ℕ) → a ≡ c + 32 * b → (d : ℕ) → a ≡ c + 32 * d → b ≡ d
    same a b c p d q = omega arith

    go : (a : ℕ) (bs : List Bool) → length bs ≡ suc t → BestInto xs (suc t) s a bs → v / 2 ^ s % 2 ≡ w / 2 ^ s % 2
    go a [] l b = absurd (omega arith)
    go a (x ∷ bs) l b = same (end_of a bs) (v / 2 ^ s % 2) (s / 2) (f.took s h a x bs b) (w / 2 ^ s % 2) (g.took s h a x bs b)

pub word_unique : {xs : List ℤ} {t v w : ℕ} → Choices xs t v → Choices xs t w → v ≡ w
word_unique {v = v} {w = w} f g = word_same 64 v w f.word_lt g.word_lt (bit_unique f g)

-- one metric, one list of words and one of bits
pub record SameLists (m : ℤ) (words bits : List ℕ) (m' : ℤ) (words' bits' : List ℕ) : Type 0 where
  pub metric_is : m ≡ m'
  pub words_are : words ≡ words'
  pub bits_are : bits ≡ bits'

module _ {ends : Ends} {xs : List ℤ} {n : ℕ} {words bits : List ℕ} {m m' : ℤ} {ws bs ws' bs' : List ℕ} (f : Accepted ends xs n words bits m ws bs) (g : Accepted ends xs n words bits m' ws' bs') where
  path_same : SamePath f.start f.path g.start g.path
  path_same = best_unique f.best g.best

  metric_unique : m ≡ m'
  metric_unique =
      f.metric_is
      ∙ (λ i. score_of xs (path_same.start_is i) (path_same.bits_are i) -ℤ subtracted_unique f.subtracted g.subtracted i)
      ∙ sym g.metric_is

  bits_unique : bs ≡ bs'
  bits_unique = f.bits_are ∙ ap (λ (p : List Bool). reverse (map bit_n p) ++ drop n bits) path_same.bits_are ∙ sym g.bits_are

  words_unique : ws ≡ ws'
  words_unique = ext_get_or 0 ws ws' (f.size ∙ sym g.size) (λ i h. each i (dec_lt i n))
    where
      each : (i : ℕ) → Dec (i < n) → get_or ws i 0 ≡ get_or ws' i 0
      each i (yes l) = word_unique (f.words_are i l) (g.words_are i l)
      each i (no l) =
          let k : ℕ = i - n in
          let e : n + k ≡ i = omega arith in
          subst (λ (j : ℕ). get_or ws j 0 ≡ get_or ws' j 0) e
          (sym (get_or-drop n ws k 0) ∙ ap (λ (l : List ℕ). get_or l k 0) (f.beyond ∙ sym g.beyond) ∙ get_or-drop n ws' k 0)

  pub accepted_unique : SameLists m ws bs m' ws' bs'
  accepted_unique = record { metric_is = metric_unique; words_are = words_unique; bits_are = bits_unique }

-- for every input the promise allows one result
pub decoded_unique : DecodedUnique
decoded_unique ends xs words bits r ws bs r' ws' bs' f g = go (decoder_refusal (steps xs) (length words) (length bits)) f.answer_is g.answer_is f.buffers_are g.buffers_are
  where
    go : (n : ℕ) → told r ≡ outcome n (record { metric = f.metric }) → told r' ≡ outcome n (record { metric = g.metric })
        → unless_refused n (Accepted ends xs (steps xs) words bits f.metric ws bs) (Untouched words bits ws bs) → unless_refused n (Accepted ends xs (steps xs) words bits g.metric ws' bs') (Untouched words bits ws' bs') → SameDecoding r ws bs r' ws' bs'
    go zero a a' x y =
        let same = accepted_unique x y in
        record { answer_is = told_one r r' (a ∙ ap (λ (m : ℤ). gives (record { metric = m })) same.metric_is ∙ sym a'); words_are = same.words_are; bits_are = same.bits_are }
    go (suc n) a a' x y = record { answer_is = told_one r r' (a ∙ sym a'); words_are = x.words_are ∙ sym y.words_are; bits_are = x.bits_are ∙ sym y.bits_are }
