-- From a decoder's promise to the lists that it speaks of, and that these are one.
-- Assumes nothing.
use mathlib.Core.Path.{◌≡◌, refl, sym, ap, ◌∙◌, subst}
use mathlib.Core.Bool.{Bool}
use mathlib.Core.List.{List, [], ◌∷◌, ◌++◌, map, reverse}
use Prim.Native.Nat.{ℕ, ◌≤◌}
use native.Mathlib.Omega.{arith}
use lib.ListN.{length, take, drop, take-append-drop, length-map, length-reverse}
use lib.Seq.{ext_get_or, get_or-take, length-take-le}
use lib.IntN.{ℤ, ◌-ℤ◌}
use Rattle.laws.specs.Bits.{AreBits}
use Rattle.laws.proofs.Bits.{below-nil, below-cons, below-reverse}
use Rattle.laws.proofs.Words.{bit_lt}
use Rattle.spec_trellis.specs.Trellis.{bit_n, score_of, Ends}
use Rattle.spec_trellis.proofs.TrellisOrder.{best_unique}
use Rattle.spec_trellis.proofs.TrellisSubtracted.{subtracted_unique}
use Rattle.std.specs.Prelude.{Result, Ok}
use Rattle.refusal.specs.Outcome.{outcome, told}
use Rattle.refusal.specs.declared.Refusal.{Refusal}
use Rattle.refusal.proofs.Laws.{done_of}
use Rattle.refusal.proofs.Told.{told_one}
use Rattle.fec_viterbi.specs.declared.Score.{Score}
use Rattle.fec_viterbi.specs.Decoders.{steps, decoder_refusal, Accepted, Untouched, Decoded}
use Rattle.fec_viterbi.specs.Result.{Decodes, ChoiceWords}
use Rattle.fec_viterbi.proofs.Refusals.{no_refusal}
use Rattle.fec_viterbi.proofs.Unique.{word_unique}

-- what a decoder leaves: its bits and its words, each before the rest as it was
pub record Left (ends : Ends) (xs : List ℤ) (n : ℕ) (words bits : List ℕ) (metric : ℤ) (words' bits' : List ℕ) : Type 0 where
  pub decoded : List ℕ
  pub choices : List ℕ
  pub decodes : Decodes ends xs n decoded metric
  pub chosen : ChoiceWords xs n choices
  pub bits_are : bits' ≡ decoded ++ drop n bits
  pub words_are : words' ≡ choices ++ drop n words

pub left_of : {ends : Ends} {xs : List ℤ} {n : ℕ} {words bits : List ℕ} {m : ℤ} {words' bits' : List ℕ} → n ≤ length words → Accepted ends xs n words bits m words' bits' → Left ends xs n words bits m words' bits'
left_of {ends} {xs} {n} {words} {bits} {m} {words'} {bits'} h a =
    record {
      decoded = reverse (map bit_n a.path);
      choices = take n words';
      decodes = record { start = a.start; path = a.path; best = a.best; bits_are = refl; total = a.total; subtracted = a.subtracted; metric_is = a.metric_is };
      chosen = record { long = length-take-le n words' (omega (arith, a.size)); each = λ t l. rw (get_or-take n words' t 0 l) (a.words_are t l) };
      bits_are = a.bits_are;
      words_are = sym (take-append-drop n words') ∙ ap (λ (r : List ℕ). take n words' ++ r) a.beyond;
    }

-- with as many words and bits as steps, and not too many steps, a decoder is done
pub record Finished (ends : Ends) (xs : List ℤ) (words bits : List ℕ) (r : Result Score Refusal) (words' bits' : List ℕ) : Type 0 where
  pub metric : ℤ
  pub done_is : r ≡ Ok (record { metric = metric })
  pub left : Left ends xs (steps xs) words bits metric words' bits'

pub finished : {ends : Ends} {xs : List ℤ} {words bits : List ℕ} (r : Result Score Refusal) {words' bits' : List ℕ} → steps xs ≤ 65536 → steps xs ≤ length words → steps xs ≤ length bits → Decoded ends xs words bits (told r) words' bits' → Finished ends xs words bits r words' bits'
finished {ends} {xs} {words} {bits} r {words'} {bits'} few w b d =
    record {
      metric = d.metric;
      done_is = told_one r (Ok (record { metric = d.metric })) (d.answer_is ∙ ap (λ (n : ℕ). outcome n (record { metric = d.metric })) none_is);
      left = left_of w (done_of (Accepted ends xs (steps xs) words bits d.metric words' bits') (Untouched words bits words' bits') (decoder_refusal (steps xs) (length words) (length bits)) none_is d.buffers_are);
    }
  where
    none_is : decoder_refusal (steps xs) (length words) (length bits) ≡ 0
    none_is = no_refusal (steps xs) (length words) (length bits) few (omega arith)

-- decoding gives one list of bits, one metric and one list of words
pub bits-one : {ends : Ends} {xs : List ℤ} {n : ℕ} {bits bits' : List ℕ} {m m' : ℤ} → Decodes ends xs n bits m → Decodes ends xs n bits' m' → bits ≡ bits'
bits-one f g = f.bits_are ∙ ap (λ (p : List Bool). reverse (map bit_n p)) (best_unique f.best g.best).bits_are ∙ sym g.bits_are

pub metric-one : {ends : Ends} {xs : List ℤ} {n : ℕ} {bits bits' : List ℕ} {m m' : ℤ} → Decodes ends xs n bits m → Decodes ends xs n bits' m' → m ≡ m'
metric-one {xs = xs} f g =
    let s = best_unique f.best g.best in
    f.metric_is ∙ (λ i. score_of xs (s.start_is i) (s.bits_are i) -ℤ subtracted_unique f.subtracted g.subtracted i) ∙ sym g.metric_is

pub words-one : {xs : List ℤ} {n : ℕ} {words words' : List ℕ} → ChoiceWords xs n words → ChoiceWords xs n words' → words ≡ words'
words-one {words = words} {words'} f g = ext_get_or 0 words words' (f.long ∙ sym g.long) (λ i h. word_unique (f.each i (omega (arith, f.long))) (g.each i (omega (arith, f.long))))

-- as many bits as steps, each 0 or 1
pub decoded-length : {ends : Ends} {xs : List ℤ} {n : ℕ} {bits : List ℕ} {m : ℤ} → Decodes ends xs n bits m → length bits ≡ n
decoded-length f = ap length f.bits_are ∙ length-reverse (map bit_n f.path) ∙ length-map f.path bit_n ∙ f.best.long

pub decoded-bits : {ends : Ends} {xs : List ℤ} {n : ℕ} {bits : List ℕ} {m : ℤ} → Decodes ends xs n bits m → AreBits bits
decoded-bits f = subst AreBits (sym f.bits_are) (below-reverse (mapped f.path))
  where
    mapped : (bs : List Bool) → AreBits (map bit_n bs)
    mapped [] = below-nil
    mapped (b ∷ bs) = below-cons (bit_lt b) (mapped bs)
