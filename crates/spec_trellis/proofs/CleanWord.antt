-- A clean word decodes to itself: where every kept value agrees with its bit of a message's code word, the message's path is the best, at either end.
-- Assumes nothing.
use mathlib.Core.Path.{◌≡◌, refl, sym, ap, ap₂, ◌∙◌, subst}
use mathlib.Core.Bool.{Bool, true, false, true≢false, false≢true}
use mathlib.Core.List.{List, [], ◌∷◌, ◌++◌, map, reverse}
use mathlib.Core.Logic.{inl, inr}
use Prim.Native.Nat.{ℕ, zero, suc, ◌+◌, ◌*◌, ◌<◌}
use native.Mathlib.Omega.{arith}
use native.Mathlib.Nat.{add-zero, not-suc-le-zero}
use lib.ListN.{length, get_or}
use lib.IntN.{ℤ, pos}
use Rattle.laws.specs.Bits.{AreBits}
use Rattle.laws.specs.Integers.{at}
use Rattle.laws.proofs.Words.{bit_lt}
use Rattle.spec_trellis.specs.Clean.{Agrees, six_zeros, sent_path, CleanWord}
use Rattle.spec_trellis.specs.Theorems.{CleanIsDecoded}
use Rattle.spec_en300401.specs.MotherCode.{code_bit, code_word}
use Rattle.spec_en300401.specs.Puncturing.{Region, mask, puncture, depuncture}
use Rattle.spec_trellis.specs.Trellis.{bit_n, soft, score_of, Ends, Best, SamePath}
use Rattle.spec_trellis.proofs.TrellisOrder.{best_unique}
use Rattle.spec_trellis.proofs.MotherCode.{Spells, nothing, next, output_is, length-sent, sent-permitted, sent-bits, sent_spells}
use Rattle.spec_trellis.proofs.Clean.{Fair, agrees_not_zero, Clean, none, step, weights, clean_score, clean_best}
use Rattle.spec_en300401.proofs.MotherCode.{word_at, length_word}
use Rattle.spec_en300401.proofs.Puncturing.{firsts-mask, first-kept}

-- ---- the values

-- where nothing was sent depuncturing puts 0
pub erased : (ks : List Bool) (vs : List ℤ) (j : ℕ) → get_or ks j false ≡ false → at (depuncture ks vs) j ≡ pos 0
unfolding depuncture
erased [] vs j e = refl
erased (true ∷ ks) [] zero e = refl
erased (true ∷ ks) (v ∷ vs) zero e = absurd (true≢false e)
erased (false ∷ ks) vs zero e = refl
erased (true ∷ ks) [] (suc j) e = erased ks [] j e
erased (true ∷ ks) (v ∷ vs) (suc j) e = erased ks vs j e
erased (false ∷ ks) vs (suc j) e = erased ks vs j e

-- n steps' values against the message a: each is 0 or agrees with its bit, and the first of each four agrees
pub record Heard (xs : List ℤ) (a : ℕ → ℕ) (n : ℕ) : Type 0 where
  pub each : (k g : ℕ) → k < n → g < 4 → Fair (soft xs k g) (code_bit a g k)
  pub first : (k : ℕ) → k < n → Agrees (soft xs k 0) (code_bit a 0 k)

-- they speak for each step of a path that spells the message
pub heard_clean : {xs : List ℤ} {a : ℕ → ℕ} {bs : List Bool} → Heard xs a (length bs) → Spells a bs → Clean xs bs
heard_clean h nothing = none
heard_clean {xs} {a} h (next {b} {bs} e p) =
    step
    (record {
      each = λ g l. subst (Fair (soft xs (length bs) g)) (sym (output_is p (bit_n b) e (bit_lt b) g l)) (h.each (length bs) g (omega arith) l);
      place = 0;
      place_lt = omega arith;
      heard = subst (Agrees (soft xs (length bs) 0)) (sym (output_is p (bit_n b) e (bit_lt b) 0 (omega arith))) (h.first (length bs) (omega arith));
    })
    (heard_clean (record { each = λ k g l. h.each k g (omega arith); first = λ k l. h.first k (omega arith) }) p)

-- ---- a clean word

module _ {m : List ℕ} {ks : List Bool} {vs : List ℤ} (c : CleanWord m ks vs) where
  word_heard : Heard (depuncture ks vs) (λ (i : ℕ). get_or m i 0) (length m + 6)
  word_heard =
      record {
        each = λ k g h l. go k g h l (get_or ks (4 * k + g) false) refl;
        first = λ k h. kept k 0 h (omega arith) (ap (λ (j : ℕ). get_or ks j false) (add-zero (4 * k)) ∙ c.firsts k h);
      }
    where
      kept : (k g : ℕ) → k < length m + 6 → g < 4 → get_or ks (4 * k + g) false ≡ true → Agrees (soft (depuncture ks vs) k g) (code_bit (λ (i : ℕ). get_or m i 0) g k)
      kept k g h l e = subst (Agrees (soft (depuncture ks vs) k g)) (word_at m k g h l) (c.agree (4 * k + g) (omega (arith, c.long)) e)

      go : (k g : ℕ) → k < length m + 6 → g < 4 → (t : Bool) → get_or ks (4 * k + g) false ≡ t → Fair (soft (depuncture ks vs) k g) (code_bit (λ (i : ℕ). get_or m i 0) g k)
      go k g h l true e = inr (kept k g h l e)
      go k g h l false e = inl (erased ks vs (4 * k + g) e)

  pub word_clean : Clean (depuncture ks vs) (sent_path m)
  word_clean = heard_clean (subst (Heard (depuncture ks vs) (λ (i : ℕ). get_or m i 0)) (sym (length-sent m)) word_heard) (sent_spells m c.bits)

  -- the message's path is the best, at either end
  pub clean_word : (ends : Ends) → Best (depuncture ks vs) (length m + 6) ends 0 (sent_path m)
  clean_word ends = clean_best word_clean (length-sent m) ends (sent-permitted m ends)

  -- so whatever path is best, it is that one
  pub clean_path : {ends : Ends} {s : ℕ} {bs : List Bool} → Best (depuncture ks vs) (length m + 6) ends s bs → SamePath 0 (sent_path m) s bs
  clean_path {ends} b = best_unique (clean_word ends) b

  -- and its bits are the message's and six zeros
  pub clean_bits : {ends : Ends} {s : ℕ} {bs : List Bool} → Best (depuncture ks vs) (length m + 6) ends s bs → reverse (map bit_n bs) ≡ m ++ six_zeros
  clean_bits b = ap (λ (l : List Bool). reverse (map bit_n l)) (sym (clean_path b).bits_are) ∙ sent-bits m c.bits

  -- and its score is the sum of all sizes
  pub clean_word_score : {ends : Ends} {s : ℕ} {bs : List Bool} → Best (depuncture ks vs) (length m + 6) ends s bs → score_of (depuncture ks vs) s bs ≡ pos (weights (depuncture ks vs) (length m + 6))
  clean_word_score b =
      sym (ap₂ (score_of (depuncture ks vs)) (clean_path b).start_is (clean_path b).bits_are)
      ∙ clean_score word_clean ∙ ap (λ (n : ℕ). pos (weights (depuncture ks vs) n)) (length-sent m)

pub clean_decodes : CleanIsDecoded
clean_decodes m ks vs ends s bs c b = clean_bits c b

-- ---- from what was sent

-- values that agree with the kept bits one after the other agree, once depunctured, with each kept bit at its place
pub kept-agree : (ks : List Bool) (word : List ℕ) (vs : List ℤ) → length word ≡ length ks → ((i : ℕ) → i < length (puncture ks word) → Agrees (at vs i) (get_or (puncture ks word) i 0)) → (j : ℕ) → j < length ks → get_or ks j false ≡ true → Agrees (at (depuncture ks vs) j) (get_or word j 0)
unfolding puncture depuncture
kept-agree [] word vs e f j l k = absurd (not-suc-le-zero l)
kept-agree (t ∷ ks) [] vs e f j l k = absurd (omega arith)
kept-agree (true ∷ ks) (x ∷ word) [] e f j l k = absurd (agrees_not_zero x (f 0 (omega arith)))
kept-agree (true ∷ ks) (x ∷ word) (v ∷ vs) e f zero l k = f 0 (omega arith)
kept-agree (true ∷ ks) (x ∷ word) (v ∷ vs) e f (suc j) l k = kept-agree ks word vs (omega arith) (λ i h. f (suc i) (omega arith)) j (omega arith) k
kept-agree (false ∷ ks) (x ∷ word) vs e f zero l k = absurd (false≢true k)
kept-agree (false ∷ ks) (x ∷ word) vs e f (suc j) l k = kept-agree ks word vs (omega arith) f j (omega arith) k

-- a message sent under a profile's mask, and values that agree with what was sent, one after the other; surplus may follow
pub sent_clean : {m : List ℕ} (rs : List Region) {vs : List ℤ} → AreBits m → length (mask rs) ≡ 4 * (length m + 6) → ((i : ℕ) → i < length (puncture (mask rs) (code_word m)) → Agrees (at vs i) (get_or (puncture (mask rs) (code_word m)) i 0)) → CleanWord m (mask rs) vs
sent_clean {m} rs {vs} h l f =
    record {
      bits = h;
      long = l;
      firsts = λ k g. first-kept (firsts-mask rs) k (omega arith);
      agree = kept-agree (mask rs) (code_word m) vs (length_word m ∙ sym l) f;
    }
