use Rattle.std.proofs.Common.{◌∙◌, ap, get_or, [], ◌∷◌, Bool, true, false, take, drop, ◌++◌, to_z, of_z, ◌≡◌, ℕ, ◌<◌, ◌≤◌, ℤ, pos, length, List, refl, sym, subst, arith, w32}
use Rattle.std.proofs.Math.Seq.{length-take-le}
use Rattle.laws.proofs.Machine.{back}
use Rattle.spec_trellis.specs.Trellis.{Ends}
use mir.Val.{bool_byte}
use Rattle.refusal.specs.declared.Refusal.{Refusal}
use Rattle.refusal.specs.Outcome.{gives, refuses, numbered}
use Rattle.refusal.proofs.Laws.{refused_by, given_by, done_by, untouched_by}
use Rattle.fec_viterbi.specs.declared.Score.{Score}
use Rattle.fec_viterbi.specs.Decoders.{steps, decoder_refusal, Accepted, Untouched, Decoded}
use Rattle.fec_viterbi.specs.Code.{permitted}
use Rattle.fec_viterbi.proofs.Paths.{whole}
use Rattle.fec_viterbi.proofs.Refusals.{too_long, too_short, no_refusal}
use Rattle.fec_viterbi.proofs.decode.Goals as goal

-- a refusal by number k changes nothing
refused : {ends : Ends} {xs : List ℤ} {words bits : List ℕ} (k : ℕ) → 0 < k → decoder_refusal (steps xs) (length words) (length bits) ≡ k → Decoded ends xs words bits (refuses k) words bits
refused {ends} {xs} {words} {bits} k h e =
    let n = decoder_refusal (steps xs) (length words) (length bits) in
    record {
      metric = pos 0;
      answer_is = refused_by n (record { metric = pos 0 }) k (sym e) (λ z. omega arith);
      buffers_are = untouched_by (Accepted ends xs (steps xs) words bits (pos 0) words bits) (Untouched words bits words bits) n (λ z. omega arith) (record { words_are = refl; bits_are = refl });
    }

-- a call that no refusal holds for: the metric is given as it is
done : (ends : Ends) (xs : List ℤ) (words bits : List ℕ) (s : Score) {words' bits' : List ℕ} → decoder_refusal (steps xs) (length words) (length bits) ≡ 0 → Accepted ends xs (steps xs) words bits s.metric words' bits' → Decoded ends xs words bits (gives s) words' bits'
done ends xs words bits s {words'} {bits'} z a =
    let n = decoder_refusal (steps xs) (length words) (length bits) in
    record {
      metric = s.metric;
      answer_is = given_by n s s z refl;
      buffers_are = done_by (Accepted ends xs (steps xs) words bits s.metric words' bits') (Untouched words bits words' bits') n z a;
    }

long : {ends : Ends} {xs : List ℤ} {words bits : List ℕ} (k : ℕ) → 65536 < steps xs → k ≡ 11 → Decoded ends xs words bits (refuses k) words bits
long {ends} {xs} {words} {bits} k h e = subst (λ (n : ℕ). Decoded ends xs words bits (refuses n) words bits) (sym e) (refused 11 (omega arith) (too_long _ _ _ h))

-- one of two refusals that have one number, as an edit picks between two that have not
either : (x y d : Refusal) (k : ℕ) (b : Bool) (i : ℕ) → i ≡ bool_byte b → numbered x ≡ k → numbered y ≡ k → numbered (get_or (x ∷ y ∷ []) i d) ≡ k
either x y d k true i e p q = ap (λ (n : ℕ). numbered (get_or (x ∷ y ∷ []) n d)) e ∙ q
either x y d k false i e p q = ap (λ (n : ℕ). numbered (get_or (x ∷ y ∷ []) n d)) e ∙ p

pub returns-then-n-gt-MAX_STEPS : goal.returns-then-n-gt-MAX_STEPS
returns-then-n-gt-MAX_STEPS c = search (long, c.if-n-gt-MAX_STEPS.true, either)

pub returns-then-min-n : goal.returns-then-min-n
returns-then-min-n c = refused 8 (omega arith) (too_short _ _ _ c.if-n-gt-MAX_STEPS.false (omega arith))

pub returns : goal.returns
returns c =
    let a = c.args in
    let xs = a.soft.now in
    let words = a.words.now in
    let bits = a.bits.now in
    let n = steps xs in
    let p = c.best_path-metric in
    let w : n ≤ length words = omega arith in
    let b : n ≤ length bits = omega arith in
    let words' = p.new.words ++ drop n words in
    let bits' = p.new.bits ++ drop n bits in
    let e : to_z w32 (of_z w32 p.result) ≡ p.result = back w32 p.type_inv refl in
    done (permitted a.end) xs words bits _ (no_refusal n (length words) (length bits) c.if-n-gt-MAX_STEPS.false (omega arith))
    (subst (λ (m : ℤ). Accepted (permitted a.end) xs n words bits m words' bits') (sym e)
    (whole w b (subst (λ (k : ℕ). Accepted (permitted a.end) xs k (take n words) (take n bits) p.result p.new.words p.new.bits) (length-take-le n words w) p.ensures)))
