-- From the forward pass and the trace back to the best path; and from the parts of the words and the bits that they were given to the whole.
-- Assumes nothing.
use mathlib.Core.Path.{◌≡◌, sym, ap, ◌∙◌, subst}
use mathlib.Core.List.{List, [], ◌++◌, map, reverse, append-nil}
use Prim.Native.Nat.{ℕ, ◌+◌, ◌^◌, ◌<◌, ◌≤◌}
use native.Mathlib.Omega.{arith}
use lib.ListN.{length, get_or, take, drop, drop_of_length-le, get_or-append}
use lib.Seq.{length-take-le, length_front, drop_at}
use lib.IntN.{ℤ, ◌-ℤ◌}
use Rattle.laws.specs.Integers.{up, dn}
use Rattle.laws.specs.Words.{word_of}
use Rattle.laws.proofs.Integers.{diff, parts_le, le_parts, parts_lt, lt_parts}
use Rattle.laws.proofs.Words.{word_lt}
use Rattle.spec_trellis.specs.Trellis.{Ends, Best, bit_n}
use Rattle.spec_trellis.specs.Program.{survivor, takes_at, start_into, bits_into, Running, Forward, traced}
use Rattle.spec_trellis.proofs.TrellisProgram.{into_score, zero-best, free_best}
use Rattle.spec_trellis.proofs.TrellisTrace.{traced-is, took}
use Rattle.fec_viterbi.specs.declared.End.{End}
use Rattle.fec_viterbi.specs.declared.End.TheVariants.{Zero, Free}
use Rattle.fec_viterbi.specs.Code.{permitted, Chosen}
use Rattle.fec_viterbi.specs.Decoders.{Choices, Accepted}

module _ (xs : List ℤ) (n : ℕ) (σ : ℕ → ℤ) (r : Running xs n σ) (e : ℕ) (he : e < 64) where
  parts : (u : ℕ) → u < 64 → up (σ u) + (dn (survivor xs n u) + up r.total) ≡ (up (survivor xs n u) + dn r.total) + dn (σ u)
  parts u h = let q = r.each u h in omega (arith, diff (survivor xs n u) r.total, ap up q, ap dn q)

  -- the end that the running scores choose is the end of the best permitted path
  best-at : (end : End) → Chosen end σ e → Best xs n (permitted end) (start_into xs n e) (bits_into xs n e)
  best-at Free c =
      free_best xs n e he
      (λ u h. parts_le (survivor xs n u) (survivor xs n e) (omega (arith, parts u h, parts e he, le_parts (c.above u h))))
      (λ u l. parts_lt (survivor xs n u) (survivor xs n e) (omega (arith, parts u (omega arith), parts e he, lt_parts (c.first u l))))
  best-at Zero c = zero-best xs n e he c

drop_all : (l : List ℕ) (n : ℕ) → length l ≡ n → drop n l ≡ []
drop_all l n h = drop_of_length-le l {i = n} (omega arith)

choices : {xs : List ℤ} (words : List ℕ) (t : ℕ) → get_or words t 0 ≡ word_of (takes_at xs t) 64 → Choices xs t (get_or words t 0)
choices {xs} words t w =
    record {
      word_lt = subst (λ (k : ℕ). k < 2 ^ 64) (sym w) (word_lt (takes_at xs t) 64);
      took = λ s h a b bs f. took words h w f;
    }

pub accepted : (end : End) (xs : List ℤ) (n : ℕ) (words bits words' bits' : List ℕ) (σ : ℕ → ℤ) (e : ℕ) → length words ≡ n → length bits ≡ n → length words' ≡ length words → Forward xs n σ words' → e < 64 → Chosen end σ e → bits' ≡ traced words' n e → Accepted (permitted end) xs n words bits (σ e) words' bits'
accepted end xs n words bits words' bits' σ e lw lb lw' f he c t =
    record {
      start = start_into xs n e;
      path = bits_into xs n e;
      best = best-at xs n σ f.running e he end c;
      bits_are = t ∙ traced-is xs words' n e he f.words_are ∙ sym (ap (λ (l : List ℕ). path ++ l) (drop_all bits n lb) ∙ append-nil path);
      total = f.running.total;
      subtracted = f.running.subtracted;
      metric_is = f.running.each e he ∙ ap (λ (z : ℤ). z -ℤ f.running.total) (sym (into_score xs n e he));
      size = lw';
      words_are = λ t h. choices words' t (f.words_are t h);
      beyond = drop_all words' n (lw' ∙ lw) ∙ sym (drop_all words n lw);
    }
  where
    path : List ℕ
    path = reverse (map bit_n (bits_into xs n e))

-- the words and the bits beyond the steps stay as they were
pub whole : {ends : Ends} {xs : List ℤ} {n : ℕ} {words bits : List ℕ} {m : ℤ} {words' bits' : List ℕ} → n ≤ length words → n ≤ length bits → Accepted ends xs n (take n words) (take n bits) m words' bits' → Accepted ends xs n words bits m (words' ++ drop n words) (bits' ++ drop n bits)
whole {ends} {xs} {n} {words} {bits} {m} {words'} {bits'} hw hb a =
    record {
      start = a.start;
      path = a.path;
      best = a.best;
      bits_are = ap (λ (l : List ℕ). l ++ drop n bits) (a.bits_are ∙ ap (λ (l : List ℕ). path ++ l) (drop_all (take n bits) n (length-take-le n bits hb)) ∙ append-nil path);
      total = a.total;
      subtracted = a.subtracted;
      metric_is = a.metric_is;
      size = length_front words words' n a.size;
      words_are = λ t h. subst (Choices xs t) (sym (get_or-append words' (drop n words) 0 t (omega (arith, long)))) (a.words_are t h);
      beyond = drop_at words' (drop n words) n long;
    }
  where
    path : List ℕ
    path = reverse (map bit_n a.path)

    long : length words' ≡ n
    long = a.size ∙ length-take-le n words hw
