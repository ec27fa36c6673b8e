-- What a decoder must answer to no step and to one step, by one computed test over the 64 survivors.
-- Assumes nothing.
use mathlib.Core.Path.{◌≡◌, refl, sym, ap, ◌∙◌, subst}
use mathlib.Core.Bool.{Bool}
use mathlib.Core.List.{List, ◌++◌, map, reverse}
use mathlib.Core.Logic.{⊎_elim}
use Prim.Native.Nat.{ℕ, ◌<◌}
use native.Mathlib.Omega.{arith}
use lib.Dec.{T}
use lib.ListN.{drop}
use lib.IntN.{ℤ, pos, ◌-ℤ◌}
use lib.Signed.{le_z, ◌≤ℤ◌, ≤ℤ_refl}
use Rattle.laws.specs.Lists.{list_of}
use Rattle.laws.specs.Tables.{every}
use Rattle.laws.proofs.Integers.{parts_le, lt_parts}
use Rattle.spec_trellis.specs.Trellis.{bit_n, score_of, Wins, Ends, zero_end, free_end, Permits, Best, Top, Subtracted, none, kept}
use Rattle.spec_trellis.specs.Program.{survivor, start_into, bits_into}
use Rattle.spec_trellis.proofs.TrellisOrder.{best_unique}
use Rattle.spec_trellis.proofs.TrellisProgram.{into_score, zero-best}
use Rattle.spec_trellis.proofs.TrellisShort.{under, free_best_by_test}
use Rattle.std.specs.Prelude.{Ok}
use Rattle.fec_viterbi.specs.Decoders.{steps}
use Rattle.fec_viterbi.specs.Result.{Decodes}
use Rattle.fec_viterbi.proofs.Result.{finished, bits-one, metric-one}
use Rattle.thm_cases.specs.Table.{Answers, AnswersFrom, CasesAnswered}

-- e is the lowest of the states whose survivors score most after n steps
abbrev pub Highest : List ℤ → ℕ → ℕ → Type 0
Highest xs n e = T (every (under (survivor xs n e) e) 0 (list_of 64 (survivor xs n)))

-- the best of all paths has the best score
best_top : {xs : List ℤ} {n s : ℕ} {bs : List Bool} → Best xs n free_end s bs → Top xs n (score_of xs s bs)
unfolding Wins Permits
best_top {xs} {n} {s} {bs} b = record { start = s; path = bs; start_lt = b.start_lt; long = b.long; scores = refl; most = λ s' h bs' l. most s' bs' (b.wins s' h bs' l tt) }
  where
    most : (s' : ℕ) (bs' : List Bool) → Wins xs s bs s' bs' → score_of xs s' bs' ≤ℤ score_of xs s bs
    most s' bs' w = ⊎_elim (λ l. parts_le (score_of xs s' bs') (score_of xs s bs) (omega (arith, lt_parts l))) (λ e. subst (λ (z : ℤ). z ≤ℤ score_of xs s bs) (sym e.0) (≤ℤ_refl (score_of xs s bs))) w

-- nothing is subtracted in one step
pub one_step : (xs : List ℤ) (e : ℕ) → e < 64 → Highest xs 1 e → T (le_z (survivor xs 1 e -ℤ pos 0) (pos 100000)) → Subtracted xs 1 (pos 0)
one_step xs e h t l = kept (survivor xs 1 e) none (subst (Top xs 1) (into_score xs 1 e h) (best_top (free_best_by_test xs 1 e h t))) (record { le = l })

-- the answer, from a best path into state e
answer : {ends : Ends} {xs : List ℤ} (e : ℕ) → e < 64 → Best xs (steps xs) ends (start_into xs (steps xs) e) (bits_into xs (steps xs) e) → Subtracted xs (steps xs) (pos 0) → (bits : List ℕ) → bits ≡ reverse (map bit_n (bits_into xs (steps xs) e)) → (m : ℤ) → m ≡ survivor xs (steps xs) e -ℤ pos 0 → Answers ends xs bits m
answer {ends} {xs} e h b s bits p m q = record { gives = gives; only = λ f. (bits-one f gives, metric-one f gives) }
  where
    gives : Decodes ends xs (steps xs) bits m
    gives =
        record {
          start = start_into xs (steps xs) e;
          path = bits_into xs (steps xs) e;
          best = b;
          bits_are = p;
          total = pos 0;
          subtracted = s;
          metric_is = q ∙ ap (λ (z : ℤ). z -ℤ pos 0) (sym (into_score xs (steps xs) e h));
        }

pub zero-answer : (xs : List ℤ) → Subtracted xs (steps xs) (pos 0) → (bits : List ℕ) → bits ≡ reverse (map bit_n (bits_into xs (steps xs) 0)) → (m : ℤ) → m ≡ survivor xs (steps xs) 0 -ℤ pos 0 → Answers zero_end xs bits m
zero-answer xs s = answer 0 (omega arith) (zero-best xs (steps xs) 0 (omega arith) refl) s

pub free_answer : (xs : List ℤ) (e : ℕ) → e < 64 → Highest xs (steps xs) e → Subtracted xs (steps xs) (pos 0) → (bits : List ℕ) → bits ≡ reverse (map bit_n (bits_into xs (steps xs) e)) → (m : ℤ) → m ≡ survivor xs (steps xs) e -ℤ pos 0 → Answers free_end xs bits m
free_answer xs e h t s = answer e h (free_best_by_test xs (steps xs) e h t) s

-- and the state that the path into state 0 starts in
pub zero_answer_from : (xs : List ℤ) → Subtracted xs (steps xs) (pos 0) → (bits : List ℕ) → bits ≡ reverse (map bit_n (bits_into xs (steps xs) 0)) → (m : ℤ) → m ≡ survivor xs (steps xs) 0 -ℤ pos 0 → (start : ℕ) → start_into xs (steps xs) 0 ≡ start → AnswersFrom zero_end xs bits m start
zero_answer_from xs s bits p m q start r =
    record { answers = zero-answer xs s bits p m q; from = λ f. (best_unique f.best (zero-best xs (steps xs) 0 (omega arith) refl)).start_is ∙ r }

pub answered : CasesAnswered
answered ends xs bits m a few words out r words' out' w l d =
    let f = finished r few w l d in
    let o = a.only f.left.decodes in
    (f.done_is ∙ ap (λ (z : ℤ). Ok (record { metric = z })) o.1, f.left.bits_are ∙ ap (λ (b : List ℕ). b ++ drop (steps xs) out) o.0)
