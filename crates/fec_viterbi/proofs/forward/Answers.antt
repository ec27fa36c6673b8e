use Rattle.std.proofs.Common.{◌≡◌, ℕ, ◌*◌, ◌+◌, ◌/◌, ◌<◌, ◌≤◌, ℤ, List, [], get_or, length, ap, ◌∙◌, subst, arith, nat_abs}
use Rattle.laws.specs.Integers.{at}
use Rattle.laws.specs.Words.{word_of}
use Rattle.laws.proofs.Slices.{filled}
use Rattle.spec_trellis.specs.Program.{takes_at, Soft, takes, acs}
use Rattle.spec_trellis.specs.Trellis.{branch, soft}
use Rattle.spec_trellis.proofs.TrellisPass.{running-zero, running_next, scores-within, choices-are, new_within}
use Rattle.spec_trellis.proofs.Trellis.{softs_next}
use Rattle.std.specs.Simd.{first_chunks}
use Rattle.fec_viterbi.specs.Code.{Within}
use Rattle.fec_viterbi.proofs.Steps.{branch-is, value_of_chunk}
use Rattle.fec_viterbi.proofs.forward.Goals as goal

-- the values of step k, as they are cut from the list
module _ (xs : List ℤ) (steps : List (List ℤ)) (k : ℕ) (front : steps ≡ first_chunks 4 (length xs / 4) xs) (h : 4 * k + 4 ≤ length xs) where
  value : (g : ℕ) → g < 4 → at (get_or steps k []) g ≡ soft xs k g
  value g l = ap (λ (s : List (List ℤ)). at (get_or s k []) g) front ∙ value_of_chunk xs (length xs / 4) k [] (omega arith) g l

  small : Within 4 128 (get_or steps k []) → Soft (soft xs k 0) (soft xs k 1) (soft xs k 2) (soft xs k 3)
  small w = record { b0 = each 0 (omega arith); b1 = each 1 (omega arith); b2 = each 2 (omega arith); b3 = each 3 (omega arith) }
    where
      each : (g : ℕ) → g < 4 → nat_abs (soft xs k g) ≤ 128
      each g l = subst (λ (z : ℤ). nat_abs z ≤ 128) (value g l) (w g l)

  adds : branch (get_or steps k []) 0 ≡ branch xs k
  adds = λ i s b. branch-is (get_or steps k []) xs k value s b i

pub loop-k-init : goal.loop-k-init
loop-k-init c =
    record { softs = λ i l. absurd (omega arith); running = running-zero c.args.soft.now (at c.start-scores.result) c.start-scores.ensures; words_are = λ j h. absurd (omega arith) }

pub step-requires : goal.step-requires
step-requires c =
    let l = c.loop-k in
    λ u h. omega (arith, scores-within c.args.soft.now l.k (at l.scores) l.invariant.running l.invariant.softs u h)

pub renormalised-scores-requires : goal.renormalised-scores-requires
renormalised-scores-requires c =
    let xs = c.args.soft.now in
    let steps = c.as_chunks.result.0.now in
    let l = c.loop-k in
    let e = adds xs steps l.k c.as_chunks.ensures.front (omega arith) in
    new_within xs l.k (at l.scores) l.invariant.running (at c.step.result) (λ t h. c.step.ensures.by_index t h ∙ ap (λ (β : ℕ → ℕ → ℤ). acs (at l.scores) β t) e)
    l.invariant.softs (softs_next xs l.k l.invariant.softs (small xs steps l.k c.as_chunks.ensures.front (omega arith) c.step.ensures.soft_small))

pub loop-k-preserved : goal.loop-k-preserved
loop-k-preserved c =
    let xs = c.args.soft.now in
    let steps = c.as_chunks.result.0.now in
    let l = c.loop-k in
    let k = l.k in
    let σ = at l.scores in
    let e = adds xs steps k c.as_chunks.ensures.front (omega arith) in
    let h : k < length l.words = omega arith in
    record {
      softs = softs_next xs k l.invariant.softs (small xs steps k c.as_chunks.ensures.front (omega arith) c.step.ensures.soft_small);
      running = running_next xs k σ l.invariant.running (at c.step.result) (λ t h. c.step.ensures.by_index t h ∙ ap (λ (β : ℕ → ℕ → ℤ). acs σ β t) e) (at c.renormalised-scores.result) c.renormalised-scores.ensures;
      words_are = filled 0 l.words k _ (λ (j : ℕ). word_of (takes_at xs j) 64) h l.invariant.words_are
          (c.step.ensures.choices_after ∙ ap (λ (β : ℕ → ℕ → ℤ). word_of (takes σ β) 64) e ∙ choices-are xs k σ l.invariant.running);
    }
