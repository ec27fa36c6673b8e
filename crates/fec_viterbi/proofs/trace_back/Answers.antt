use Rattle.std.proofs.Common.{drop, ◌≡◌, ℕ, suc, ◌-◌, length, List, ◌++◌, sym, ap, ◌∙◌, subst, arith}
use Rattle.std.proofs.Math.ListN.{length-set}
use Rattle.spec_trellis.specs.Program.{traced, came_from}
use Rattle.spec_trellis.proofs.TrellisTrace.{traced-zero, turn}
use Rattle.fec_viterbi.proofs.trace_back.Goals as goal

pub loop-k-preserved : goal.loop-k-preserved
unfolding came_from
loop-k-preserved c =
    let words = c.args.words.now in
    let bits = c.loop-k.bits in
    let k = c.loop-k.k in
    let state = c.loop-k.state in
    let all = traced words (length words) c.args.end in
    let e : k ≡ suc (k - 1) = omega arith in
    record {
      size = length-set bits (k - 1) _ ∙ c.loop-k.invariant.size;
      state = omega arith;
      rest = turn words bits all (k - 1) state (omega arith) (subst (λ (m : ℕ). all ≡ traced words m state ++ drop m bits) e c.loop-k.invariant.rest);
    }

pub returns : goal.returns
returns c =
    let words = c.args.words.now in
    let e : c.loop-k.k ≡ 0 = omega arith in
    sym (subst (λ (m : ℕ). traced words (length words) c.args.end ≡ traced words m c.loop-k.state ++ drop m c.loop-k.bits) e c.loop-k.invariant.rest ∙ ap (λ (x : List ℕ). x ++ c.loop-k.bits) (traced-zero words c.loop-k.state))
