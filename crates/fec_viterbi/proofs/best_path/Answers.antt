use Rattle.std.proofs.Common.{◌≡◌, ℕ, ℤ, length, refl, sym, ap, ◌∙◌, subst, arith, to_z, of_z, to_z-of_z, w32}
use Rattle.laws.specs.Integers.{at}
use Rattle.laws.proofs.Integers.{abs_fits}
use Rattle.spec_trellis.specs.Program.{traced}
use Rattle.spec_trellis.proofs.TrellisPass.{scores-within}
use Rattle.fec_viterbi.specs.Code.{permitted}
use Rattle.fec_viterbi.specs.Decoders.{Accepted}
use Rattle.fec_viterbi.proofs.Paths.{accepted}
use Rattle.fec_viterbi.proofs.best_path.Goals as goal

pub returns : goal.returns
returns c =
    let a = c.args in
    let xs = a.soft.now in
    let words = a.words.now in
    let bits = a.bits.now in
    let words' = c.forward-scores.new.words in
    let bits' = c.trace_back.new.bits in
    let n = length words in
    let σ = at c.forward-scores.result in
    let e = c.state-state.result in
    let f = c.forward-scores.ensures in
    let k = c.state-state.ensures in
    let q : to_z w32 (of_z w32 (σ e)) ≡ σ e = to_z-of_z (abs_fits w32 (σ e) (omega (arith, scores-within xs n σ f.running f.softs e k.below))) in
    let long : length words' ≡ n = c.forward-scores.auto.words in
    subst (λ (m : ℤ). Accepted (permitted a.end) xs n words bits m words' bits') (sym q)
    (accepted a.end xs n words bits words' bits' σ e refl c.requires.1 long f k.below k.chosen (c.trace_back.ensures ∙ ap (λ (m : ℕ). traced words' m e) long))
