-- The decoder is done, and the first 768 of its bits are dispersed.
use Rattle.std.proofs.Common.{◌≡◌, refl, sym, ap, ap₂, ◌∙◌, subst, List, ◌++◌, append_assoc, ℕ, ◌/◌, ◌≤◌, ℤ, Result, Ok, length, take, drop, to_z, of_z, w32, arith, rules}
use Rattle.std.specs.Result.{IsOk}
use lib.Seq.{take-append-le, drop-append-le}
use Rattle.refusal.specs.declared.Refusal.{Refusal}
use Rattle.refusal.specs.Outcome.{told}
use Rattle.spec_en300401.specs.Dispersal.{disperse}
use Rattle.spec_trellis.specs.Trellis.{zero_end}
use Rattle.fec_quality.specs.declared.Quality.{Quality}
use Rattle.fec_quality.specs.Figures.{quality_of, measured}
use Rattle.fec_quality.proofs.Answers.{is-measured}
use Rattle.fec_viterbi.specs.declared.Score.{Score}
use Rattle.fec_viterbi.specs.Decoders.{Decoded}
use Rattle.fec_viterbi.specs.Result.{Decodes, ChoiceWords}
use Rattle.fec_viterbi.proofs.Result.{Finished, finished, decoded-length}
use Rattle.fic_handler.specs.Blocks.{data_bits}
use Rattle.fic_handler.specs.Code.{BlockDecoded}
use Rattle.fic_handler.proofs.decode_block.Goals as goal

-- what the decoder and the dispersal leave, put together
joined_up : (xs : List ℤ) (words bits words' mid new : List ℕ) {r : Result Score Refusal} {s : Score} {q : Quality} → length xs ≡ 3096 → 774 ≤ length words → 774 ≤ length bits
    → Decoded zero_end xs words bits (told r) words' mid → r ≡ Ok s → new ≡ disperse (take 768 mid) → q ≡ quality_of s.metric xs → BlockDecoded xs words bits q words' (new ++ drop 768 mid)
unfolding data_bits
joined_up xs words bits words' mid new {r} {s} {q} e hw hb d is n k = go (finished r (omega arith) (omega arith) (omega arith) d)
  where
    steps_are : length xs / 4 ≡ 774
    steps_are = omega arith

    go : Finished zero_end xs words bits r words' mid → BlockDecoded xs words bits q words' (new ++ drop 768 mid)
    go f =
        let l = f.left in
        let long : length l.decoded ≡ 774 = decoded-length l.decodes ∙ steps_are in
        let metric_is : s.metric ≡ f.metric = cc (is, f.done_is) in
        record {
          block = record { decoded = l.decoded; choices = l.choices; metric = f.metric };
          decodes = subst (λ (m : ℕ). Decodes zero_end xs m l.decoded f.metric) steps_are l.decodes;
          chosen = subst (λ (m : ℕ). ChoiceWords xs m l.choices) steps_are l.chosen;
          quality_is = k ∙ ap (λ (m : ℤ). quality_of m xs) metric_is;
          words_are = l.words_are ∙ ap (λ (m : ℕ). l.choices ++ drop m words) steps_are;
          bits_are =
              ap₂ (λ (a b : List ℕ). a ++ b)
              (n ∙ ap disperse (ap (take 768) l.bits_are ∙ take-append-le 768 l.decoded (drop (length xs / 4) bits) (omega arith)))
              (ap (drop 768) l.bits_are ∙ drop-append-le 768 l.decoded (drop (length xs / 4) bits) (omega arith) ∙ ap (λ (m : ℕ). drop 768 l.decoded ++ drop m bits) steps_are)
              ∙ sym (append_assoc (disperse (take 768 l.decoded)) (drop 768 l.decoded) (drop 774 bits));
        }

-- 774 steps are not too many for a measurement
figures : {r : Result Quality Refusal} {q : Quality} (m m' : ℤ) (xs : List ℤ) → length xs ≡ 3096 → m' ≡ m → told r ≡ measured m' xs → r ≡ Ok q → q ≡ quality_of m xs
figures {r} {q} m m' xs e same h is =
    let found = is-measured r m' xs (omega arith) h in
    let it : q ≡ quality_of m' xs = cc (found, is) in
    it ∙ ap (λ (k : ℤ). quality_of k xs) same

pub unwrap-score-requires : goal.unwrap-score-requires
unwrap-score-requires c = subst IsOk (sym (finished c.viterbi_decode_state0.result (omega arith) (omega arith) (omega arith) c.viterbi_decode_state0.ensures).done_is) refl

pub unwrap-requires : goal.unwrap-requires
unwrap-requires c = subst IsOk (sym (is-measured c.measure.result _ c.args.depunctured.now (omega arith) c.measure.ensures)) refl

pub returns : goal.returns
returns c =
    let a = c.args in
    let call = c.viterbi_decode_state0 in
    let dispersed = c.energy_dispersal in
    let same : to_z w32 (of_z w32 c.unwrap-score.result.metric) ≡ c.unwrap-score.result.metric = search rules in
    joined_up a.depunctured.now a.words.now a.bits.now call.new.words call.new.bits dispersed.new.bits c.told-depunctured (omega arith) (omega arith) call.ensures c.unwrap-score.ensures dispersed.ensures
    (figures c.unwrap-score.result.metric _ a.depunctured.now c.told-depunctured same c.measure.ensures c.unwrap.ensures)
