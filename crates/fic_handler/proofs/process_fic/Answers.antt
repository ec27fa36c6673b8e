-- Test by test, and then the blocks.
use Rattle.std.proofs.Common.{◌≡◌, refl, sym, ap, ap₂, ◌∙◌, subst, List, ◌++◌, ℕ, ◌+◌, ◌*◌, ◌/◌, ◌<◌, ◌≤◌, ℤ, length, length-append, arith, rules}
use Rattle.std.specs.Array.{IsFirstChunk}
use Rattle.refusal.specs.Outcome.{told, refuses}
use Rattle.fic_handler.specs.Blocks.{joined, blocks_in, fic_buffers}
use Rattle.fic_handler.specs.Promise.{process_refusal}
use Rattle.laws.specs.Lists.{list_from}
use Rattle.fec_quality.specs.Figures.{nothing}
use Rattle.fic_handler.proofs.Cut.{put_back, whole_call}
use Rattle.fic_handler.proofs.Run.{no_block, no_percent, four_same}
use Rattle.fic_handler.proofs.Refusals.{first-long, second-long, third-long, no_depunctured, no_words, no_bits, no_fibs, no_refusal, away, done}
use Rattle.fic_handler.proofs.process_fic.Goals as goal
use Rattle.fic_handler.proofs.process_fic.Goals.{then-first-gt-SYMBOL-via-then-first-gt-SYMBOL, then-first-gt-SYMBOL-via-else-first-gt-SYMBOL+then-second-gt-SYMBOL, then-first-gt-SYMBOL-via-else-first-gt-SYMBOL+else-second-gt-SYMBOL+then-third-gt-SYMBOL}

joined_length : (a b c : List ℤ) → length (joined a b c) ≡ length a + length b + length c
joined_length a b c = omega (arith, length-append a (b ++ c), length-append b c)

-- what holds of the blocks as the code counts them holds of those of the joined symbols
counted : (a b c : List ℤ) (P : ℕ → Type 0) → P ((length a + length b + length c) / 2304) → P (blocks_in (joined a b c))
counted a b c P h = subst (λ (m : ℕ). P (m / 2304)) (sym (joined_length a b c)) h

pub returns-then-first-gt-SYMBOL : goal.returns-then-first-gt-SYMBOL
returns-then-first-gt-SYMBOL c =
    let a = c.args in
    let l = fic_buffers a.depunctured.now a.words.now a.bits.now a.fibs.now in
    let long : process_refusal a.first.now a.second.now a.third.now l ≡ 11 =
    elim c.then-first-gt-SYMBOL.branch [
      | then-first-gt-SYMBOL-via-then-first-gt-SYMBOL w ↦ first-long a.first.now a.second.now a.third.now l w.if-first-gt-SYMBOL.true
      | then-first-gt-SYMBOL-via-else-first-gt-SYMBOL+then-second-gt-SYMBOL w ↦ second-long a.first.now a.second.now a.third.now l w.if-first-gt-SYMBOL.false w.if-second-gt-SYMBOL.true
      | then-first-gt-SYMBOL-via-else-first-gt-SYMBOL+else-second-gt-SYMBOL+then-third-gt-SYMBOL w ↦
          third-long a.first.now a.second.now a.third.now l w.if-first-gt-SYMBOL.false w.if-second-gt-SYMBOL.false w.if-third-gt-SYMBOL.true
    ] in
    away a.first.now a.second.now a.third.now l long refl refl

pub returns-in_err-depunctured : goal.returns-in_err-depunctured
returns-in_err-depunctured c =
    let a = c.args in
    let short : length a.depunctured.now < 3096 = search rules in
    let err : told c.from_residual.result ≡ refuses 8 = search rules in
    away _ _ _ _ (no_depunctured _ _ _ _ c.if-first-gt-SYMBOL.false c.if-second-gt-SYMBOL.false c.if-third-gt-SYMBOL.false short) err refl

pub returns-in_err-words : goal.returns-in_err-words
returns-in_err-words c =
    let a = c.args in
    let depunctured_front : IsFirstChunk a.depunctured.now c.in_ok-depunctured.depunctured.now 3096 = search rules in
    let short : length a.words.now < 774 = search rules in
    let err : told c.from_residual-in_err-words.result ≡ refuses 8 = search rules in
    away _ _ _ _ (no_words _ _ _ _ c.if-first-gt-SYMBOL.false c.if-second-gt-SYMBOL.false c.if-third-gt-SYMBOL.false depunctured_front.enough short) err
    (ap (λ (d : List ℤ). fic_buffers d a.words.now a.bits.now a.fibs.now) (put_back depunctured_front))

pub returns-in_err-bits : goal.returns-in_err-bits
returns-in_err-bits c =
    let a = c.args in
    let depunctured_front : IsFirstChunk a.depunctured.now c.in_ok-depunctured.depunctured.now 3096 = search rules in
    let words_front : IsFirstChunk a.words.now c.in_ok-words.words.now 774 = search rules in
    let short : length a.bits.now < 774 = search rules in
    let err : told c.from_residual-in_err-bits.result ≡ refuses 8 = search rules in
    away _ _ _ _ (no_bits _ _ _ _ c.if-first-gt-SYMBOL.false c.if-second-gt-SYMBOL.false c.if-third-gt-SYMBOL.false depunctured_front.enough words_front.enough short) err
    (ap₂ (λ (d : List ℤ) (w : List ℕ). fic_buffers d w a.bits.now a.fibs.now) (put_back depunctured_front) (put_back words_front))

pub returns-then-len-lt-BLOCK : goal.returns-then-len-lt-BLOCK
unfolding list_from
returns-then-len-lt-BLOCK c =
    let a = c.args in
    let depunctured_front : IsFirstChunk a.depunctured.now c.in_ok-depunctured.depunctured.now 3096 = search rules in
    let words_front : IsFirstChunk a.words.now c.in_ok-words.words.now 774 = search rules in
    let bits_front : IsFirstChunk a.bits.now c.in_ok-bits.bits.now 774 = search rules in
    let short : length (joined a.first.now a.second.now a.third.now) < 2304 = omega (arith, joined_length a.first.now a.second.now a.third.now) in
    let enough : 96 * blocks_in (joined a.first.now a.second.now a.third.now) ≤ length a.fibs.now = omega (arith, short) in
    let e = c.default.ensures in
    let absent = four_same nothing (λ y q. (λ i. record { metric = q.0 i; sum = q.1.0 i; percent = (q.1.1 ∙ no_percent) i })) e.1.1 in
    done _ _ _ _ (no_refusal _ _ _ _ c.if-first-gt-SYMBOL.false c.if-second-gt-SYMBOL.false c.if-third-gt-SYMBOL.false depunctured_front.enough words_front.enough bits_front.enough enough) refl
    (no_block short (λ i. fic_buffers (put_back depunctured_front i) (put_back words_front i) (put_back bits_front i) a.fibs.now) e.0 (four_same 0 (λ y q. q) e.1.0) absent)

pub returns-then-fibs-len : goal.returns-then-fibs-len
returns-then-fibs-len c =
    let a = c.args in
    let depunctured_front : IsFirstChunk a.depunctured.now c.in_ok-depunctured.depunctured.now 3096 = search rules in
    let words_front : IsFirstChunk a.words.now c.in_ok-words.words.now 774 = search rules in
    let bits_front : IsFirstChunk a.bits.now c.in_ok-bits.bits.now 774 = search rules in
    let short = counted a.first.now a.second.now a.third.now (λ (n : ℕ). length a.fibs.now < 96 * n) c.if-fibs-len.true in
    away _ _ _ _ (no_fibs _ _ _ _ c.if-first-gt-SYMBOL.false c.if-second-gt-SYMBOL.false c.if-third-gt-SYMBOL.false depunctured_front.enough words_front.enough bits_front.enough short) refl
    (λ i. fic_buffers (put_back depunctured_front i) (put_back words_front i) (put_back bits_front i) a.fibs.now)

pub returns : goal.returns
returns c =
    let a = c.args in
    let depunctured_front : IsFirstChunk a.depunctured.now c.in_ok-depunctured.depunctured.now 3096 = search rules in
    let words_front : IsFirstChunk a.words.now c.in_ok-words.words.now 774 = search rules in
    let bits_front : IsFirstChunk a.bits.now c.in_ok-bits.bits.now 774 = search rules in
    let enough = counted a.first.now a.second.now a.third.now (λ (n : ℕ). 96 * n ≤ length a.fibs.now) c.if-fibs-len.false in
    done _ _ _ _ (no_refusal _ _ _ _ c.if-first-gt-SYMBOL.false c.if-second-gt-SYMBOL.false c.if-third-gt-SYMBOL.false depunctured_front.enough words_front.enough bits_front.enough enough) refl
    (whole_call c.join.ensures depunctured_front.same words_front.same bits_front.same c.process_blocks.ensures)
