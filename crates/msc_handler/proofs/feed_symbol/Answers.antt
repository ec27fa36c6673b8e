-- The promise turn by turn, and what an accepted symbol gives to the callees.
use Rattle.std.proofs.Common.{◌≡◌, ap, sym, ◌∙◌, ◌*◌, ℕ, ℤ, List, length, arith}
use Rattle.std.proofs.Math.Seq.{paste}
use Rattle.refusal.specs.Outcome.{Outcome, gives, outcome}
use Rattle.refusal.proofs.Laws.{given_number}
use Rattle.fec_protection.proofs.Profiles.{accepted-place}
use Rattle.msc_state.proofs.Refusals.{Accepted, accepted}
use Rattle.msc_state.specs.declared.Lengths.{Lengths}
use Rattle.msc_state.specs.declared.State.{State}
use Rattle.msc_state.specs.States.{feed_refusal}
use Rattle.msc_handler.specs.Memory.{buffers_in}
use Rattle.msc_handler.specs.Promises.{Buffers, lengths_of, refusal_in}
use Rattle.msc_handler.specs.Ring.{stored}
use Rattle.msc_handler.proofs.Feeding.{feed_refused, feed_gathers, feed_completes}
use Rattle.msc_handler.proofs.feed_symbol.Goals as goal

-- a symbol that is not refused, by the lengths that the buffers have
module _ (s : State) (soft : List ℤ) (b : Buffers) {l : Lengths} (e : l ≡ lengths_of b) (g : ◌≡◌ {A = Outcome (Unit {0})} (gives tt) (outcome (feed_refusal s (length soft) l) tt)) where
  none : refusal_in s soft b ≡ 0
  none = ap (feed_refusal s (length soft)) (sym e) ∙ given_number _ tt tt g

  taken : Accepted s (length soft) (lengths_of b)
  taken = accepted s (length soft) (lengths_of b) none

kept : (s : State) (soft cif : List ℤ) {k : ℕ} {cif' : List ℤ} → k ≡ s.symbols → cif' ≡ paste cif (3072 * k) soft 3072 → cif' ≡ stored cif s.symbols soft
unfolding stored
kept s soft cif e p = p ∙ ap (λ (j : ℕ). paste cif (3072 * j) soft 3072) e

pub returns-in-Err-clause-promise : goal.returns-in-Err-clause-promise
returns-in-Err-clause-promise c =
    let a = c.args in
    feed_refused a.state a.soft.now (buffers_in a.memory.now) c.in-Err.refusal (c.in-Err.ensures ∙ ap (λ (l : Lengths). outcome (feed_refusal a.state (length a.soft.now) l) tt) c.lengths.ensures)

pub store-requires : goal.store-requires
store-requires c =
    let a = c.args in
    let b = buffers_in a.memory.now in
    let k = taken a.state a.soft.now b c.lengths.ensures c.in_default.ensures in
    (k.symbol, omega (arith, k.state.symbols, k.lengths.cif_long))

pub returns-then-state-lt17-clause-promise : goal.returns-then-state-lt17-clause-promise
returns-then-state-lt17-clause-promise c =
    let a = c.args in
    let b = buffers_in a.memory.now in
    feed_gathers a.state a.soft.now b (none a.state a.soft.now b c.lengths.ensures c.in_default.ensures) c.after_symbol-after.ensures (kept a.state a.soft.now b.cif c.from.ensures c.store.ensures) c.if-state-lt17.true

pub process_cif-answer-requires : goal.process_cif-answer-requires
process_cif-answer-requires c =
    let a = c.args in
    let b = buffers_in a.memory.now in
    let k = taken a.state a.soft.now b c.lengths.ensures c.in_default.ensures in
    record {
      ring =
          record {
            index = omega (arith, k.state.index);
            inside = accepted-place _ k.state.description;
            cif_long = omega (arith, k.lengths.cif_long, c.store.auto.cif);
            ring_long = k.lengths.ring_long;
            read_long = k.lengths.read_long;
          };
      frame =
          record {
            none = k.state.description;
            read_long = k.lengths.read_long;
            soft_long = k.lengths.soft_long;
            words_long = k.lengths.words_long;
            bits_long = k.lengths.bits_long;
            frame_long = k.lengths.frame_long;
          };
    }

pub returns-clause-promise : goal.returns-clause-promise
returns-clause-promise c =
    let a = c.args in
    let b = buffers_in a.memory.now in
    feed_completes a.state a.soft.now b (none a.state a.soft.now b c.lengths.ensures c.in_default.ensures) c.after_symbol-after.ensures (kept a.state a.soft.now b.cif c.from.ensures c.store.ensures) c.if-state-lt17.false c.process_cif-answer.ensures.promise
