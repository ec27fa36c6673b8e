-- Sender and receiver meet again after any loss, as a caller of the library sees it.
-- Assumes nothing.
use mathlib.Core.Path.{◌≡◌, refl, sym, ap, ap₂, ◌∙◌, subst}
use mathlib.Core.List.{List, ◌∷◌, ◌++◌}
use Prim.Native.Nat.{ℕ, ◌*◌}
use native.Mathlib.Omega.{arith}
use lib.ListN.{drop}
use lib.IntN.{ℤ}
use lib.Ieee.{Float}
use Rattle.refusal.specs.Outcome.{gives}
use Rattle.fec_protection.specs.declared.Description.{Description}
use Rattle.msc_state.specs.States.{state_after}
use Rattle.msc_handler.specs.declared.Answer.{Answer}
use Rattle.msc_handler.specs.declared.Answer.TheVariants.{Waiting, Frame, Refused}
use Rattle.msc_handler.specs.Promises.{waiting, framed, said_of, Buffers}
use Rattle.c_state.specs.Numbers.{state_in, state_put}
use Rattle.c_msc.specs.Msc.{FedPlaces, fed_places, bytes_in, percent_put}
use Rattle.thm_msc.specs.Answers.{Call, call_of, Waits, Yields}
use Rattle.thm_msc.proofs.Accepting.{then_completes}
use Rattle.thm_msc.proofs.Agreement.{agreement, agreement_in_its_words, same_frame, earlier_forgotten}
use Rattle.thm_library.specs.Answers.{Seen, seen_of, Waited, Written}
use Rattle.thm_library.specs.Calls.{Kept, KeptCall}
use Rattle.thm_library.specs.Theorems.{LibraryAgreement, LibraryAgreementInItsWords, LibraryAgreementComes, LibrarySameFrame, LibraryEarlierForgotten}
use Rattle.thm_library.proofs.Histories.{held_of, same_state, wrote, in_crate, as_crates, library_never_refused}

-- ---- what a call below tells the library's caller

pub record Told (c : Seen) (k : Call) : Type 0 where
  pub answer : c.number ≡ 0
  pub state_is : state_in c.places.state ≡ k.state
  pub told : c.places' ≡ fed_places (state_put k.fed.state c.places.state) (bytes_in k.fed.answer ∷ drop 1 c.places.lengths) (percent_put k.fed.answer c.places.percents)
  pub frame-before : c.frame ≡ k.frame
  pub frame-after : c.frame' ≡ k.frame'

said_waiting : (a : Answer) → said_of a ≡ gives waiting → a ≡ Waiting
said_waiting Waiting e = refl
said_waiting (Frame m q) e = let z : ◌≡◌ {A = ℕ} 0 1 = cc in absurd (omega arith)
said_waiting (Refused m) e = let z : ◌≡◌ {A = ℕ} 0 1 = cc in absurd (omega arith)

said_framed : (a : Answer) (n : ℕ) (p : Float) → said_of a ≡ gives (framed n p) → a ≡ Frame n p
said_framed Waiting n p e = let z : ◌≡◌ {A = ℕ} 0 1 = cc in absurd (omega arith)
said_framed (Frame m q) n p e =
    let x : m ≡ n = cc in
    let y : q ≡ p = cc in
    ap₂ Frame x y
said_framed (Refused m) n p e = let z : ◌≡◌ {A = ℕ} 0 1 = cc in absurd (omega arith)

-- the numbers, the length and the percentage of an answer that is known
told_as : {c : Seen} {k : Call} → Told c k → (a : Answer) → k.fed.answer ≡ a → k.fed.state ≡ state_after k.state
    → c.places' ≡ fed_places (state_put (state_after (state_in c.places.state)) c.places.state) (bytes_in a ∷ drop 1 c.places.lengths) (percent_put a c.places.percents)
told_as {c} {k} t a e m =
    let s : k.fed.state ≡ state_after (state_in c.places.state) = m ∙ ap state_after (sym t.state_is) in
    t.told ∙ (λ i. fed_places (state_put (s i) c.places.state) (bytes_in (e i) ∷ drop 1 c.places.lengths) (percent_put (e i) c.places.percents))

pub told-waits : {c : Seen} {k : Call} → Told c k → Waits k → Waited c
told-waits {c} {k} t w = record { answer = t.answer; told = told_as t Waiting (said_waiting k.fed.answer w.answer) w.moved; untouched = t.frame-after ∙ w.untouched ∙ sym t.frame-before }

pub told-yields : {d : Description} {bytes : List ℕ} {c : Seen} {k : Call} → Told c k → Yields d bytes k → Written d bytes c
told-yields {d} {bytes} {c} {k} t y =
    record {
      percent = y.percent;
      answer = t.answer;
      told = told_as t (Frame (3 * d.bitrate) y.percent) (said_framed k.fed.answer (3 * d.bitrate) y.percent y.answer) y.moved;
      written = t.frame-after ∙ y.written ∙ ap (λ (old : List ℕ). bytes ++ drop (3 * d.bitrate) old) (sym t.frame-before);
    }

pub told_of : {d : Description} {h : Kept} {soft : List ℤ} {b : Buffers} {f : FedPlaces} {b' : Buffers} {f' : FedPlaces} (call : KeptCall d h soft b f 0 b' f') → Told (seen_of b f 0 b' f') (call_of (state_in h.state) b (wrote call).fed b')
told_of call =
    let w = wrote call in
    record { answer = refl; state_is = same_state call; told = λ i. fed_places (w.state_is i) (w.lengths_are i) (w.percents_are i); frame-before = refl; frame-after = refl }

-- ---- the theorems

pub library_agreement : LibraryAgreement
library_agreement d h c x s r frame n soft b f b' f' call whole = told-yields (told_of call) (agreement d (held_of h) c (as_crates x) s r frame n soft b (wrote call).fed b' (in_crate call) whole)

pub library_agreement_in_its_words : LibraryAgreementInItsWords
library_agreement_in_its_words d h c x s r frame n soft b f b' f' call whole = told-yields (told_of call) (agreement_in_its_words d (held_of h) c (as_crates x) s r frame n soft b (wrote call).fed b' (in_crate call) whole)

pub library_agreement_comes : LibraryAgreementComes
library_agreement_comes d h c fits x s r frame n seventeen soft b f number b' f' full =
    let zero : number ≡ 0 = library_never_refused d h c fits x soft b f number b' f' full in
    let call : KeptCall d h soft b f 0 b' f' = subst (λ (m : ℕ). KeptCall d h soft b f m b' f') zero full.call in
    subst (λ (m : ℕ). Written d (s.frames r) (seen_of b f m b' f')) (sym zero) (library_agreement d h c x s r frame n soft b f b' f' call (then_completes (as_crates x) soft b full.lengths full.long seventeen))

pub library_same_frame : LibrarySameFrame
library_same_frame d h h₂ c c₂ x x₂ s r frame n n₂ soft soft₂ b b₂ f f₂ b' b₂' f' f₂' call call₂ whole whole₂ =
    same_frame d (held_of h) (held_of h₂) c c₂ (as_crates x) (as_crates x₂) s r frame n n₂ soft soft₂ b b₂ (wrote call).fed (wrote call₂).fed b' b₂' (in_crate call) (in_crate call₂) whole whole₂

pub library_earlier_forgotten : LibraryEarlierForgotten
unfolding told-yields
library_earlier_forgotten d h h₂ c c₂ x x₂ n n₂ alike soft soft₂ b b₂ f f₂ b' b₂' f' f₂' call call₂ whole whole₂ =
    let same = earlier_forgotten d (held_of h) (held_of h₂) c c₂ (as_crates x) (as_crates x₂) n n₂ alike soft soft₂ b b₂ (wrote call).fed (wrote call₂).fed b' b₂' (in_crate call) (in_crate call₂) whole whole₂ in
    record {
      bytes = same.bytes;
      size = same.size;
      first = told-yields (told_of call) same.first;
      second = told-yields (told_of call₂) same.second;
      percent_one = one-percent (sym same.first.answer ∙ same.said_one ∙ same.second.answer);
    }
  where
    one-percent : {n m : ℕ} {p q : Float} → gives (framed n p) ≡ gives (framed m q) → p ≡ q
    one-percent e = cc
