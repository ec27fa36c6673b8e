-- A stream of frames, and recovery, as a caller of the library sees them.
-- Assumes nothing.
use mathlib.Core.Path.{◌≡◌, refl, sym, ap, ◌∙◌, subst}
use mathlib.Core.List.{List, [], ◌∷◌, ◌++◌}
use Prim.Native.Nat.{ℕ, ◌+◌, ◌*◌, ◌<◌, ◌≤◌}
use native.Mathlib.Omega.{arith}
use native.Mathlib.Decide.{dec_lt}
use native.Mathlib.Nat.{not-suc-le-zero}
use borrow.Author.Tests.{le-ltb}
use lib.ListN.{length, get_or, length-append, get_or-append}
use lib.Seq.{get_or-append_seam}
use lib.IntN.{ℤ}
use Rattle.refusal.specs.Outcome.{gives}
use Rattle.fec_protection.specs.declared.Description.{Description}
use Rattle.msc_state.specs.declared.State.{State}
use Rattle.msc_state.specs.States.{ring_length, fresh_state, set_up_refusal, reset_refusal}
use Rattle.msc_handler.specs.Promises.{Buffers}
use Rattle.c_state.specs.Numbers.{state_in}
use Rattle.c_msc.specs.Msc.{SetUpCall, ResetCall, set_up_number, reset_number, FedPlaces}
use Rattle.thm_msc.specs.Answers.{Call, call_of, Taken, waits as crate-waits, yields as crate-yields}
use Rattle.thm_msc.specs.Calls.{held, Came, came}
use Rattle.thm_msc.specs.Stream.{Start, by_set_up as crate-set-up, by_reset as crate-reset, FedOn, no_symbol as no-crate-symbol, one_more as one-crate-more, no_call, call_at}
use Rattle.thm_msc.proofs.Stream.{stream_after, stream, stream_in_its_words, recovery, recovery_in_its_words}
use Rattle.thm_msc.specs.Stream.{StreamsOn, Streams, Recovers}
use Rattle.spec_sender.specs.Msc.{Sender}
use Rattle.thm_library.specs.Answers.{Seen, seen_of, TakenIn, waits, writes}
use Rattle.thm_library.specs.Calls.{Kept, kept_after, KeptCall, LibraryHistory, set_up, reset, fed, Fits}
use Rattle.thm_library.specs.Stream.{LibraryStart, by_set_up, by_reset, LibraryCall, LibraryFedOn, no_symbol, one_more, not_seen, seen_at, LibraryStreamsOn, LibraryStreams, LibraryRecovers}
use Rattle.thm_library.specs.Theorems.{LibraryStreamAfter, LibraryStream, LibraryStreamInItsWords, LibraryRecovery, LibraryRecoveryInItsWords}
use Rattle.thm_library.proofs.Agreement.{Told, told-waits, told-yields, told_of}
use Rattle.thm_library.proofs.Histories.{held_of, done, prepared, ring_by, state_by, set_up_none, reset-none, read_back, wrote, in_crate, read-after, as_crates, library_never_refused}

-- ---- the start answers 0

record Started (d : Description) (number : ℕ) (h : Kept) : Type 0 where
  zero : number ≡ 0
  since : LibraryHistory d h (came [] [])
  start : Start d (gives tt) (held_of h)

started : {d : Description} {number : ℕ} {h : Kept} → LibraryStart d number h → Started d number h
unfolding set_up_number set_up_refusal reset_number reset_refusal
started {d} (by_set_up {number} state cif ring ring' state' ok long needed p) =
    let none : set_up_number d (length ring) (length state) ≡ 0 = rw (ok, le-ltb (length ring) (ring_length d) needed, le-ltb (length state) 11 long) refl in
    let z : number ≡ 0 = p.answer ∙ none in
    let q : SetUpCall d ring state 0 ring' state' = subst (λ (m : ℕ). SetUpCall d ring state m ring' state') z p in
    record {
      zero = z;
      since = set_up state cif ring ring' state' q;
      start = subst (λ (s : State). Start d (gives tt) (held s cif ring')) (sym (read_back (fresh_state d) state (state_by q))) (crate-set-up cif ring (done d) ring' ok needed (prepared (set_up_none d (length ring) (length state) q.answer) (ring_by q)));
    }
started {d} (by_reset {number} state cif ring ring' state' e long ranged bad needed p) =
    let here : ring_length (state_in state).channel.description ≤ length ring = subst (λ (u : Description). ring_length u ≤ length ring) (sym e) needed in
    let none : reset_number state (length ring) ≡ 0 = rw (le-ltb (length state) 11 long, ranged, bad, le-ltb (length ring) (ring_length (state_in state).channel.description) here) refl in
    let z : number ≡ 0 = p.answer ∙ none in
    let q : ResetCall state ring 0 ring' state' = subst (λ (m : ℕ). ResetCall state ring m ring' state') z p in
    record {
      zero = z;
      since = reset state cif ring ring' state' e q;
      start = subst (λ (s : State). Start d (gives tt) (held s cif ring')) (sym (read_back (fresh_state (state_in state).channel.description) state (state_by q)))
          (crate-reset (state_in state) cif ring (done (state_in state).channel.description) ring' e bad needed (prepared (reset-none state (length ring) q.answer) (ring_by q)));
    }

-- ---- symbols fed to the library are fed to the handler

record AsFed (d : Description) (h : Kept) (softs : List (List ℤ)) (seens : List Seen) (h' : Kept) : Type 0 where
  come : Came
  since : LibraryHistory d h' come
  calls : List Call
  fed_on : FedOn d (held_of h) softs calls (held_of h')
  long : length seens ≡ length calls
  told : (j : ℕ) → j < length calls → Told (get_or seens j not_seen) (get_or calls j no_call)

module _ {d : Description} (fits : Fits d) {h : Kept} where
  as_next : {softs : List (List ℤ)} {seens : List Seen} {h' : Kept} (v : AsFed d h softs seens h') (soft : List ℤ) (b : Buffers) (f : FedPlaces) (number : ℕ) (b' : Buffers) (f' : FedPlaces) → LibraryCall d h' soft b f number b' f'
      → AsFed d h (softs ++ (soft ∷ [])) (seens ++ (seen_of b f number b' f' ∷ [])) (kept_after b' f')
  as_next {softs} {seens} {h'} v soft b f number b' f' full =
      record {
        come = _;
        since = fed soft b f b' f' v.since call;
        calls = v.calls ++ (last ∷ []);
        fed_on = subst (λ (s : State). FedOn d (held_of h) (softs ++ (soft ∷ [])) (v.calls ++ (last ∷ [])) (held s b'.cif b'.ring)) (sym (read-after call)) (one-crate-more soft b (wrote call).fed b' v.fed_on (record { call = in_crate call; lengths = full.lengths; long = full.long }));
        long = length-append seens (this ∷ []) ∙ ap (λ (n : ℕ). n + 1) v.long ∙ sym (length-append v.calls (last ∷ []));
        told = each;
      }
    where
      zero : number ≡ 0
      zero = library_never_refused d h' v.come fits v.since soft b f number b' f' full

      call : KeptCall d h' soft b f 0 b' f'
      call = subst (λ (m : ℕ). KeptCall d h' soft b f m b' f') zero full.call

      last : Call
      last = call_of (state_in h'.state) b (wrote call).fed b'

      this : Seen
      this = seen_of b f number b' f'

      each : (j : ℕ) → j < length (v.calls ++ (last ∷ [])) → Told (get_or (seens ++ (this ∷ [])) j not_seen) (get_or (v.calls ++ (last ∷ [])) j no_call)
      each j l = go (dec_lt j (length v.calls))
        where
          go : Dec (j < length v.calls) → Told (get_or (seens ++ (this ∷ [])) j not_seen) (get_or (v.calls ++ (last ∷ [])) j no_call)
          go (yes y) =
              subst (λ (k : Call). Told (get_or (seens ++ (this ∷ [])) j not_seen) k) (sym (get_or-append v.calls (last ∷ []) no_call j y))
              (subst (λ (c : Seen). Told c (get_or v.calls j no_call)) (sym (get_or-append seens (this ∷ []) not_seen j (omega (arith, v.long)))) (v.told j y))
          go (no n) =
              let e : length v.calls ≡ j = omega (arith, length-append v.calls (last ∷ [])) in
              let g : length seens ≡ j = omega (arith, v.long) in
              subst (λ (k : Call). Told (get_or (seens ++ (this ∷ [])) j not_seen) k) (sym (ap (λ (m : ℕ). get_or (v.calls ++ (last ∷ [])) m no_call) (sym e) ∙ get_or-append_seam v.calls last [] no_call))
              (subst (λ (c : Seen). Told c last) (sym (ap (λ (m : ℕ). get_or (seens ++ (this ∷ [])) m not_seen) (sym g) ∙ get_or-append_seam seens this [] not_seen))
              (subst (λ (m : ℕ). Told (seen_of b f m b' f') last) (sym zero) (told_of call)))

  as_fed : {softs : List (List ℤ)} {seens : List Seen} {h' : Kept} {c : Came} → LibraryHistory d h c → LibraryFedOn d h softs seens h' → AsFed d h softs seens h'
  as_fed {c = c} x no_symbol = record { come = c; since = x; calls = []; fed_on = no-crate-symbol; long = refl; told = λ j l. absurd (not-suc-le-zero l) }
  as_fed x (one_more soft b f number b' f' fs full) = as_next (as_fed x fs) soft b f number b' f' full

-- ---- the theorems

told-taken : {d : Description} {c : Seen} {k : Call} → Told c k → Taken d k → TakenIn d c
told-taken t (crate-waits w) = waits (told-waits t w)
told-taken t (crate-yields bytes size y) = writes bytes size (told-yields t y)

streams_on : {d : Description} {s : Sender} {r n : ℕ} {h h' : Kept} {softs : List (List ℤ)} {seens : List Seen} (v : AsFed d h softs seens h') → StreamsOn d s r n v.calls → LibraryStreamsOn d s r n seens
unfolding call_at seen_at
streams_on v t =
    record {
      as_many = v.long ∙ t.as_many;
      waits = λ k q l g. told-waits (v.told (18 * k + q) (omega (arith, t.as_many))) (t.waits k q l g);
      taken = λ k l. told-taken (v.told (18 * k + 17) (omega (arith, t.as_many))) (t.taken k l);
      writes = λ k l. told-yields (v.told (18 * (k + 16) + 17) (omega (arith, t.as_many))) (t.yields k l);
    }

streams : {d : Description} {s : Sender} {r n number : ℕ} {h h' : Kept} {softs : List (List ℤ)} {seens : List Seen} → number ≡ 0 → (v : AsFed d h softs seens h') → Streams d s r n (gives tt) v.calls → LibraryStreams d s r n number seens
unfolding call_at seen_at
streams z v t =
    record { starts = z; goes_on = streams_on v t.goes_on; waits_first = λ k l g. told-waits (v.told (18 * k + 17) (omega (arith, t.goes_on.as_many))) (t.waits_first k l g) }

pub library_stream_after : LibraryStreamAfter
library_stream_after d h c fits x e s r n frames softs sent seens h' fs =
    let v = as_fed fits x fs in
    streams_on v (stream_after d (held_of h) c (as_crates x) e s r n frames softs sent v.calls (held_of h') v.fed_on)

pub library_stream : LibraryStream
library_stream d number h fits start s r n frames softs sent seens h' fs =
    let begin = started start in
    let v = as_fed fits begin.since fs in
    streams begin.zero v (stream d (gives tt) (held_of h) begin.start s r n frames softs sent v.calls (held_of h') v.fed_on)

pub library_stream_in_its_words : LibraryStreamInItsWords
library_stream_in_its_words d number h fits start s r n frames softs sent seens h' fs =
    let begin = started start in
    let v = as_fed fits begin.since fs in
    streams begin.zero v (stream_in_its_words d (gives tt) (held_of h) begin.start s r n frames softs sent v.calls (held_of h') v.fed_on)

recovers : {d : Description} {s : Sender} {r number : ℕ} {h h' : Kept} {softs : List (List ℤ)} {seens : List Seen} → number ≡ 0 → (v : AsFed d h softs seens h') → Recovers d s r (gives tt) v.calls → LibraryRecovers d s r number seens
recovers z v t =
    record {
      starts = z;
      as_many = v.long ∙ t.as_many;
      waits = λ j l. told-waits (v.told j (omega (arith, t.as_many))) (t.waits j l);
      writes = told-yields (v.told 305 (omega (arith, t.as_many))) t.yields;
    }

pub library_recovery : LibraryRecovery
library_recovery d number h fits start s r frame sixteen next a long seens h' fs =
    let begin = started start in
    let v = as_fed fits begin.since fs in
    recovers begin.zero v (recovery d (gives tt) (held_of h) begin.start s r frame sixteen next a long v.calls (held_of h') v.fed_on)

pub library_recovery_in_its_words : LibraryRecoveryInItsWords
library_recovery_in_its_words d number h fits start s r frame sixteen next a long seens h' fs =
    let begin = started start in
    let v = as_fed fits begin.since fs in
    recovers begin.zero v (recovery_in_its_words d (gives tt) (held_of h) begin.start s r frame sixteen next a long v.calls (held_of h') v.fed_on)
