-- A receiver that is set up or reset at the start of the sender's CIF r, and fed CIF after CIF: a stream of frames, and recovery.
-- Assumes nothing.
use mathlib.Core.Path.{◌≡◌, refl, sym, ap, ◌∙◌, subst}
use mathlib.Core.Bool.{Bool}
use mathlib.Core.List.{List, [], ◌∷◌, ◌++◌}
use Prim.Native.Nat.{ℕ, ◌+◌, ◌*◌, ◌-◌, ◌/◌, ◌%◌, ◌<◌, ◌≤◌}
use native.Mathlib.Omega.{arith}
use native.Mathlib.Decide.{dec_lt}
use native.Mathlib.Nat.{not-suc-le-zero}
use borrow.Author.Tests.{le-ltb, lt-leb}
use lib.ListN.{length, get_or, drop, length-append, get_or-append}
use lib.Seq.{get_or-append_seam, get_or-take, get_or-drop}
use lib.IntN.{ℤ, pos}
use Rattle.laws.specs.Integers.{at}
use Rattle.spec_trellis.specs.Clean.{Agrees}
use Rattle.spec_en300401.specs.Interleaving.{delay, symbol_bits, cif_bits}
use Rattle.spec_en300401.proofs.Interleaving.{delay-lt}
use Rattle.fec_protection.specs.declared.Description.{Description}
use Rattle.refusal.specs.Outcome.{told, Outcome, gives, outcome}
use Rattle.fec_protection.specs.Refusals.{Accepted}
use Rattle.fec_protection.proofs.Accepted.{kept-fits}
use Rattle.msc_handler.specs.declared.Fed.{Fed}
use Rattle.msc_set_up.specs.declared.SetUp.{SetUp}
use Rattle.msc_state.specs.declared.State.{State}
use Rattle.msc_handler.specs.History.{symbol_of, Cif, value_at}
use Rattle.msc_handler.specs.Promises.{said_of, Buffers, Turn, gathers, completes, turn_of, gathered, Completed, Feeds}
use Rattle.msc_set_up.specs.Promises.{Prepared}
use Rattle.msc_state.specs.States.{ring_length, set_up_refusal, reset_refusal}
use Rattle.thm_msc.specs.Answers.{Call, call_of, Waits, Yields, Taken, waits}
use Rattle.thm_msc.specs.Calls.{Held, held_after, Came, came, after, History, set_up, reset, fed}
use Rattle.thm_msc.specs.Heard.{kept_of, Sixteen}
use Rattle.spec_sender.specs.Msc.{Sender, IsFrame, place_of, cif_bit}
use Rattle.spec_sender.proofs.Msc.{place_inside}
use Rattle.thm_msc.specs.Stream.{Start, by_set_up, by_reset, FullCall, FedOn, no_symbol, one_more, value_of, no_call, call_at, SentCifs, Streams, SentSixteen}
use Rattle.thm_msc.specs.Theorems.{StreamAfter, Stream, StreamInItsWords, Recovery, RecoveryInItsWords}
use Rattle.thm_msc.proofs.Accepting.{then_gathers, then_completes}
use Rattle.thm_msc.proofs.Agreement.{last-sixteen, some_frame, agreement}
use Rattle.thm_msc.proofs.Histories.{holds, accepted_since}

-- ---- the start is accepted

record Started (d : Description) (first : Outcome (Unit {0})) (h : Held) : Type 0 where
  starts : first ≡ gives tt
  since : History d h (came [] [])

prepared_gives : {d : Description} {other : State} {ring : List ℤ} {r : SetUp} {ring' : List ℤ} {n : ℕ} → Prepared n d other ring r ring' → n ≡ 0 → told r.answer ≡ gives tt
prepared_gives p none = p.answer ∙ ap (λ (k : ℕ). outcome {A = Unit {0}} k tt) none

started : {d : Description} {first : Outcome (Unit {0})} {h : Held} → Start d first h → Started d first h
unfolding set_up_refusal reset_refusal
started {d} (by_set_up cif ring r ring' ok m p) =
    let none : set_up_refusal d (length ring) ≡ 0 = rw (ok, le-ltb (length ring) (ring_length d) m) in
    record { starts = prepared_gives p none; since = set_up cif ring r ring' p (prepared_gives p none) }
started {d} (by_reset s cif ring r ring' e bad m p) =
    let here : ring_length s.channel.description ≤ length ring = subst (λ (u : Description). ring_length u ≤ length ring) (sym e) m in
    let none : reset_refusal s (length ring) ≡ 0 = rw (bad, le-ltb (length ring) (ring_length s.channel.description) here) in
    record { starts = prepared_gives p none; since = reset s cif ring r ring' e p (prepared_gives p none) }

-- ---- one call that waits

module _ {d : Description} {h : Held} {c : Came} (x : History d h c) {soft : List ℤ} {b : Buffers} {r : Fed} {b' : Buffers} (f : FullCall d h soft b r b') where
  in_turn : (u : Turn) → turn_of h.state soft b ≡ u → Feeds u h.state soft b r.state (said_of r.answer) b'
  in_turn u e = subst (λ (w : Turn). Feeds w h.state soft b r.state (said_of r.answer) b') e f.call.promise.feeds

  middle_waits : length c.begun < 17 → Waits (call_of h.state b r b')
  unfolding Feeds
  middle_waits l =
      let g = in_turn (gives gathers) (then_gathers x soft b f.lengths f.long l) in
      record { answer = g.1; untouched = ap (λ (q : Buffers). q.frame) g.2; moved = g.0 }

  early_waits : length c.begun ≡ 17 → length c.cifs < 16 → Waits (call_of h.state b r b')
  unfolding Feeds Completed
  early_waits e few =
      let g = in_turn (gives completes) (then_completes x soft b f.lengths f.long e) in
      let count : h.state.channel.cif_count < 16 = omega (arith, (holds d h c x).channel.count) in
      let w = subst (λ (u : Bool). Completed u h.state.channel (gathered h.state soft b) (said_of r.answer) b') (lt-leb 16 h.state.channel.cif_count count) g.1 in
      record { answer = w.0; untouched = ap (λ (q : Buffers). q.frame) w.1; moved = g.0 }

  -- whatever it is, it is taken
  whole-taken : length c.begun ≡ 17 → Taken d (call_of h.state b r b')
  whole-taken e = go (dec_lt (length c.cifs) 16)
    where
      go : Dec (length c.cifs < 16) → Taken d (call_of h.state b r b')
      go (yes l) = waits (early_waits e l)
      go (no l) = some_frame x f.call (then_completes x soft b f.lengths f.long e) (last-sixteen c.cifs (length c.cifs - 16) (omega arith))

-- ---- what came in, symbol by symbol

-- these symbols, eighteen to a CIF, after m CIFs
record Follows (m : ℕ) (softs : List (List ℤ)) (c : Came) : Type 0 where
  new : ℕ
  more : length c.cifs ≡ m + new
  count : 18 * new + length c.begun ≡ length softs
  wholes : (k q : ℕ) → k < new → q < 18 → get_or (get_or c.cifs (m + k) []) q [] ≡ symbol_of (get_or softs (18 * k + q) [])
  begun : (q : ℕ) → q < length c.begun → get_or c.begun q [] ≡ symbol_of (get_or softs (18 * new + q) [])

module _ {m : ℕ} {softs : List (List ℤ)} {c : Came} (v : Follows m softs c) (soft : List ℤ) where
  abbrev softs' : List (List ℤ)
  softs' = softs ++ (soft ∷ [])

  abbrev begun' : Cif
  begun' = c.begun ++ (symbol_of soft ∷ [])

  softs-long : length softs' ≡ length softs + 1
  softs-long = length-append softs (soft ∷ [])

  begun-long : length begun' ≡ length c.begun + 1
  begun-long = length-append c.begun (symbol_of soft ∷ [])

  before : (j : ℕ) → j < length softs → symbol_of (get_or softs j []) ≡ symbol_of (get_or softs' j [])
  before j l = sym (ap symbol_of (get_or-append softs (soft ∷ []) [] j l))

  wholes_before : (k q : ℕ) → k < v.new → q < 18 → get_or (get_or c.cifs (m + k) []) q [] ≡ symbol_of (get_or softs' (18 * k + q) [])
  wholes_before k q l g = v.wholes k q l g ∙ before (18 * k + q) (omega (arith, v.count))

  begun-at : (q : ℕ) → q < length begun' → get_or begun' q [] ≡ symbol_of (get_or softs' (18 * v.new + q) [])
  begun-at q l = go (dec_lt q (length c.begun))
    where
      go : Dec (q < length c.begun) → get_or begun' q [] ≡ symbol_of (get_or softs' (18 * v.new + q) [])
      go (yes y) = get_or-append c.begun (symbol_of soft ∷ []) [] q y ∙ v.begun q y ∙ before (18 * v.new + q) (omega (arith, v.count))
      go (no n) =
          let a : q ≡ length c.begun = omega (arith, begun-long) in
          let z : length softs ≡ 18 * v.new + q = omega (arith, v.count) in
          ap (λ (k : ℕ). get_or begun' k []) a ∙ get_or-append_seam c.begun (symbol_of soft) [] []
          ∙ sym (ap symbol_of (ap (λ (k : ℕ). get_or softs' k []) (sym z) ∙ get_or-append_seam softs soft [] []))

  follows_middle : Follows m softs' (came c.cifs begun')
  follows_middle = record { new = v.new; more = v.more; count = omega (arith, v.count, begun-long, softs-long); wholes = wholes_before; begun = begun-at }

  follows_whole : length c.begun ≡ 17 → Follows m softs' (came (c.cifs ++ (begun' ∷ [])) [])
  follows_whole e =
      record {
        new = v.new + 1;
        more = length-append c.cifs (begun' ∷ []) ∙ omega (arith, v.more);
        count = omega (arith, v.count, softs-long);
        wholes = wholes_more;
        begun = λ q l. absurd (not-suc-le-zero l);
      }
    where
      wholes_more : (k q : ℕ) → k < v.new + 1 → q < 18 → get_or (get_or (c.cifs ++ (begun' ∷ [])) (m + k) []) q [] ≡ symbol_of (get_or softs' (18 * k + q) [])
      wholes_more k q l g = go (dec_lt k v.new)
        where
          go : Dec (k < v.new) → get_or (get_or (c.cifs ++ (begun' ∷ [])) (m + k) []) q [] ≡ symbol_of (get_or softs' (18 * k + q) [])
          go (yes y) = ap (λ (t : Cif). get_or t q []) (get_or-append c.cifs (begun' ∷ []) [] (m + k) (omega (arith, v.more))) ∙ wholes_before k q y g
          go (no n) =
              let is : k ≡ v.new = omega arith in
              let seam : m + k ≡ length c.cifs = omega (arith, v.more) in
              ap (λ (t : Cif). get_or t q []) (ap (λ (j : ℕ). get_or (c.cifs ++ (begun' ∷ [])) j []) seam ∙ get_or-append_seam c.cifs begun' [] [])
              ∙ begun-at q (omega (arith, begun-long)) ∙ ap (λ (j : ℕ). symbol_of (get_or softs' (18 * j + q) [])) (sym is)

-- a history of these symbols
record Followed (d : Description) (m : ℕ) (h : Held) (softs : List (List ℤ)) : Type 0 where
  come : Came
  since : History d h come
  follows : Follows m softs come

-- one call more
next : {d : Description} {m : ℕ} {h : Held} {softs : List (List ℤ)} (v : Followed d m h softs) {soft : List ℤ} {b : Buffers} {r : Fed} {b' : Buffers} → FullCall d h soft b r b' → Followed d m (held_after r b') (softs ++ (soft ∷ []))
next {d} {m} {h} {softs} v {soft} {b} {r} {b'} f =
    record { come = after (turn_of h.state soft b) soft v.come; since = fed soft b r b' v.since f.call; follows = go (dec_lt (length v.come.begun) 17) }
  where
    short : length v.come.begun < 18
    short = (holds d h v.come v.since).board.short

    go : Dec (length v.come.begun < 17) → Follows m (softs ++ (soft ∷ [])) (after (turn_of h.state soft b) soft v.come)
    go (yes l) = subst (λ (t : Turn). Follows m (softs ++ (soft ∷ [])) (after t soft v.come)) (sym (then_gathers v.since soft b f.lengths f.long l)) (follows_middle v.follows soft)
    go (no n) =
        let e : length v.come.begun ≡ 17 = omega (arith, short) in
        subst (λ (t : Turn). Follows m (softs ++ (soft ∷ [])) (after t soft v.come)) (sym (then_completes v.since soft b f.lengths f.long e)) (follows_whole v.follows soft e)

-- before the first symbol, at a CIF's start
at-start : {d : Description} {h : Held} {c : Came} → History d h c → length c.begun ≡ 0 → Followed d (length c.cifs) h []
at-start {c = c} x e =
    record {
      come = c;
      since = x;
      follows = record { new = 0; more = omega arith; count = omega (arith, e); wholes = λ k q l g. absurd (not-suc-le-zero l); begun = λ q l. absurd (omega arith) };
    }

followed : {d : Description} {m : ℕ} {h h' : Held} {softs : List (List ℤ)} {calls : List Call} → Followed d m h [] → FedOn d h softs calls h' → Followed d m h' softs
followed x no_symbol = x
followed x (one_more soft b r b' fs f) = next (followed x fs) f

calls-long : {d : Description} {h h' : Held} {softs : List (List ℤ)} {calls : List Call} → FedOn d h softs calls h' → length calls ≡ length softs
calls-long no_symbol = refl
calls-long (one_more {softs} {calls} {h'} soft b r b' fs f) = length-append calls (call_of h'.state b r b' ∷ []) ∙ ap (λ (n : ℕ). n + 1) (calls-long fs) ∙ sym (length-append softs (soft ∷ []))

-- ---- call j of those that were fed: the history before it, by the symbols before it

record Here (d : Description) (m : ℕ) (softs : List (List ℤ)) (j : ℕ) (call : Call) : Type 0 where
  h : Held
  come : Came
  since : History d h come
  new : ℕ
  more : length come.cifs ≡ m + new
  count : 18 * new + length come.begun ≡ j
  wholes : (k q : ℕ) → k < new → q < 18 → get_or (get_or come.cifs (m + k) []) q [] ≡ symbol_of (get_or softs (18 * k + q) [])
  soft : List ℤ
  b : Buffers
  r : Fed
  b' : Buffers
  full : FullCall d h soft b r b'
  is : call ≡ call_of h.state b r b'

here : {d : Description} {m : ℕ} {h h' : Held} {softs : List (List ℤ)} {calls : List Call} → Followed d m h [] → FedOn d h softs calls h' → (j : ℕ) → j < length softs → Here d m softs j (get_or calls j no_call)
here x no_symbol j l = absurd (not-suc-le-zero l)
here {d} {m} x (one_more {softs} {calls} {h'} soft b r b' fs f) j l = go (dec_lt j (length softs)) (λ y. here x fs j y)
  where
    go : Dec (j < length softs) → (j < length softs → Here d m softs j (get_or calls j no_call)) → Here d m (softs ++ (soft ∷ [])) j (get_or (calls ++ (call_of h'.state b r b' ∷ [])) j no_call)
    go (yes y) old =
        let v = old y in
        record {
          h = v.h;
          come = v.come;
          since = v.since;
          new = v.new;
          more = v.more;
          count = v.count;
          wholes = λ k q n g. v.wholes k q n g ∙ sym (ap symbol_of (get_or-append softs (soft ∷ []) [] (18 * k + q) (omega (arith, v.count))));
          soft = v.soft;
          b = v.b;
          r = v.r;
          b' = v.b';
          full = v.full;
          is = get_or-append calls (call_of h'.state b r b' ∷ []) no_call j (omega (arith, calls-long fs)) ∙ v.is;
        }
    go (no n) old =
        let v = followed x fs in
        let e : j ≡ length softs = omega (arith, length-append softs (soft ∷ [])) in
        let z : j ≡ length calls = omega (arith, calls-long fs) in
        record {
          h = h';
          come = v.come;
          since = v.since;
          new = v.follows.new;
          more = v.follows.more;
          count = v.follows.count ∙ sym e;
          wholes = wholes_before v.follows soft;
          soft = soft;
          b = b;
          r = r;
          b' = b';
          full = f;
          is = ap (λ (k : ℕ). get_or (calls ++ (call_of h'.state b r b' ∷ [])) k no_call) z ∙ get_or-append_seam calls (call_of h'.state b r b') [] no_call;
        }

-- ---- the stream

-- a kept value is inside its CIF
kept-inside : (d : Description) → Accepted d → (i : ℕ) → i < kept_of d → place_of d i < cif_bits
kept-inside d ok i l = place_inside d ok i (omega (arith, kept-fits d ok))

module _ {d : Description} {m : ℕ} {softs : List (List ℤ)} {j : ℕ} {call : Call} (v : Here d m softs j call) where
  short : length v.come.begun < 18
  short = (holds d v.h v.come v.since).board.short

  -- a symbol before the last of its CIF; the last of a CIF; the last of one of the first sixteen
  here_waits : (k q : ℕ) → j ≡ 18 * k + q → q < 17 → Waits call
  here_waits k q e l = subst Waits (sym v.is) (middle_waits v.since v.full (omega (arith, v.count, short)))

  here_taken : (k : ℕ) → j ≡ 18 * k + 17 → Taken d call
  here_taken k e = subst (Taken d) (sym v.is) (whole-taken v.since v.full (omega (arith, v.count, short)))

  here_early : (k : ℕ) → j ≡ 18 * k + 17 → m + k < 16 → Waits call
  here_early k e l = subst Waits (sym v.is) (early_waits v.since v.full (omega (arith, v.count, short)) (omega (arith, v.count, v.more, short)))

  -- the last of CIF k + 16
  module _ (k : ℕ) (e : j ≡ 18 * (k + 16) + 17) where
    abbrev cifs : List Cif
    cifs = v.come.cifs

    new_is : v.new ≡ k + 16
    new_is = omega (arith, v.count, short)

    value_is : (i p : ℕ) → i < k + 16 → p < cif_bits → value_at (get_or cifs (m + i) []) p ≡ value_of softs i p
    unfolding value_at value_of symbol_of
    value_is i p l g =
        ap (λ (t : List ℤ). at t (p % symbol_bits)) (v.wholes i (p / symbol_bits) (omega (arith, new_is)) (omega arith))
        ∙ get_or-take symbol_bits (get_or softs (18 * i + p / symbol_bits) []) (p % symbol_bits) (pos 0) (omega arith)

    here_yields : (s : Sender) (r : ℕ) → IsFrame d (s.frames (r + k)) → ((i : ℕ) → i < kept_of d → Agrees (value_of softs (k + delay i) (place_of d i)) (cif_bit d s (r + (k + delay i)) (place_of d i))) → Yields d (s.frames (r + k)) call
    here_yields s r frame agree =
        subst (Yields d (s.frames (r + k))) (sym v.is)
        (agreement d v.h v.come v.since s (r + k) frame sixteen v.soft v.b v.r v.b' v.full.call (then_completes v.since v.soft v.b v.full.lengths v.full.long (omega (arith, v.count, short, new_is))))
      where
        at_last : (i : ℕ) → i < kept_of d → value_of softs (k + delay i) (place_of d i) ≡ value_at (get_or (drop (m + k) cifs) (delay i) []) (place_of d i)
        at_last i l =
            let assoc : m + k + delay i ≡ m + (k + delay i) = omega arith in
            sym
            (ap (λ (t : Cif). value_at t (place_of d i)) (get_or-drop (m + k) cifs (delay i) [] ∙ ap (λ (n : ℕ). get_or cifs n []) assoc)
            ∙ value_is (k + delay i) (place_of d i) (omega (arith, delay-lt i)) (kept-inside d (accepted_since v.since) i l))

        sixteen : Sixteen d s (r + k) cifs
        sixteen =
            record {
              run = last-sixteen cifs (m + k) (omega (arith, v.more, new_is));
              agree = λ i l.
                  let assoc : r + (k + delay i) ≡ r + k + delay i = omega arith in
                  subst (λ (n : ℕ). Agrees (value_at (get_or (drop (m + k) cifs) (delay i) []) (place_of d i)) (cif_bit d s n (place_of d i))) assoc (subst (λ (z : ℤ). Agrees z (cif_bit d s (r + (k + delay i)) (place_of d i))) (at_last i l) (agree i l));
            }

pub stream_after : StreamAfter
unfolding call_at
stream_after d h c x e s r n frames softs sent calls h' fs =
    let begin = at-start x e in
    record {
      as_many = calls-long fs ∙ sent.long;
      waits = λ k q l g. here_waits (here begin fs (18 * k + q) (omega (arith, sent.long))) k q refl g;
      taken = λ k l. here_taken (here begin fs (18 * k + 17) (omega (arith, sent.long))) k refl;
      yields = λ k l. here_yields (here begin fs (18 * (k + 16) + 17) (omega (arith, sent.long))) k refl s r (frames k l) (λ i g. sent.agree k i l g);
    }

pub stream : Stream
unfolding call_at
stream d first h start s r n frames softs sent calls h' fs =
    let begin = started start in
    record {
      starts = begin.starts;
      goes_on = stream_after d h (came [] []) begin.since refl s r n frames softs sent calls h' fs;
      waits_first = λ k l g. here_early (here (at-start begin.since refl) fs (18 * k + 17) (omega (arith, sent.long))) k refl (omega arith);
    }

pub stream_in_its_words : StreamInItsWords
stream_in_its_words d first h start s r n frames softs sent =
    stream d first h start s r n frames softs (record { long = sent.long; agree = λ k i l m. sent.agree (k + delay i) i (omega (arith, delay-lt i)) m })

-- ---- recovery: a stream of seventeen CIFs, of which the last may hold anything

sent-all : {d : Description} {s : Sender} {r : ℕ} (sixteen next : List (List ℤ)) → SentSixteen d s r sixteen → length next ≡ 18 → Accepted d → SentCifs d s r 17 (sixteen ++ next)
unfolding value_of
sent-all {d} {s} {r} sixteen next a long ok = record { long = length-append sixteen next ∙ omega (arith, a.long); agree = λ k i l m. moved k (omega arith) i m }
  where
    moved : (k : ℕ) → k ≡ 0 → (i : ℕ) → i < kept_of d → Agrees (value_of (sixteen ++ next) (k + delay i) (place_of d i)) (cif_bit d s (r + (k + delay i)) (place_of d i))
    moved k z i m =
        let e : delay i ≡ k + delay i = omega arith in
        subst (λ (t : ℕ). Agrees (value_of (sixteen ++ next) t (place_of d i)) (cif_bit d s (r + t) (place_of d i))) e
        (subst (λ (t : List ℤ). Agrees (at t (place_of d i % symbol_bits)) (cif_bit d s (r + delay i) (place_of d i)))
        (sym (get_or-append sixteen next [] (18 * delay i + place_of d i / symbol_bits) (omega (arith, a.long, delay-lt i, kept-inside d ok i m)))) (a.agree i m))

pub recovery : Recovery
unfolding call_at
recovery d first h start s r frame sixteen next a long calls h' fs =
    let begin = started start in
    let ok = accepted_since begin.since in
    let all = stream d first h start s r 17 (λ k l. only k (omega arith)) (sixteen ++ next) (sent-all sixteen next a long ok) calls h' fs in
    record { starts = all.starts; as_many = all.goes_on.as_many; waits = early all; yields = subst (λ (m : ℕ). Yields d (s.frames m) (get_or calls 305 no_call)) (omega arith) (all.goes_on.yields 0 (omega arith)) }
  where
    only : (k : ℕ) → k ≡ 0 → IsFrame d (s.frames (r + k))
    only k z = subst (λ (m : ℕ). IsFrame d (s.frames m)) (omega arith) frame

    early : Streams d s r 17 first calls → (j : ℕ) → j < 305 → Waits (get_or calls j no_call)
    early all j l = go (dec_lt (j % 18) 17)
      where
        is : 18 * (j / 18) + j % 18 ≡ j
        is = omega arith

        go : Dec (j % 18 < 17) → Waits (get_or calls j no_call)
        go (yes y) = subst (λ (m : ℕ). Waits (get_or calls m no_call)) is (all.goes_on.waits (j / 18) (j % 18) (omega arith) y)
        go (no n) =
            let e : 18 * (j / 18) + 17 ≡ j = omega arith in
            subst (λ (m : ℕ). Waits (get_or calls m no_call)) e (all.waits_first (j / 18) (omega arith) (omega arith))

pub recovery_in_its_words : RecoveryInItsWords
recovery_in_its_words d first h start s r frame sixteen next a = recovery d first h start s r frame sixteen next (record { long = a.long; agree = λ i l. a.agree (delay i) i (delay-lt i) l })
