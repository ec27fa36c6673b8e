-- Feeding a symbol: the promise from what the code leaves, turn by turn, and that it admits one result.
-- Assumes nothing.
use mathlib.Core.Path.{◌≡◌, refl, sym, ap, ap₂, ◌∙◌, subst}
use mathlib.Core.Bool.{Bool, true, false}
use mathlib.Core.List.{List, ◌++◌}
use Prim.Native.Nat.{ℕ, zero, suc, ◌*◌, ◌<◌, ◌≤◌}
use native.Mathlib.Omega.{arith}
use borrow.Author.Tests.{le-leb, lt-leb}
use lib.ListN.{length, drop, length-append}
use lib.Seq.{take_at}
use lib.IntN.{ℤ}
use lib.Ieee.{Float}
use Rattle.laws.proofs.Lists.{length-list_of}
use Rattle.spec_en300401.specs.Puncturing.{mask, depuncture}
use Rattle.fec_protection.specs.Refusals.{profile_of, depunctured_length}
use Rattle.refusal.specs.Outcome.{Outcome, gives, refuses, outcome, number_of, numbered}
use Rattle.refusal.proofs.Laws.{refused_by, refused-number, is_refusal}
use Rattle.refusal.specs.declared.Refusal.{Refusal}
use Rattle.refusal.proofs.Told.{numbered_one}
use Rattle.fec_viterbi.specs.Decoders.{ends_of}
use Rattle.msc_handler.specs.declared.Answer.{Answer}
use Rattle.msc_handler.specs.declared.Answer.TheVariants.{Waiting, Frame, Refused}
use Rattle.msc_state.specs.declared.Channel.{Channel}
use Rattle.msc_handler.specs.declared.Fed.{Fed}
use Rattle.msc_state.specs.declared.State.{State}
use Rattle.msc_handler.specs.Code.{values_in, FrameLent, FrameMade}
use Rattle.msc_handler.specs.Frames.{Framed}
use Rattle.msc_handler.specs.Promises.{Said, waiting, framed, said_of, Buffers, buffers, refusal_in, step_of, gathers, completes, Turn, turn_of, delayed, gathered, rotated, depunctured_of, Completed, CifPromise, Feeds, FeedPromise}
use Rattle.msc_handler.specs.Ring.{stored, read_out}
use Rattle.msc_state.specs.States.{values_of, whole, due, state_after}
use Rattle.msc_handler.proofs.Frames.{framed_unique}

pub delayed-length : (c : Channel) (ring : List ℤ) → length (delayed c ring) ≡ values_of c.description
unfolding read_out
delayed-length c ring = length-list_of (values_of c.description) _

-- a whole CIF, from what the code leaves
module _ (c : Channel) (b : Buffers) {b₁ : Buffers} (turned : b₁ ≡ rotated c b) where
  pub cif_waits : c.cif_count < 16 → CifPromise c b (gives waiting) b₁
  unfolding Completed
  cif_waits h = subst (λ (d : Bool). Completed d c b (gives waiting) b₁) (sym (lt-leb 16 c.cif_count h)) (refl, turned)

  -- what is lent stays long enough
  pub lent_on : FrameLent c.description b → FrameLent c.description b₁
  lent_on r =
      subst (FrameLent c.description) (sym turned)
      (record {
        none = r.none;
        read_long = omega (arith, r.read_long, length-append (delayed c b.ring) (drop (values_of c.description) b.deinterleaved), delayed-length c b.ring);
        soft_long = r.soft_long;
        words_long = r.words_long;
        bits_long = r.bits_long;
        frame_long = r.frame_long;
      })

  -- the values of what was read before it
  values-are : values_in c.description (rotated c b).deinterleaved ≡ depunctured_of c b.ring
  values-are =
      let n = values_of c.description in
      ap (depuncture (mask (profile_of c.description))) (take_at (delayed c b.ring) (drop n b.deinterleaved) n (delayed-length c b.ring))

  pub cif_frames : {b' : Buffers} {p : Float} → 16 ≤ c.cif_count → FrameMade c.description b₁ p b' → CifPromise c b (gives (framed (3 * c.description.bitrate) p)) b'
  unfolding Completed
  cif_frames {b'} {p} h made =
      let d = c.description in
      let m = subst (λ (q : Buffers). FrameMade d q p b') turned made in
      subst (λ (e : Bool). Completed e c b (gives (framed (3 * d.bitrate) p)) b') (sym (le-leb 16 c.cif_count h))
      (record {
        percent = p;
        words' = b'.words;
        bits' = b'.bits;
        frame' = b'.frame;
        framing = subst (λ (v : List ℤ). Framed (ends_of d.is_eep) d.bitrate v b.words b.bits b.frame p b'.words b'.bits b'.frame) values-are m.framing;
        answer = refl;
        buffers_are = m.buffers_are ∙ ap (λ (v : List ℤ). buffers b.cif (rotated c b).ring (rotated c b).deinterleaved (v ++ drop (depunctured_length d) b.depunctured) b'.words b'.bits b'.frame) values-are;
      })

-- a call, from what the code leaves
module _ (s : State) (soft : List ℤ) (b : Buffers) where
  refused-turn : (k : ℕ) → ◌≡◌ {A = Outcome (Unit {0})} (refuses k) (outcome (refusal_in s soft b) tt) → turn_of s soft b ≡ refuses k
  unfolding turn_of
  refused-turn k e =
      let n = refusal_in s soft b in
      let same : n ≡ k = refused-number n tt k e in
      sym (refused_by n (step_of (whole s)) k (sym same) (λ z. is_refusal n tt k e (same ∙ z)))

  accepted-turn : {w : Bool} → refusal_in s soft b ≡ 0 → whole s ≡ w → turn_of s soft b ≡ gives (step_of w)
  unfolding turn_of
  accepted-turn e f = λ i. outcome (e i) (step_of (f i))

  by_turn : {t : Turn} {r : Fed} {b' : Buffers} → turn_of s soft b ≡ t → Feeds t s soft b r.state (said_of r.answer) b' → FeedPromise s soft b r b'
  by_turn {t} {r} {b'} e f = record { feeds = subst (λ (u : Turn). Feeds u s soft b r.state (said_of r.answer) b') (sym e) f }

  pub feed_refused : (r : Refusal) → ◌≡◌ {A = Outcome (Unit {0})} (refuses (numbered r)) (outcome (refusal_in s soft b) tt) → FeedPromise s soft b (record { state = s; answer = Refused r }) b
  unfolding Feeds
  feed_refused r e = by_turn (refused-turn (numbered r) e) (refl, refl, refl)

  module _ (none : refusal_in s soft b ≡ 0) {s' : State} (moved : s' ≡ state_after s) {cif' : List ℤ} (kept : cif' ≡ stored b.cif s.symbols soft) where
    pub feed_gathers : s.symbols < 17 → FeedPromise s soft b (record { state = s'; answer = Waiting }) (buffers cif' b.ring b.deinterleaved b.depunctured b.words b.bits b.frame)
    unfolding Feeds
    feed_gathers h = by_turn (accepted-turn none (lt-leb 17 s.symbols h)) (moved, refl, λ i. buffers (kept i) b.ring b.deinterleaved b.depunctured b.words b.bits b.frame)

    pub feed_completes : {a : Answer} {b' : Buffers} → 17 ≤ s.symbols
        → CifPromise s.channel (buffers cif' b.ring b.deinterleaved b.depunctured b.words b.bits b.frame) (said_of a) b' → FeedPromise s soft b (record { state = s'; answer = a }) b'
    unfolding Feeds
    feed_completes {a} {b'} h p =
        by_turn (accepted-turn none (le-leb 17 s.symbols h))
        (moved, subst (λ (c : List ℤ). CifPromise s.channel (buffers c b.ring b.deinterleaved b.depunctured b.words b.bits b.frame) (said_of a) b') kept p)

-- and back: what each turn leaves of the state, the CIF store, the ring and what was read
pub record Gathered (s : State) (soft : List ℤ) (b : Buffers) (s' : State) (b' : Buffers) : Type 0 where
  pub moved : s' ≡ state_after s
  pub kept : b'.cif ≡ stored b.cif s.symbols soft
  pub ring_same : b'.ring ≡ b.ring

pub record Finished (s : State) (soft : List ℤ) (b : Buffers) (s' : State) (b' : Buffers) : Type 0 where
  pub moved : s' ≡ state_after s
  pub kept : b'.cif ≡ stored b.cif s.symbols soft
  pub ring_is : b'.ring ≡ (rotated s.channel (gathered s soft b)).ring
  pub read_is : b'.deinterleaved ≡ (rotated s.channel (gathered s soft b)).deinterleaved

completed_stores : (d : Bool) (c : Channel) (b : Buffers) (said : Said) (b' : Buffers) → Completed d c b said b' → (b'.cif ≡ b.cif) × (b'.ring ≡ (rotated c b).ring) × (b'.deinterleaved ≡ (rotated c b).deinterleaved)
unfolding Completed
completed_stores false c b said b' x = (ap (λ (q : Buffers). q.cif) x.1, ap (λ (q : Buffers). q.ring) x.1, ap (λ (q : Buffers). q.deinterleaved) x.1)
completed_stores true c b said b' x = (ap (λ (q : Buffers). q.cif) x.buffers_are, ap (λ (q : Buffers). q.ring) x.buffers_are, ap (λ (q : Buffers). q.deinterleaved) x.buffers_are)

completed_number : (d : Bool) (c : Channel) (b : Buffers) (said : Said) (b' : Buffers) → Completed d c b said b' → number_of said ≡ 0
unfolding Completed
completed_number false c b said b' x = ap number_of x.0
completed_number true c b said b' x = ap number_of x.answer

fed_said : (n : ℕ) (w : Bool) (s : State) (soft : List ℤ) (b : Buffers) (s' : State) (said : Said) (b' : Buffers) → Feeds (outcome n (step_of w)) s soft b s' said b' → number_of said ≡ n
unfolding Feeds
fed_said (suc n) w s soft b s' said b' x = ap number_of x.1
fed_said zero false s soft b s' said b' x = ap number_of x.1
fed_said zero true s soft b s' said b' x = completed_number (due s.channel) s.channel (gathered s soft b) said b' x.1

by_number : {A : Type 0} (n : ℕ) (a : A) → (n ≡ 0 → ⊥) → outcome n a ≡ refuses n
by_number n a h = sym (refused_by n a n refl h)

module _ (s : State) (soft : List ℤ) (b : Buffers) {r : Fed} {b' : Buffers} (p : FeedPromise s soft b r b') where
  in_turn : (t : Turn) → turn_of s soft b ≡ t → Feeds t s soft b r.state (said_of r.answer) b'
  in_turn t e = subst (λ (u : Turn). Feeds u s soft b r.state (said_of r.answer) b') e p.feeds

  pub fed-refuses : (refusal_in s soft b ≡ 0 → ⊥) → (r.state ≡ s) × (b' ≡ b)
  unfolding Feeds turn_of
  fed-refuses h =
      let x = in_turn (refuses (refusal_in s soft b)) (by_number (refusal_in s soft b) (step_of (whole s)) h) in
      (x.0, x.2)

  pub fed-gathers : refusal_in s soft b ≡ 0 → s.symbols < 17 → Gathered s soft b r.state b'
  unfolding Feeds
  fed-gathers none h =
      let x = in_turn (gives gathers) (accepted-turn s soft b none (lt-leb 17 s.symbols h)) in
      record { moved = x.0; kept = ap (λ (q : Buffers). q.cif) x.2; ring_same = ap (λ (q : Buffers). q.ring) x.2 }

  pub fed-completes : refusal_in s soft b ≡ 0 → 17 ≤ s.symbols → Finished s soft b r.state b'
  unfolding Feeds
  fed-completes none h =
      let x = in_turn (gives completes) (accepted-turn s soft b none (le-leb 17 s.symbols h)) in
      let y = completed_stores (due s.channel) s.channel (gathered s soft b) (said_of r.answer) b' x.1 in
      record { moved = x.0; kept = y.0; ring_is = y.1; read_is = y.2 }

  -- the answer's number is that of the first refusal
  pub fed-number : number_of (said_of r.answer) ≡ refusal_in s soft b
  unfolding turn_of
  fed-number = fed_said (refusal_in s soft b) (whole s) s soft b r.state (said_of r.answer) b' p.feeds

-- two answers that say the same are the same
said_unique : (a a₂ : Answer) → said_of a ≡ said_of a₂ → a ≡ a₂
said_unique Waiting Waiting e = refl
said_unique Waiting (Frame n p) e = let z : ◌≡◌ {A = ℕ} 0 1 = cc in absurd (omega arith)
said_unique Waiting (Refused n) e = let z : ◌≡◌ {A = ℕ} 0 1 = cc in absurd (omega arith)
said_unique (Frame m q) Waiting e = let z : ◌≡◌ {A = ℕ} 0 1 = cc in absurd (omega arith)
said_unique (Frame m q) (Frame n p) e =
    let x : m ≡ n = cc in
    let y : q ≡ p = cc in
    ap₂ Frame x y
said_unique (Frame m q) (Refused n) e = let z : ◌≡◌ {A = ℕ} 0 1 = cc in absurd (omega arith)
said_unique (Refused m) Waiting e = let z : ◌≡◌ {A = ℕ} 0 1 = cc in absurd (omega arith)
said_unique (Refused m) (Frame n p) e = let z : ◌≡◌ {A = ℕ} 0 1 = cc in absurd (omega arith)
said_unique (Refused r) (Refused q) e = let x : numbered r ≡ numbered q = cc in ap Refused (numbered_one r q x)

-- one result
pub record SameFed (r r₂ : Fed) (b b₂ : Buffers) : Type 0 where
  pub result-one : r ≡ r₂
  pub buffers-one : b ≡ b₂

same : {r r₂ : Fed} {b b₂ : Buffers} → r.state ≡ r₂.state → said_of r.answer ≡ said_of r₂.answer → b ≡ b₂ → SameFed r r₂ b b₂
same {r} {r₂} e f g = record { result-one = ap₂ (λ (s : State) (a : Answer). record { state = s; answer = a }) e (said_unique r.answer r₂.answer f); buffers-one = g }

-- a whole CIF has one answer and leaves one state of the buffers
pub record SameCif (said said₂ : Said) (b b₂ : Buffers) : Type 0 where
  pub said_one : said ≡ said₂
  pub left_one : b ≡ b₂

pub completed_unique : (d : Bool) (c : Channel) (b : Buffers) {said said₂ : Said} {b' b₂ : Buffers} → Completed d c b said b' → Completed d c b said₂ b₂ → SameCif said said₂ b' b₂
unfolding Completed
completed_unique false c b x y = record { said_one = x.0 ∙ sym y.0; left_one = x.1 ∙ sym y.1 }
completed_unique true c b x y =
    let u = framed_unique x.framing y.framing in
    let rest : List ℤ = depunctured_of c b.ring ++ drop (depunctured_length c.description) b.depunctured in
    record {
      said_one = x.answer ∙ ap (λ (p : Float). gives (framed (3 * c.description.bitrate) p)) u.percent_one ∙ sym y.answer;
      left_one = x.buffers_are ∙ (λ i. buffers (rotated c b).cif (rotated c b).ring (rotated c b).deinterleaved rest (u.words-one i) (u.bits-one i) (u.frame-one i)) ∙ sym y.buffers_are;
    }

turn_unique : (t : Turn) (s : State) (soft : List ℤ) (b : Buffers) {r r₂ : Fed} {b' b₂ : Buffers} → Feeds t s soft b r.state (said_of r.answer) b' → Feeds t s soft b r₂.state (said_of r₂.answer) b₂ → SameFed r r₂ b' b₂
unfolding Feeds
turn_unique (refuses k) s soft b x y = same (x.0 ∙ sym y.0) (x.1 ∙ sym y.1) (x.2 ∙ sym y.2)
turn_unique (gives gathers) s soft b x y = same (x.0 ∙ sym y.0) (x.1 ∙ sym y.1) (x.2 ∙ sym y.2)
turn_unique (gives completes) s soft b x y =
    let u = completed_unique (due s.channel) s.channel (gathered s soft b) x.1 y.1 in
    same (x.0 ∙ sym y.0) u.said_one u.left_one

pub fed_unique : {s : State} {soft : List ℤ} {b : Buffers} {r r₂ : Fed} {b' b₂ : Buffers} → FeedPromise s soft b r b' → FeedPromise s soft b r₂ b₂ → SameFed r r₂ b' b₂
fed_unique {s} {soft} {b} p q = turn_unique (turn_of s soft b) s soft b p.feeds q.feeds
