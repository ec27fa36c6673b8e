-- From the last sixteen slices of one sub-channel, as a ring has them, to its frame.
-- Assumes nothing.
use mathlib.Core.Path.{◌≡◌, sym, ap, ◌∙◌, subst}
use mathlib.Core.Bool.{Bool}
use mathlib.Core.List.{List, ◌++◌}
use Prim.Native.Nat.{ℕ, ◌+◌, ◌*◌, ◌/◌, ◌<◌, ◌≤◌}
use native.Mathlib.Omega.{arith}
use borrow.Author.Tests.{le-leb}
use lib.ListN.{length, get_or, take, drop}
use lib.Seq.{ext_get_or, length-take-le}
use lib.IntN.{ℤ, pos}
use lib.Ieee.{Float}
use Rattle.laws.specs.Integers.{at}
use Rattle.spec_en300401.specs.Bytes.{bytes_of_bits}
use Rattle.spec_trellis.specs.Clean.{Agrees}
use Rattle.spec_en300401.specs.Interleaving.{delay}
use Rattle.spec_en300401.specs.Puncturing.{mask, depuncture}
use Rattle.spec_trellis.specs.Trellis.{Ends}
use Rattle.spec_en300401.proofs.Bytes.{bytes-length}
use Rattle.spec_en300401.proofs.Dispersal.{disperse-length}
use Rattle.fec_protection.specs.declared.Description.{Description}
use Rattle.fec_protection.specs.Refusals.{profile_of, Accepted}
use Rattle.fec_protection.proofs.Accepted.{kept-fits}
use Rattle.refusal.specs.Outcome.{gives}
use Rattle.fec_quality.specs.Figures.{sum_abs, percent_of}
use Rattle.fec_viterbi.specs.Decoders.{ends_of}
use Rattle.fec_viterbi.proofs.Result.{bits-one, metric-one, decoded-length}
use Rattle.msc_handler.specs.declared.Fed.{Fed}
use Rattle.msc_state.specs.declared.Channel.{Channel}
use Rattle.msc_state.specs.declared.State.{State}
use Rattle.msc_handler.specs.Frames.{frame_bits, Framed}
use Rattle.msc_handler.specs.Promises.{Said, framed, said_of, Buffers, delayed, Completed, CifPromise}
use Rattle.msc_state.specs.States.{values_of, state_after}
use Rattle.msc_handler.proofs.Feeding.{delayed-length}
use Rattle.spec_sender.specs.Coding.{sent}
use Rattle.spec_sender.specs.Msc.{Sender, IsFrame, sent_bit}
use Rattle.spec_sender.proofs.Msc.{sent_in_lem}
use Rattle.thm_msc.specs.Heard.{kept_of}
use Rattle.thm_msc.specs.Answers.{Yields}
use Rattle.thm_msc.proofs.Frames.{frame_back}

-- a channel whose ring has these values in its last sixteen slices, by slice and place: value i is to be read of slice delay i
pub record Reads (d : Description) (c : Channel) (ring : List ℤ) (own : ℕ → ℕ → ℤ) : Type 0 where
  pub description : c.description ≡ d
  pub count : 16 ≤ c.cif_count
  pub read : (i : ℕ) → i < values_of d → at (delayed c ring) i ≡ own (delay i) i

-- a frame of these values was answered and written: what the promise of a whole CIF then says of the answer and the frame buffer
pub record GaveFrame (d : Description) (values : List ℤ) (said : Said) (frame frame' : List ℕ) : Type 0 where
  pub percent : Float
  pub words : List ℕ
  pub bits : List ℕ
  pub words' : List ℕ
  pub bits' : List ℕ
  pub framing : Framed (ends_of d.is_eep) d.bitrate (depuncture (mask (profile_of d)) values) words bits frame percent words' bits' frame'
  pub answer : said ≡ gives (framed (3 * d.bitrate) percent)

pub given : {d : Description} {c : Channel} (b : Buffers) {own : ℕ → ℕ → ℤ} {said : Said} (b' : Buffers) → Reads d c b.ring own → CifPromise c b said b' → GaveFrame d (delayed c b.ring) said b.frame b'.frame
unfolding Completed
given {d} {c} b {own} {said} b' h p =
    let f = subst (λ (t : Bool). Completed t c b said b') (le-leb 16 c.cif_count h.count) p in
    let g : GaveFrame c.description (delayed c b.ring) said b.frame b'.frame =
    record {
      percent = f.percent;
      words = b.words;
      bits = b.bits;
      words' = f.words';
      bits' = f.bits';
      framing = subst (Framed (ends_of c.description.is_eep) c.description.bitrate (depuncture (mask (profile_of c.description)) (delayed c b.ring)) b.words b.bits b.frame f.percent f.words' f.bits') (sym (ap (λ (q : Buffers). q.frame) f.buffers_are)) f.framing;
      answer = f.answer;
    } in
    subst (λ (e : Description). GaveFrame e (delayed c b.ring) said b.frame b'.frame) h.description g

-- a frame that a call yields
pub yields : {d : Description} {bytes : List ℕ} {s : State} {frame : List ℕ} {r : Fed} {frame' : List ℕ} {values : List ℤ} → GaveFrame d values (said_of r.answer) frame frame' → frame' ≡ bytes ++ drop (3 * d.bitrate) frame → r.state ≡ state_after s
    → Yields d bytes (record { state = s; frame = frame; fed = r; frame' = frame' })
yields g w m = record { percent = g.percent; answer = g.answer; written = w; moved = m }

-- the next whole CIF, whatever it holds, gives the frame whose sending began with the first of the sixteen
pub slices_to_frame : (d : Description) → Accepted d → (s : Sender) (r : ℕ) → IsFrame d (s.frames r) → {c : Channel} {ring : List ℤ} {own : ℕ → ℕ → ℤ} → Reads d c ring own
    → ((i : ℕ) → i < kept_of d → Agrees (own (delay i) i) (sent_bit d s (r + delay i) i)) → {said : Said} {old new : List ℕ} → GaveFrame d (delayed c ring) said old new → new ≡ s.frames r ++ drop (3 * d.bitrate) old
slices_to_frame d ok s r frame {c} {ring} {own} h agree g = frame_back d ok frame (delayed c ring) values g.framing
  where
    values : (i : ℕ) → i < kept_of d → Agrees (at (delayed c ring) i) (get_or (sent (profile_of d) (s.frames r)) i 0)
    values i l =
        subst (Agrees (at (delayed c ring) i)) (sent_in_lem d ok s r frame i l)
        (subst (λ (v : ℤ). Agrees v (sent_bit d s (r + delay i) i)) (sym (h.read i (omega (arith, kept-fits d ok)))) (agree i l))

-- the bytes of the decoded bits are as many as a frame has
pub bytes-long : {ends : Ends} {rate : ℕ} {soft : List ℤ} {words bits frame : List ℕ} {percent : Float} {words' bits' frame' : List ℕ} (f : Framed ends rate soft words bits frame percent words' bits' frame') → length (bytes_of_bits (frame_bits rate f.decoded)) ≡ 3 * rate
bytes-long {rate = rate} f =
    let long = length-take-le (24 * rate) f.decoded (omega (arith, decoded-length f.decodes)) in
    bytes-length (frame_bits rate f.decoded) ∙ ap (λ (n : ℕ). n / 8) (disperse-length (take (24 * rate) f.decoded) ∙ long) ∙ omega arith

-- one frame of one percentage
pub record OneFrame (d : Description) (said said₂ : Said) (old new old₂ new₂ : List ℕ) : Type 0 where
  pub bytes : List ℕ
  pub size : length bytes ≡ 3 * d.bitrate
  pub first : new ≡ bytes ++ drop (3 * d.bitrate) old
  pub second : new₂ ≡ bytes ++ drop (3 * d.bitrate) old₂
  pub said_one : said ≡ said₂

-- the sixteen slices alone decide, clean or not
pub slices_decide : {d : Description} {c c₂ : Channel} {ring ring₂ : List ℤ} {own own₂ : ℕ → ℕ → ℤ} {said said₂ : Said} {old new old₂ new₂ : List ℕ} → Reads d c ring own → Reads d c₂ ring₂ own₂
    → ((i : ℕ) → i < values_of d → own (delay i) i ≡ own₂ (delay i) i) → GaveFrame d (delayed c ring) said old new → GaveFrame d (delayed c₂ ring₂) said₂ old₂ new₂ → OneFrame d said said₂ old new old₂ new₂
slices_decide {d} {c} {c₂} {ring} {ring₂} {old₂ = old₂} {new₂ = new₂} h h₂ alike g k =
    let soft : List ℤ → List ℤ = depuncture (mask (profile_of d)) in
    let f = subst (λ (v : List ℤ). Framed (ends_of d.is_eep) d.bitrate (soft v) k.words k.bits old₂ k.percent k.words' k.bits' new₂) (sym same) k.framing in
    let e = g.framing in
    record {
      bytes = bytes_of_bits (frame_bits d.bitrate e.decoded);
      size = bytes-long e;
      first = e.frame_is;
      second = f.frame_is ∙ ap (λ (bits : List ℕ). bytes_of_bits (frame_bits d.bitrate bits) ++ drop (3 * d.bitrate) old₂) (sym (bits-one e.decodes f.decodes));
      said_one = g.answer ∙ ap (λ (p : Float). gives (framed (3 * d.bitrate) p)) (e.percent_is ∙ ap (λ (m : ℤ). percent_of m (sum_abs (soft (delayed c ring)))) (metric-one e.decodes f.decodes) ∙ sym f.percent_is) ∙ sym k.answer;
    }
  where
    long : (c : Channel) (ring : List ℤ) → c.description ≡ d → length (delayed c ring) ≡ values_of d
    long c ring e = delayed-length c ring ∙ ap values_of e

    same : delayed c ring ≡ delayed c₂ ring₂
    same =
        ext_get_or (pos 0) (delayed c ring) (delayed c₂ ring₂) (long c ring h.description ∙ sym (long c₂ ring₂ h₂.description))
        (λ i l. let m : i < values_of d = subst (λ (n : ℕ). i < n) (long c ring h.description) l in h.read i m ∙ alike i m ∙ sym (h₂.read i m))
