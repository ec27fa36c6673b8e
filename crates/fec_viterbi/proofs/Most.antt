-- What a decoder accepts are the bits of a permitted path that no permitted path outscores.
-- Assumes nothing.
use mathlib.Core.Path.{◌≡◌, ap, ◌∙◌}
use mathlib.Core.List.{List, map, reverse}
use Prim.Native.Nat.{ℕ}
use lib.ListN.{length, take, drop, length-map, length-reverse}
use lib.Seq.{take_at}
use lib.IntN.{ℤ}
use Rattle.spec_trellis.specs.Trellis.{bit_n, Ends}
use Rattle.spec_trellis.proofs.TrellisOrder.{best-most}
use Rattle.refusal.proofs.Laws.{done_of}
use Rattle.fec_viterbi.specs.Decoders.{steps, decoder_refusal, Accepted, Untouched}
use Rattle.fec_viterbi.specs.Theorems.{MostLikely, DecodedIsMost}

pub accepted-most : {ends : Ends} {xs : List ℤ} {n : ℕ} {words bits : List ℕ} {m : ℤ} {words' bits' : List ℕ} → Accepted ends xs n words bits m words' bits' → MostLikely ends xs n (take n bits')
accepted-most {ends} {xs} {n} {words} {bits} a =
    let front : List ℕ = reverse (map bit_n a.path) in
    let long : length front ≡ n = length-reverse (map bit_n a.path) ∙ length-map a.path bit_n ∙ a.best.long in
    record {
      start = a.start;
      path = a.path;
      start_lt = a.best.start_lt;
      long = a.best.long;
      permitted = a.best.permitted;
      bits_are = ap (take n) a.bits_are ∙ take_at front (drop n bits) n long;
      most = best-most xs n ends a.start a.path a.best;
    }

-- for both decoders: what stands at the front of the bits after an accepted call
pub decoded-most : DecodedIsMost
decoded-most ends xs words bits r words' bits' z d =
    accepted-most (done_of (Accepted ends xs (steps xs) words bits d.metric words' bits') (Untouched words bits words' bits') (decoder_refusal (steps xs) (length words) (length bits)) z d.buffers_are)
