use Rattle.std.proofs.Common.{◌≡◌, ℕ, zero, suc, ◌<◌, pos, negsuc, get_or, ◌∷◌, refl, arith, replicate}
use Rattle.std.proofs.lemmas.List.{get_or-replicate}
use Rattle.spec_trellis.specs.Trellis.{start_score}
use Rattle.fec_viterbi.proofs.start.Goals as goal

at_start : (t : ℕ) → t < 64 → get_or (pos 0 ∷ replicate 63 (negsuc 62)) t (pos 0) ≡ start_score t
unfolding start_score
at_start zero h = refl
at_start (suc t) h = get_or-replicate 63 t (negsuc 62) (pos 0) (omega arith)

pub returns : goal.returns
returns c = at_start
