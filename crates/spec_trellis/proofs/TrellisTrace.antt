-- The trace back: the path that the words of the choices give, read backwards from its end, is the survivor.
-- Assumes nothing.
use mathlib.Core.Path.{◌≡◌, refl, sym, ap, ap₂, ◌∙◌}
use mathlib.Core.Bool.{Bool, true, false}
use mathlib.Core.List.{List, [], ◌∷◌, ◌++◌, map, reverse, append_assoc, reverse_aux-eq}
use Prim.Native.Nat.{ℕ, zero, suc, ◌+◌, ◌*◌, ◌/◌, ◌%◌, ◌^◌, ◌<◌}
use native.Mathlib.Omega.{arith}
use lib.ListN.{length, get_or, set, drop}
use lib.Seq.{drop-cons, lt-length-set, get_or-set_same, drop-set-lt}
use lib.IntN.{ℤ}
use Rattle.laws.specs.Words.{pick_n, word_of}
use Rattle.laws.proofs.Words.{word_bit}
use Rattle.spec_trellis.specs.Trellis.{bit_n, end_of, BestInto, SamePath, is_odd}
use Rattle.spec_trellis.specs.Program.{takes_at, pred_of, start_into, bits_into, came_from, traced}
use Rattle.spec_trellis.proofs.Trellis.{odd_is}
use Rattle.spec_trellis.proofs.TrellisOrder.{into_unique}
use Rattle.spec_trellis.proofs.TrellisProgram.{pred_lt, into-best, into_end}

pub traced_next : (words : List ℕ) (k t : ℕ) → traced words (suc k) t ≡ traced words k (came_from words k t) ++ (t % 2 ∷ [])
unfolding traced
traced_next words k t = refl

pub traced-zero : (words : List ℕ) (t : ℕ) → traced words 0 t ≡ []
unfolding traced
traced-zero words t = refl

-- one turn of a loop that writes the bits from the last to the first
pub turn : (words bits all : List ℕ) (k t : ℕ) → k < length bits → all ≡ traced words (suc k) t ++ drop (suc k) bits → all ≡ traced words k (came_from words k t) ++ drop k (set bits k (t % 2))
turn words bits all k t h e =
    e ∙ ap (λ (l : List ℕ). l ++ drop (suc k) bits) (traced_next words k t)
    ∙ append_assoc (traced words k (came_from words k t)) (t % 2 ∷ []) (drop (suc k) bits)
    ∙ ap (λ (l : List ℕ). traced words k (came_from words k t) ++ l) (sym here)
  where
    here : drop k (set bits k (t % 2)) ≡ t % 2 ∷ drop (suc k) bits
    here =
        drop-cons (set bits k (t % 2)) k 0 (lt-length-set bits k (t % 2) h)
        ∙ ap₂ (λ (a : ℕ) (l : List ℕ). a ∷ l) (get_or-set_same bits k (t % 2) 0 h) (drop-set-lt (suc k) bits k (t % 2) (omega arith))

pub pred_same : (xs : List ℤ) (words : List ℕ) (k t : ℕ) → t < 64 → get_or words k 0 ≡ word_of (takes_at xs k) 64 → came_from words k t ≡ pred_of xs k t
unfolding came_from pred_of
pred_same xs words k t h e =
    ap (λ (b : ℕ). t / 2 + 32 * b) (ap (λ (w : ℕ). w / 2 ^ t % 2) e ∙ word_bit (takes_at xs k) 64 t h) ∙ go (takes_at xs k t)
  where
    go : (b : Bool) → t / 2 + 32 * pick_n b 1 0 ≡ pick_n b (t / 2 + 32) (t / 2)
    go true = omega arith
    go false = omega arith

-- with the words of the forward pass it is the survivor
pub traced-is : (xs : List ℤ) (words : List ℕ) (n t : ℕ) → t < 64 → ((k : ℕ) → k < n → get_or words k 0 ≡ word_of (takes_at xs k) 64) → traced words n t ≡ reverse (map bit_n (bits_into xs n t))
unfolding traced bits_into
traced-is xs words n t h w = sym (go n t h w)
  where
    go : (n t : ℕ) → t < 64 → ((k : ℕ) → k < n → get_or words k 0 ≡ word_of (takes_at xs k) 64) → reverse (map bit_n (bits_into xs n t)) ≡ traced words n t
    go zero t h w = refl
    go (suc k) t h w =
        reverse_aux-eq (map bit_n (bits_into xs k (pred_of xs k t))) (bit_n (is_odd (t % 2)) ∷ [])
        ∙ ap₂ (λ (l : List ℕ) (b : ℕ). l ++ (b ∷ []))
        (go k (pred_of xs k t) (pred_lt xs k t h) (λ j l. w j (omega arith)) ∙ ap (traced words k) (sym (pred_same xs words k t h (w k (omega arith)))))
        (odd_is (t % 2) (omega arith))

-- the best path into s after t + 1 steps comes from the predecessor that bit s of word t names
pub took : {xs : List ℤ} (words : List ℕ) {t s a : ℕ} {b : Bool} {bs : List Bool} → s < 64 → get_or words t 0 ≡ word_of (takes_at xs t) 64 → BestInto xs (suc t) s a (b ∷ bs) → end_of a bs ≡ s / 2 + 32 * (get_or words t 0 / 2 ^ s % 2)
unfolding came_from bits_into start_into
took {xs} words {t} {s} {a} {b} {bs} h w f =
    let one : SamePath a (b ∷ bs) (start_into xs (suc t) s) (bits_into xs (suc t) s) = into_unique f (into-best xs (suc t) s h) in
    ap₂ end_of one.start_is (ap tail one.bits_are)
    ∙ into_end xs t (pred_of xs t s) (pred_lt xs t s h)
    ∙ sym (pred_same xs words t s h w)
  where
    tail : List Bool → List Bool
    tail [] = []
    tail (x ∷ l) = l
