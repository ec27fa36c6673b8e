-- What document 01 asks to be shown of the trellis, claim by claim: each name here is proved in proofs/.
use Rattle.std.specs.Prelude.{◌≡◌, Bool, List, [], ◌∷◌, ◌++◌, map, reverse, ◌⊎◌, ℕ, suc, ◌+◌, ◌-◌, ◌^◌, ◌<◌, ◌≤◌, length, get_or, ℤ, pos, neg_ℤ, nat_abs, ◌+ℤ◌, ◌-ℤ◌, ◌<ℤ◌}
use Rattle.std.specs.Int.{w32}
use Rattle.std.proofs.Common.{SFits}
use Rattle.laws.specs.Bits.{AreBits}
use Rattle.spec_en300401.specs.MotherCode.{code_bit, code_word}
use Rattle.spec_en300401.specs.Puncturing.{depuncture}
use Rattle.spec_trellis.specs.Trellis.{bit_n, out_bit, Softs, branch, end_of, score_of, Wins, SamePath, Ends, Best, NoneAbove, BestInto, Subtracted}
use Rattle.spec_trellis.specs.Clean.{six_zeros, sent_path, CleanWord}

-- ---- the order of paths

-- of two paths of one length one does not lose to the other (proof: wins-total)
abbrev pub OrderTotal : Type 0
OrderTotal = (xs : List ℤ) (s : ℕ) (bs : List Bool) (s' : ℕ) (bs' : List Bool) → length bs ≡ length bs' → Wins xs s bs s' bs' ⊎ Wins xs s' bs' s bs

-- and two that do not lose to each other are one (wins_antisym)
abbrev pub OrderStrict : Type 0
OrderStrict = (xs : List ℤ) (s : ℕ) (bs : List Bool) (s' : ℕ) (bs' : List Bool) → Wins xs s bs s' bs' → Wins xs s' bs' s bs → SamePath s bs s' bs'

-- so the best permitted path is one (path_unique)
abbrev pub BestUnique : Type 0
BestUnique = (xs : List ℤ) (n : ℕ) (ends : Ends) (s : ℕ) (bs : List Bool) (s' : ℕ) (bs' : List Bool) → Best xs n ends s bs → Best xs n ends s' bs' → SamePath s bs s' bs'

-- demand 3: no permitted path scores above the best one (best-most)
abbrev pub BestIsMost : Type 0
BestIsMost = (xs : List ℤ) (n : ℕ) (ends : Ends) (s : ℕ) (bs : List Bool) → Best xs n ends s bs → NoneAbove xs n ends (score_of xs s bs)

-- ---- the trellis is the mother code of clause 11.1.1

-- the bits that a path spells, the oldest first, zero beyond
unfoldable pub spelt : List Bool → ℕ → ℕ
spelt bs i = get_or (reverse (map bit_n bs)) i 0

-- output g of the step that appends bit b to a path from state 0 is bit x_g of the clause (path_output)
abbrev pub OutputIsCodeBit : Type 0
OutputIsCodeBit = (b : Bool) (bs : List Bool) (g : ℕ) → g < 4 → out_bit (end_of 0 bs) (bit_n b) g ≡ code_bit (spelt (b ∷ bs)) g (length bs)

-- the outputs along a path, those of the oldest step first
unfoldable pub outputs_of : ℕ → List Bool → List ℕ
outputs_of s [] = []
outputs_of s (b ∷ bs) = outputs_of s bs ++ (out_bit (end_of s bs) (bit_n b) 0 ∷ out_bit (end_of s bs) (bit_n b) 1 ∷ out_bit (end_of s bs) (bit_n b) 2 ∷ out_bit (end_of s bs) (bit_n b) 3 ∷ [])

-- walked from state 0, a message and its six zeros give the message's code word (path_word)
abbrev pub PathIsCodeWord : Type 0
PathIsCodeWord = (m : List ℕ) → AreBits m → outputs_of 0 (sent_path m) ≡ code_word m

-- ---- no metric overflows, and every state is reachable

-- whatever path is the best into a state, its score less the total subtracted is within 100,000 (metric-within)
abbrev pub NoOverflow : Type 0
NoOverflow = (xs : List ℤ) (n : ℕ) (d : ℤ) (e s : ℕ) (bs : List Bool) → Softs xs n → Subtracted xs n d → e < 64 → BestInto xs n e s bs → nat_abs (score_of xs s bs -ℤ d) ≤ 100000

-- and with one step more within 100,512: a candidate (candidate_within)
abbrev pub NoCandidateOverflow : Type 0
NoCandidateOverflow =
    (xs : List ℤ) (n : ℕ) (d : ℤ) (e s : ℕ) (bs : List Bool) (b : Bool) → Softs xs (suc n) → Subtracted xs n d → e < 64 → BestInto xs n e s bs → nat_abs ((score_of xs s bs -ℤ d) +ℤ branch xs n e (bit_n b)) ≤ 100512

-- below this the Rust takes a state for unreachable: i32::MIN / 2 + 1000
abbrev pub unreachable : ℤ
unreachable = neg_ℤ (pos (2 ^ 30 - 1000))

-- state e after n steps: a path leads there, and the metric of the best one fits an i32 and lies above the bound
pub record Reached (xs : List ℤ) (n : ℕ) (d : ℤ) (e : ℕ) : Type 0 where
  pub start : ℕ
  pub path : List Bool
  pub best : BestInto xs n e start path
  pub within : nat_abs (score_of xs start path -ℤ d) ≤ 100000
  pub fits : SFits w32 (score_of xs start path -ℤ d)
  pub above : unreachable <ℤ (score_of xs start path -ℤ d)

-- all 64 states are reachable at once, and stay so: the Rust's test for unreachable states never fires (all_reached)
abbrev pub AllReachable : Type 0
AllReachable = (xs : List ℤ) (n : ℕ) (d : ℤ) → Softs xs n → Subtracted xs n d → (e : ℕ) → e < 64 → Reached xs n d e

-- ---- a clean word decodes to itself

-- whatever path is best, at either end, its bits are the message's and six zeros (clean_decodes)
abbrev pub CleanIsDecoded : Type 0
CleanIsDecoded = (m : List ℕ) (ks : List Bool) (vs : List ℤ) (ends : Ends) (s : ℕ) (bs : List Bool) → CleanWord m ks vs → Best (depuncture ks vs) (length m + 6) ends s bs → reverse (map bit_n bs) ≡ m ++ six_zeros
