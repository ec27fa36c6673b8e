-- Document 01, "viterbi.rs": the trellis of the mother code, its paths and their scores, and which of two paths wins.
use Rattle.std.specs.Prelude.{◌≡◌, Bool, true, false, List, [], ◌∷◌, ◌⊎◌, ℕ, zero, suc, ◌+◌, ◌*◌, ◌%◌, ◌<◌, ◌≤◌, length, get_or, ℤ, pos, negsuc, neg_ℤ, nat_abs, ◌+ℤ◌, ◌-ℤ◌, ◌≤ℤ◌, ◌<ℤ◌}
use Rattle.std.specs.Int.Bits.{bit_and}
use Rattle.std.specs.Int.Count.{ones}
use Rattle.laws.specs.Integers.{at}
use Rattle.laws.specs.Words.{pick_n}

-- the standard's 133, 171, 145, 133 octal mirrored, since the newest bit is lowest here
abbrev pub masks : List ℕ
masks = 0o155 ∷ 0o117 ∷ 0o123 ∷ 0o155 ∷ []

abbrev pub bit_n : Bool → ℕ
bit_n b = pick_n b 1 0

-- a number's bit, as a path has it
abbrev pub is_odd : ℕ → Bool
is_odd zero = false
is_odd (suc n) = true

-- from state s with input b: the register, 7 bits, and the next state, its low six
abbrev pub register : ℕ → ℕ → ℕ
register s b = 2 * s + b

unfoldable pub next_state : ℕ → ℕ → ℕ
next_state s b = register s b % 64

-- the number of ones of register and mask, modulo two
unfoldable pub parity : ℕ → ℕ → ℕ
parity r mask = ones (bit_and r mask) % 2

-- output g: the parity of the register and mask g
unfoldable pub out_bit : ℕ → ℕ → ℕ → ℕ
out_bit s b g = parity (register s b) (get_or masks g 0)

-- a soft value times +1 where the output is 1 and -1 where it is 0
unfoldable pub sign_by : ℕ → ℤ → ℤ
sign_by zero v = neg_ℤ v
sign_by (suc n) v = v

-- soft value g of step k
abbrev pub soft : List ℤ → ℕ → ℕ → ℤ
soft xs k g = at xs (4 * k + g)

-- each soft value of the first n steps is at most 128 in size: an i8
abbrev pub Softs : List ℤ → ℕ → Type 0
Softs xs n = (i : ℕ) → i < 4 * n → nat_abs (at xs i) ≤ 128

-- what step k adds to the score of a path that leaves state s with input b
unfoldable pub branch : List ℤ → ℕ → ℕ → ℕ → ℤ
branch xs k s b =
    sign_by (out_bit s b 0) (soft xs k 0) +ℤ sign_by (out_bit s b 1) (soft xs k 1) +ℤ sign_by (out_bit s b 2) (soft xs k 2) +ℤ sign_by (out_bit s b 3) (soft xs k 3)

-- a path is its start state and its bits, the newest first: the state that it ends in
unfoldable pub end_of : ℕ → List Bool → ℕ
end_of s [] = s
end_of s (b ∷ bs) = next_state (end_of s bs) (bit_n b)

-- 0 from state 0, else -63
unfoldable pub start_score : ℕ → ℤ
start_score zero = pos 0
start_score (suc n) = negsuc 62

unfoldable pub score_of : List ℤ → ℕ → List Bool → ℤ
score_of xs s [] = start_score s
score_of xs s (b ∷ bs) = score_of xs s bs +ℤ branch xs (length bs) (end_of s bs) (bit_n b)

-- of two paths of one length into one state: read backwards, the first has the lower state where they first differ, or they are the same
unfoldable pub FirstLower : ℕ → List Bool → ℕ → List Bool → Type 0
FirstLower s [] s' [] = s ≡ s'
FirstLower s [] s' (b' ∷ bs') = ⊥
FirstLower s (b ∷ bs) s' [] = ⊥
FirstLower s (b ∷ bs) s' (b' ∷ bs') = (end_of s bs < end_of s' bs') ⊎ ((end_of s bs ≡ end_of s' bs') × FirstLower s bs s' bs')

-- the first path does not lose to the second: by score, then by end state, then read backwards
unfoldable pub Wins : List ℤ → ℕ → List Bool → ℕ → List Bool → Type 0
Wins xs s bs s' bs' =
    (score_of xs s' bs' <ℤ score_of xs s bs)
    ⊎ ((score_of xs s' bs' ≡ score_of xs s bs) × ((end_of s bs < end_of s' bs') ⊎ ((end_of s bs ≡ end_of s' bs') × FirstLower s bs s' bs')))

-- one path: the same start and the same bits
pub record SamePath (s : ℕ) (bs : List Bool) (s' : ℕ) (bs' : List Bool) : Type 0 where
  pub start_is : s ≡ s'
  pub bits_are : bs ≡ bs'

-- the ends that a decoder permits: state 0, or every one
pub data Ends : Type 0 where
  zero_end free_end : Ends

unfoldable pub Permits : Ends → ℕ → Type 0
Permits zero_end e = e ≡ 0
Permits free_end e = Unit {0}

-- the path of n steps that every other permitted path loses to
pub record Best (xs : List ℤ) (n : ℕ) (ends : Ends) (start : ℕ) (path : List Bool) : Type 0 where
  pub start_lt : start < 64
  pub long : length path ≡ n
  pub permitted : Permits ends (end_of start path)
  pub wins : (s : ℕ) → s < 64 → (bs : List Bool) → length bs ≡ n → Permits ends (end_of s bs) → Wins xs start path s bs

-- no permitted path of n steps scores above z
unfoldable pub NoneAbove : List ℤ → ℕ → Ends → ℤ → Type 0
NoneAbove xs n ends z = (s : ℕ) → s < 64 → (bs : List Bool) → length bs ≡ n → Permits ends (end_of s bs) → score_of xs s bs ≤ℤ z

-- a path of n steps into state e that every other path into e loses to
pub record BestInto (xs : List ℤ) (n e start : ℕ) (path : List Bool) : Type 0 where
  pub start_lt : start < 64
  pub long : length path ≡ n
  pub into : end_of start path ≡ e
  pub wins : (s : ℕ) → s < 64 → (bs : List Bool) → length bs ≡ n → end_of s bs ≡ e → Wins xs start path s bs

-- b is the best score of any path of n steps
pub record Top (xs : List ℤ) (n : ℕ) (b : ℤ) : Type 0 where
  pub start : ℕ
  pub path : List Bool
  pub start_lt : start < 64
  pub long : length path ≡ n
  pub scores : score_of xs start path ≡ b
  pub most : (s : ℕ) → s < 64 → (bs : List Bool) → length bs ≡ n → score_of xs s bs ≤ℤ b

-- the total subtracted after n steps: it becomes the best score B(t) where B(t) less what it was exceeds 100,000, and stays as it was otherwise
pub data Subtracted (xs : List ℤ) : ℕ → ℤ → Type 0 where
  none : Subtracted xs zero (pos 0)
  kept : {n : ℕ} {d : ℤ} (b : ℤ) → Subtracted xs n d → Top xs (suc n) b → (b -ℤ d) ≤ℤ pos 100000 → Subtracted xs (suc n) d
  renewed : {n : ℕ} {d : ℤ} (b : ℤ) → Subtracted xs n d → Top xs (suc n) b → pos 100000 <ℤ (b -ℤ d) → Subtracted xs (suc n) b
