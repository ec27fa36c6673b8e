-- Document 01, "The numbers that turn a caller away": an answer is what was asked for, or the number of the first refusal in its order.
use Rattle.std.specs.Prelude.{Bool, true, false, cond, List, [], ◌∷◌, ℕ, zero, suc, Result, Ok, Err}
use Rattle.refusal.specs.declared.Refusal.{Refusal}
use Rattle.refusal.specs.declared.Refusal.TheVariants.{NoSuchOption, NoSuchLevel, RateTooLow, NoProfile, SizeDiffers, UnevenRate, BeyondCif, ShortBuffer, ShortSymbol, BadState, LongInput, ShortDirectory}

-- what an answer says
pub data Outcome {ℓ} (A : Type ℓ) : Type ℓ where
  gives : A → Outcome A
  refuses : ℕ → Outcome A

module _ {ℓ} {A : Type ℓ} where
  -- refusal n, or the answer a where n is 0, which stands for no refusal
  abbrev pub outcome : ℕ → A → Outcome A
  outcome zero a = gives a
  outcome (suc n) a = refuses (suc n)

  -- the first where n is no refusal, the second where it is one
  abbrev pub unless_refused : ℕ → A → A → A
  unless_refused zero a b = a
  unless_refused (suc n) a b = b

  -- its number, 0 where it is no refusal
  abbrev pub number_of : Outcome A → ℕ
  number_of (gives a) = 0
  number_of (refuses n) = n

-- the number of each refusal: 1 to 11 of document 01, 12 of document 02
abbrev pub numbered : Refusal → ℕ
numbered NoSuchOption = 1
numbered NoSuchLevel = 2
numbered RateTooLow = 3
numbered NoProfile = 4
numbered SizeDiffers = 5
numbered UnevenRate = 6
numbered BeyondCif = 7
numbered ShortBuffer = 8
numbered ShortSymbol = 9
numbered BadState = 10
numbered LongInput = 11
numbered ShortDirectory = 12

-- what an answer of the code says: what was asked for, or the number of its refusal
abbrev pub told : {A : Type 0} → Result A Refusal → Outcome A
told (Ok a) = gives a
told (Err r) = refuses (numbered r)

-- refusal n where its condition holds
abbrev pub check : ℕ → Bool → ℕ
check n holds = cond holds n 0

-- one refusal, or else another
abbrev pub or_else : ℕ → ℕ → ℕ
or_else zero m = m
or_else (suc n) m = suc n

-- the first refusal of some, 0 where there is none
abbrev pub first_of : List ℕ → ℕ
first_of [] = 0
first_of (n ∷ ns) = or_else n (first_of ns)

-- some flag of a list holds: the condition of a refusal that several things can earn
abbrev pub any_of : List Bool → Bool
any_of [] = false
any_of (true ∷ bs) = true
any_of (false ∷ bs) = any_of bs
