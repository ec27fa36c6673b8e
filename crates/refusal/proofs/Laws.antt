-- Laws of refusals and outcomes.
-- Assumes nothing.
use mathlib.Core.Path.{◌≡◌, refl, ap, ◌∙◌}
use mathlib.Core.List.{List, [], ◌∷◌, ◌++◌}
use Prim.Native.Nat.{ℕ, zero, suc}
use native.Mathlib.Omega.{arith}
use Rattle.refusal.specs.Outcome.{gives, refuses, outcome, unless_refused, or_else, first_of}

pub or_else-zero : (n : ℕ) → or_else n 0 ≡ n
or_else-zero zero = refl
or_else-zero (suc n) = refl

-- where the first is none, the other decides
pub or_other : (n m : ℕ) → n ≡ 0 → or_else n m ≡ m
or_other n m z = ap (λ (k : ℕ). or_else k m) z

-- the first of two lists of refusals
pub first-append : (xs ys : List ℕ) → first_of (xs ++ ys) ≡ or_else (first_of xs) (first_of ys)
first-append [] ys = refl
first-append (x ∷ xs) ys = ap (or_else x) (first-append xs ys) ∙ or_else_sym x
  where
    or_else_sym : (n : ℕ) → or_else n (or_else (first_of xs) (first_of ys)) ≡ or_else (or_else n (first_of xs)) (first_of ys)
    or_else_sym zero = refl
    or_else_sym (suc n) = refl

module _ {ℓ} {A : Type ℓ} where
  -- what an outcome says of its number
  pub refused-number : (n : ℕ) (a : A) (k : ℕ) → refuses k ≡ outcome n a → n ≡ k
  refused-number zero a k e = let z : ◌≡◌ {A = ℕ} 0 1 = cc in absurd (omega arith)
  refused-number (suc n) a k e = cc

  pub given_number : (n : ℕ) (a b : A) → gives b ≡ outcome n a → n ≡ 0
  given_number zero a b e = refl
  given_number (suc n) a b e = let z : ◌≡◌ {A = ℕ} 0 1 = cc in absurd (omega arith)

  pub given_value : (n : ℕ) (a b : A) → gives b ≡ outcome n a → b ≡ a
  given_value zero a b e = cc
  given_value (suc n) a b e = let z : ◌≡◌ {A = ℕ} 0 1 = cc in absurd (omega arith)

  -- and the outcome of a number that is known
  pub refused_by : (n : ℕ) (a : A) (k : ℕ) → k ≡ n → (k ≡ 0 → ⊥) → refuses k ≡ outcome n a
  refused_by zero a k e h = absurd (h e)
  refused_by (suc n) a k e h = ap refuses e

  pub given_by : (n : ℕ) (a b : A) → n ≡ 0 → b ≡ a → gives b ≡ outcome n a
  given_by zero a b z e = ap gives e
  given_by (suc n) a b z e = absurd (omega (arith, z))

  -- and of what is checked first and more after it
  pub first-refused {κ} : {B : Type κ} (n m : ℕ) (a : A) (b : B) (k : ℕ) → refuses k ≡ outcome n a → refuses k ≡ outcome (or_else n m) b
  first-refused n m a b k e = still n k e
    where
      still : (n k : ℕ) → refuses k ≡ outcome n a → refuses k ≡ outcome (or_else n m) b
      still zero k e = let z : ◌≡◌ {A = ℕ} 0 1 = cc in absurd (omega arith)
      still (suc n) k e = let z : k ≡ suc n = cc in ap refuses z

  -- what is written, where it is known whether the call is refused
  pub where_done : (n : ℕ) (a b : A) → n ≡ 0 → unless_refused n a b ≡ a
  where_done n a b z = ap (λ (k : ℕ). unless_refused k a b) z

-- what a promise says of the caller's buffers, by the number: all is done, or nothing is touched
module _ {ℓ} (A B : Type ℓ) where
  pub done_by : (n : ℕ) → n ≡ 0 → A → unless_refused n A B
  done_by zero z a = a
  done_by (suc n) z a = absurd (omega (arith, z))

  pub untouched_by : (n : ℕ) → (n ≡ 0 → ⊥) → B → unless_refused n A B
  untouched_by zero h b = absurd (h refl)
  untouched_by (suc n) h b = b

  pub done_of : (n : ℕ) → n ≡ 0 → unless_refused n A B → A
  done_of zero z a = a
  done_of (suc n) z b = absurd (omega (arith, z))

  pub untouched_of : (n : ℕ) → (n ≡ 0 → ⊥) → unless_refused n A B → B
  untouched_of zero h a = absurd (h refl)
  untouched_of (suc n) h b = b

-- a refusal is given by a number that is not 0
pub is_refusal {ℓ} : {A : Type ℓ} (n : ℕ) (a : A) (k : ℕ) → refuses k ≡ outcome n a → n ≡ 0 → ⊥
is_refusal zero a k e z = let z : ◌≡◌ {A = ℕ} 0 1 = cc in omega arith
is_refusal (suc n) a k e z = omega (arith, z)
