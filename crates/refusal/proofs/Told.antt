-- What an answer says is the whole answer: two that say the same are the same.
-- Assumes nothing.
use mathlib.Core.Path.{◌≡◌, refl, sym, ap, ◌∙◌}
use mathlib.Core.List.{[], ◌∷◌}
use Prim.Native.Nat.{ℕ, zero, suc}
use native.Mathlib.Omega.{arith}
use lib.ListN.{get_or}
use Rattle.std.specs.Prelude.{Result, Ok, Err, IsErrAnd}
use Rattle.refusal.specs.declared.Refusal.{Refusal}
use Rattle.refusal.specs.declared.Refusal.TheVariants.{NoSuchOption, NoSuchLevel, RateTooLow, NoProfile, SizeDiffers, UnevenRate, BeyondCif, ShortBuffer, ShortSymbol, BadState, LongInput, ShortDirectory}
use Rattle.refusal.specs.Outcome.{refuses, outcome, numbered, told}
use Rattle.refusal.proofs.Laws.{given_number, given_value}

-- the refusal of a number
abbrev named : ℕ → Refusal
named n =
    get_or (NoSuchOption ∷ NoSuchOption ∷ NoSuchLevel ∷ RateTooLow ∷ NoProfile ∷ SizeDiffers ∷ UnevenRate ∷ BeyondCif ∷ ShortBuffer ∷ ShortSymbol ∷ BadState ∷ LongInput ∷ ShortDirectory ∷ []) n NoSuchOption

named_back : (r : Refusal) → named (numbered r) ≡ r
named_back NoSuchOption = refl
named_back NoSuchLevel = refl
named_back RateTooLow = refl
named_back NoProfile = refl
named_back SizeDiffers = refl
named_back UnevenRate = refl
named_back BeyondCif = refl
named_back ShortBuffer = refl
named_back ShortSymbol = refl
named_back BadState = refl
named_back LongInput = refl
named_back ShortDirectory = refl

pub numbered_one : (r s : Refusal) → numbered r ≡ numbered s → r ≡ s
numbered_one r s e = sym (named_back r) ∙ ap named e ∙ named_back s

pub numbered-positive : (r : Refusal) → numbered r ≡ 0 → ⊥
numbered-positive r e =
    let first : NoSuchOption ≡ r = sym (ap named e) ∙ named_back r in
    omega (arith, ap numbered first, e)

pub told_one : {A : Type 0} (r s : Result A Refusal) → told r ≡ told s → r ≡ s
told_one (Ok a) (Ok b) e = let x : a ≡ b = cc in ap Ok x
told_one (Ok a) (Err y) e = let z : ◌≡◌ {A = ℕ} 0 1 = cc in absurd (omega arith)
told_one (Err x) (Ok b) e = let z : ◌≡◌ {A = ℕ} 0 1 = cc in absurd (omega arith)
told_one (Err x) (Err y) e = let z : numbered x ≡ numbered y = cc in ap Err (numbered_one x y z)

module _ {A : Type 0} where
  -- what a promise says of an answer that is known
  pub ok-number : (n : ℕ) (a : A) {r : Result A Refusal} {b : A} → told r ≡ outcome n a → r ≡ Ok b → n ≡ 0
  ok-number n a {r} {b} e q = given_number n a b (sym (ap told q) ∙ e)

  pub ok-value : (n : ℕ) (a : A) {r : Result A Refusal} {b : A} → told r ≡ outcome n a → r ≡ Ok b → b ≡ a
  ok-value n a {r} {b} e q = given_value n a b (sym (ap told q) ∙ e)

  -- the answer where nothing refuses
  pub is-ok : (r : Result A Refusal) (n : ℕ) (a : A) → told r ≡ outcome n a → n ≡ 0 → r ≡ Ok a
  is-ok r n a e z = told_one r (Ok a) (e ∙ ap (λ (m : ℕ). outcome m a) z)

  -- a refusal passes on, whatever else would have been given
  pub passed_on : {B : Type 0} (n : ℕ) (a : A) (b : B) (x : Refusal) → refuses (numbered x) ≡ outcome n a → refuses (numbered x) ≡ outcome n b
  passed_on zero a b x e = let z : ◌≡◌ {A = ℕ} 0 1 = cc in absurd (omega arith)
  passed_on (suc n) a b x e = let q : numbered x ≡ suc n = cc in ap refuses q

  -- what `?` returns is the refusal that it met
  pub residual : (r : Result A Refusal) (x : Refusal) → IsErrAnd r (λ y. y ≡ x) → r ≡ Err x
  residual (Ok a) x e = absurd e
  residual (Err y) x e = ap Err e

  -- what was given is one, and is no refusal
  pub ok_same : {r : Result A Refusal} {a b : A} → r ≡ Ok a → r ≡ Ok b → a ≡ b
  ok_same e f = cc

  pub ok_not_err : {r : Result A Refusal} {a : A} {x : Refusal} → r ≡ Ok a → r ≡ Err x → ⊥
  ok_not_err e f = let z : ◌≡◌ {A = ℕ} 0 1 = cc in omega (arith, z)
