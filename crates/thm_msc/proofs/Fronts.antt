-- Values of a buffer of which no more than a needed part is handed on.
-- Assumes nothing.
use mathlib.Core.Path.{◌≡◌, sym, ap, ◌∙◌}
use mathlib.Core.List.{List, ◌++◌, append-nil}
use Prim.Native.Nat.{ℕ, ◌+◌, ◌-◌, ◌<◌, ◌≤◌}
use native.Mathlib.Omega.{arith}
use native.Mathlib.Decide.{dec_lt}
use lib.ListN.{length, get_or, take, drop, length-append, length-take, length-drop, get_or-append}
use lib.Seq.{take_all, drop-length, get_or-append-add, get_or-take, get_or-drop}
use Rattle.thm_msc.specs.Calls.{FrontOf, left_in}

module _ {A : Type 0} (z : A) where
  -- the needed part is the same
  pub front_at : (n : ℕ) (xs ys : List A) → take n xs ≡ take n ys → (p : ℕ) → p < n → get_or xs p z ≡ get_or ys p z
  front_at n xs ys e p l = sym (get_or-take n xs p z l) ∙ ap (λ (q : List A). get_or q p z) e ∙ get_or-take n ys p z l

  -- or what was given of it, before the rest of what was held
  pub left_at : (n : ℕ) (given held : List A) → FrontOf n given held → (given' : List A) → given' ≡ given → (p : ℕ) → p < n → get_or (left_in given' held) p z ≡ get_or held p z
  left_at n given held e given' same p l = ap (λ (xs : List A). get_or (left_in xs held) p z) same ∙ go (dec_lt p (length given))
    where
      go : Dec (p < length given) → get_or (left_in given held) p z ≡ get_or held p z
      go (yes y) =
          get_or-append given (drop (length given) held) z p y
          ∙ sym (get_or-take n given p z l)
          ∙ ap (λ (q : List A). get_or q p z) e
          ∙ get_or-take (length given) (take n held) p z y
          ∙ get_or-take n held p z l
      go (no m) =
          let q : ℕ = p - length given in
          let is : length given + q ≡ p = omega arith in
          ap (λ (k : ℕ). get_or (left_in given held) k z) (sym is) ∙ get_or-append-add given (drop (length given) held) q z ∙ get_or-drop (length given) held q z ∙ ap (λ (k : ℕ). get_or held k z) is

module _ {A : Type 0} where
  -- no less is left than was held
  pub left-long : (given held : List A) → length held ≤ length (left_in given held)
  left-long given held = omega (arith, length-append given (drop (length given) held), length-drop (length given) held)

  -- what is held is a front of itself
  pub own_front : (n : ℕ) (xs : List A) → FrontOf n xs xs
  own_front n xs = sym (take_all (length xs) (take n xs) (omega (arith, length-take n xs)))

  pub own-left : (xs : List A) → left_in xs xs ≡ xs
  own-left xs = ap (λ (r : List A). xs ++ r) (drop-length xs) ∙ append-nil xs
