-- Refusal 12, by the two lengths, and what emptying leaves.
-- Assumes nothing.
use mathlib.Core.Path.{◌≡◌, sym, ap, ◌∙◌}
use mathlib.Core.List.{List, ◌++◌}
use Prim.Native.Nat.{ℕ, ◌<◌, ◌≤◌}
use borrow.Author.Tests.{lt-ltb, le-ltb}
use lib.ListN.{length, replicate, take, drop}
use lib.Seq.{length-take-le}
use Rattle.refusal.specs.Outcome.{unless_refused}
use Rattle.fic_directory_places.specs.Places.{Held, held}
use Rattle.fic_directory_places.specs.Promises.{directory_refusal, emptied}

pub few-subs : (m n : ℕ) → m < 64 → directory_refusal m n ≡ 12
unfolding directory_refusal
few-subs m n h = rw (lt-ltb m 64 h)

pub few-services : (m n : ℕ) → 64 ≤ m → n < 256 → directory_refusal m n ≡ 12
unfolding directory_refusal
few-services m n h l = rw (le-ltb m 64 h, lt-ltb n 256 l)

pub enough : (m n : ℕ) → 64 ≤ m → 256 ≤ n → directory_refusal m n ≡ 0
unfolding directory_refusal
enough m n h l = rw (le-ltb m 64 h, le-ltb n 256 l)

pub zeroed : (h : Held) (xs ys : List ℕ) → 64 ≤ length h.subs → 256 ≤ length h.services → xs ≡ replicate (length (take 64 h.subs)) 0 → ys ≡ replicate (length (take 256 h.services)) 0
    → held (xs ++ drop 64 h.subs) (ys ++ drop 256 h.services) ≡ unless_refused (directory_refusal (length h.subs) (length h.services)) (emptied h) h
unfolding emptied
zeroed h xs ys m n e f =
    let subs : xs ≡ replicate 64 0 = e ∙ ap (λ (k : ℕ). replicate k 0) (length-take-le 64 h.subs m) in
    let services : ys ≡ replicate 256 0 = f ∙ ap (λ (k : ℕ). replicate k 0) (length-take-le 256 h.services n) in
    (λ i. held (subs i ++ drop 64 h.subs) (services i ++ drop 256 h.services))
    ∙ sym (ap (λ (k : ℕ). unless_refused k (emptied h) h) (enough (length h.subs) (length h.services) m n))
