-- Lists that are cut into chunks of n elements, as `as_chunks` cuts a slice.
-- Assumes nothing.
use mathlib.Core.Path.{◌≡◌, refl, ap, ◌∙◌}
use mathlib.Core.List.{List}
use Prim.Native.Nat.{ℕ, zero, suc, ◌+◌, ◌*◌, ◌<◌}
use native.Mathlib.Omega.{arith}
use lib.ListN.{length, get_or, take, drop}
use lib.Seq.{drop-drop}
use Rattle.std.specs.Simd.{first_chunks}

module _ {X : Type 0} (n : ℕ) where
  pub length-chunks : (k : ℕ) (xs : List X) → length (first_chunks n k xs) ≡ k
  length-chunks zero xs = refl
  length-chunks (suc k) xs = ap suc (length-chunks k (drop n xs))

  -- chunk i is n elements from n * i on
  pub chunk_at : (k : ℕ) (xs : List X) (i : ℕ) (d : List X) → i < k → get_or (first_chunks n k xs) i d ≡ take n (drop (n * i) xs)
  chunk_at zero xs i d h = absurd (omega arith)
  chunk_at (suc k) xs zero d h = let e : 0 ≡ n * 0 = omega arith in ap (λ (m : ℕ). take n (drop m xs)) e
  chunk_at (suc k) xs (suc i) d h = let e : n + n * i ≡ n * suc i = omega arith in chunk_at k (drop n xs) i d (omega arith) ∙ ap (take n) (drop-drop (n * i) n xs ∙ ap (λ (m : ℕ). drop m xs) e)
