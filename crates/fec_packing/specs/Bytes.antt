-- Document 01, "high bit first": decoded bits as bytes.
use Rattle.std.specs.Prelude.{◌≡◌, List, [], ◌∷◌, map, ◌++◌, ℕ, zero, suc, ◌/◌, ltb, length, drop, Result}
use Rattle.spec_en300401.specs.Bytes.{bytes_of_bits}
use Rattle.refusal.specs.Outcome.{told, outcome, unless_refused, check, first_of}
use Rattle.refusal.specs.declared.Refusal.{Refusal}

-- a value as a bit: 0 is 0, any other value 1
unfoldable pub as_bit : ℕ → ℕ
as_bit zero = 0
as_bit (suc n) = 1

-- the bytes of some values, eight to a byte; up to seven left over are dropped
unfoldable pub bytes_of : List ℕ → List ℕ
bytes_of xs = bytes_of_bits (map as_bit xs)

-- the first refusal of a call, 0 for none: 8 where the output has fewer places than bytes
unfoldable pub pack_refusal : List ℕ → List ℕ → ℕ
pack_refusal xs out = first_of (check 8 (ltb (length out) (length xs / 8)) ∷ [])

-- the output: the bytes, then the rest as it was; all as it was on a refusal
abbrev pub packed : List ℕ → List ℕ → List ℕ
packed xs out = unless_refused (pack_refusal xs out) (bytes_of xs ++ drop (length xs / 8) out) out

-- the promise of `pack`
pub record Packs (xs out : List ℕ) (r : Result ℕ Refusal) (out' : List ℕ) : Type 0 where
  pub answer : told r ≡ outcome (pack_refusal xs out) (length xs / 8)
  pub bytes : out' ≡ packed xs out
