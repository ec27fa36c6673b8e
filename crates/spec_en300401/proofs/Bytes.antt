-- Laws of bytes and their bits: lengths, parts, and there and back.
-- Assumes nothing.
use mathlib.Core.Path.{◌≡◌, refl, sym, ap, ap₂, ◌∙◌}
use mathlib.Core.List.{List, [], ◌∷◌, ◌++◌, append_assoc, append-nil}
use Prim.Native.Nat.{ℕ, zero, suc, ◌+◌, ◌*◌, ◌-◌, ◌/◌, ◌%◌, ◌^◌, ◌<◌}
use native.Mathlib.Omega.{arith}
use native.Mathlib.Nat.{not-suc-le-zero, le_of_suc-le-suc}
use lib.ListN.{length, get_or, take, drop, length-append}
use lib.Seq.{take-nil, drop-nil, take-append-add, drop-append-add}
use Rattle.laws.specs.Bits.{num_of, bits_of, AreBits, AreBytes}
use Rattle.laws.proofs.Bits.{length-bits, bits_num, num_bits, num_append, below-nil, below-cons, below_tail, bits_are, num_lt, below-append}
use Rattle.spec_en300401.specs.Bytes.{bits_of_bytes, bytes_of_bits}
use Rattle.spec_en300401.specs.Theorems.{BytesBack}

pub bits-length : (ys : List ℕ) → length (bits_of_bytes ys) ≡ 8 * length ys
unfolding bits_of_bytes
bits-length [] = refl
bits-length (y ∷ ys) = length-append (bits_of 8 y) (bits_of_bytes ys) ∙ ap₂ (λ (a b : ℕ). a + b) (length-bits 8 y) (bits-length ys) ∙ omega arith

-- the bits of the first k bytes, and of the others
pub take-bits : (k : ℕ) (ys : List ℕ) → take (8 * k) (bits_of_bytes ys) ≡ bits_of_bytes (take k ys)
unfolding bits_of_bytes
take-bits zero ys = refl
take-bits (suc k) [] = take-nil (8 * suc k)
take-bits (suc k) (y ∷ ys) =
    ap (λ (n : ℕ). take n (bits_of 8 y ++ bits_of_bytes ys)) (eight k ∙ ap (λ (m : ℕ). m + 8 * k) (sym (length-bits 8 y)))
    ∙ take-append-add (bits_of 8 y) (bits_of_bytes ys) (8 * k) ∙ ap (λ (r : List ℕ). bits_of 8 y ++ r) (take-bits k ys)
  where
    eight : (m : ℕ) → 8 * suc m ≡ 8 + 8 * m
    eight m = omega arith

pub drop_bits : (k : ℕ) (ys : List ℕ) → drop (8 * k) (bits_of_bytes ys) ≡ bits_of_bytes (drop k ys)
unfolding bits_of_bytes
drop_bits zero ys = refl
drop_bits (suc k) [] = drop-nil (8 * suc k)
drop_bits (suc k) (y ∷ ys) =
    ap (λ (n : ℕ). drop n (bits_of 8 y ++ bits_of_bytes ys)) (eight k ∙ ap (λ (m : ℕ). m + 8 * k) (sym (length-bits 8 y)))
    ∙ drop-append-add (bits_of 8 y) (bits_of_bytes ys) (8 * k) ∙ drop_bits k ys
  where
    eight : (m : ℕ) → 8 * suc m ≡ 8 + 8 * m
    eight m = omega arith

-- of 8 k zeros and ones: k bytes, whose bits they are
pub record Packed (xs : List ℕ) (k : ℕ) : Type 0 where
  pub long : length (bytes_of_bits xs) ≡ k
  pub back : bits_of_bytes (bytes_of_bits xs) ≡ xs
  pub bytes : AreBytes (bytes_of_bits xs)

pub packed : (xs : List ℕ) (k : ℕ) → length xs ≡ 8 * k → AreBits xs → Packed xs k
unfolding bytes_of_bits bits_of_bytes
packed [] k e h = record { long = omega arith; back = refl; bytes = record { each = λ i l. absurd (not-suc-le-zero l) } }
packed (a ∷ []) k e h = absurd (omega arith)
packed (a ∷ b ∷ []) k e h = absurd (omega arith)
packed (a ∷ b ∷ c ∷ []) k e h = absurd (omega arith)
packed (a ∷ b ∷ c ∷ d ∷ []) k e h = absurd (omega arith)
packed (a ∷ b ∷ c ∷ d ∷ f ∷ []) k e h = absurd (omega arith)
packed (a ∷ b ∷ c ∷ d ∷ f ∷ g ∷ []) k e h = absurd (omega arith)
packed (a ∷ b ∷ c ∷ d ∷ f ∷ g ∷ i ∷ []) k e h = absurd (omega arith)
packed (a ∷ b ∷ c ∷ d ∷ f ∷ g ∷ i ∷ j ∷ xs) k e h = go (packed xs (k - 1) (omega arith) (rest 8 h))
  where
    rest : (n : ℕ) → AreBits (a ∷ b ∷ c ∷ d ∷ f ∷ g ∷ i ∷ j ∷ xs) → AreBits xs
    rest n q = below_tail (below_tail (below_tail (below_tail (below_tail (below_tail (below_tail (below_tail q)))))))

    eight : List ℕ
    eight = a ∷ b ∷ c ∷ d ∷ f ∷ g ∷ i ∷ j ∷ []

    bit : (n : ℕ) → n < length (a ∷ b ∷ c ∷ d ∷ f ∷ g ∷ i ∷ j ∷ xs) → get_or (a ∷ b ∷ c ∷ d ∷ f ∷ g ∷ i ∷ j ∷ xs) n 0 < 2
    bit = h.each

    bits : AreBits eight
    bits =
        below-cons (bit 0 (omega arith)) (below-cons (bit 1 (omega arith)) (below-cons (bit 2 (omega arith)) (below-cons (bit 3 (omega arith))
        (below-cons (bit 4 (omega arith)) (below-cons (bit 5 (omega arith)) (below-cons (bit 6 (omega arith)) (below-cons (bit 7 (omega arith)) below-nil)))))))

    go : Packed xs (k - 1) → Packed (a ∷ b ∷ c ∷ d ∷ f ∷ g ∷ i ∷ j ∷ xs) k
    go p =
        record {
          long = ap suc p.long ∙ omega arith;
          back = ap₂ (λ (x y : List ℕ). x ++ y) (bits_num eight bits) p.back;
          bytes = record { each = each p.bytes };
        }
      where
        each : AreBytes (bytes_of_bits xs) → (n : ℕ) → n < length (num_of eight ∷ bytes_of_bits xs) → get_or (num_of eight ∷ bytes_of_bits xs) n 0 < 256
        each q zero l = num_lt eight bits
        each q (suc n) l = q.each n (le_of_suc-le-suc l)

pub bits-append : (xs ys : List ℕ) → bits_of_bytes (xs ++ ys) ≡ bits_of_bytes xs ++ bits_of_bytes ys
unfolding bits_of_bytes
bits-append [] ys = refl
bits-append (x ∷ xs) ys = ap (λ (r : List ℕ). bits_of 8 x ++ r) (bits-append xs ys) ∙ sym (append_assoc (bits_of 8 x) (bits_of_bytes xs) (bits_of_bytes ys))

pub bits-one : (y : ℕ) → bits_of_bytes (y ∷ []) ≡ bits_of 8 y
unfolding bits_of_bytes
bits-one y = append-nil (bits_of 8 y)

pub bits_of_bytes_lem : (ys : List ℕ) → AreBits (bits_of_bytes ys)
unfolding bits_of_bytes
bits_of_bytes_lem [] = below-nil
bits_of_bytes_lem (y ∷ ys) = below-append (bits_are 8 y) (bits_of_bytes_lem ys)

pub bytes_back : BytesBack
unfolding bits_of_bytes bytes_of_bits bits_of
bytes_back [] h = refl
bytes_back (y ∷ ys) h =
    ap₂ (λ (x : ℕ) (r : List ℕ). x ∷ r) (num_bits 8 y ∙ low y (h.each 0 (omega arith))) (bytes_back ys (record { each = λ i l. h.each (suc i) (omega arith) }))
  where
    low : (y : ℕ) → y < 256 → y % 256 ≡ y
    low y l = omega arith

-- two bytes as one number, the high byte first
pub two_bytes : (a b : ℕ) → a < 256 → b < 256 → num_of (bits_of_bytes (a ∷ b ∷ [])) ≡ a * 256 + b
unfolding bits_of_bytes
two_bytes a b ha hb =
    num_append (bits_of 8 a) (bits_of 8 b ++ []) ∙ ap (λ (r : List ℕ). num_of (bits_of 8 a) * 2 ^ length r + num_of r) (append-nil (bits_of 8 b))
    ∙ ap (λ (n : ℕ). num_of (bits_of 8 a) * 2 ^ n + num_of (bits_of 8 b)) (length-bits 8 b)
    ∙ ap₂ (λ (x y : ℕ). x * 256 + y) (num_bits 8 a ∙ whole a ha) (num_bits 8 b ∙ whole b hb)
  where
    whole : (n : ℕ) → n < 256 → n % 256 ≡ n
    whole n h = omega arith

-- each byte by its place
pub bytes-length : (xs : List ℕ) → length (bytes_of_bits xs) ≡ length xs / 8
unfolding bytes_of_bits
bytes-length [] = refl
bytes-length (a ∷ []) = refl
bytes-length (a ∷ b ∷ []) = refl
bytes-length (a ∷ b ∷ c ∷ []) = refl
bytes-length (a ∷ b ∷ c ∷ d ∷ []) = refl
bytes-length (a ∷ b ∷ c ∷ d ∷ f ∷ []) = refl
bytes-length (a ∷ b ∷ c ∷ d ∷ f ∷ g ∷ []) = refl
bytes-length (a ∷ b ∷ c ∷ d ∷ f ∷ g ∷ i ∷ []) = refl
bytes-length (a ∷ b ∷ c ∷ d ∷ f ∷ g ∷ i ∷ j ∷ xs) = omega (arith, bytes-length xs)

pub byte_at : (xs : List ℕ) (n : ℕ) → n < length xs / 8 → get_or (bytes_of_bits xs) n 0 ≡ num_of (take 8 (drop (8 * n) xs))
unfolding bytes_of_bits
byte_at [] n h = absurd (omega arith)
byte_at (a ∷ []) n h = absurd (omega arith)
byte_at (a ∷ b ∷ []) n h = absurd (omega arith)
byte_at (a ∷ b ∷ c ∷ []) n h = absurd (omega arith)
byte_at (a ∷ b ∷ c ∷ d ∷ []) n h = absurd (omega arith)
byte_at (a ∷ b ∷ c ∷ d ∷ f ∷ []) n h = absurd (omega arith)
byte_at (a ∷ b ∷ c ∷ d ∷ f ∷ g ∷ []) n h = absurd (omega arith)
byte_at (a ∷ b ∷ c ∷ d ∷ f ∷ g ∷ i ∷ []) n h = absurd (omega arith)
byte_at (a ∷ b ∷ c ∷ d ∷ f ∷ g ∷ i ∷ j ∷ xs) zero h = refl
byte_at (a ∷ b ∷ c ∷ d ∷ f ∷ g ∷ i ∷ j ∷ xs) (suc n) h =
    byte_at xs n (omega arith) ∙ ap (λ (m : ℕ). num_of (take 8 (drop m (a ∷ b ∷ c ∷ d ∷ f ∷ g ∷ i ∷ j ∷ xs)))) (eight n)
  where
    eight : (m : ℕ) → suc (suc (suc (suc (suc (suc (suc (suc (8 * m)))))))) ≡ 8 * suc m
    eight m = omega arith
