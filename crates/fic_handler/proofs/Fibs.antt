-- Laws of FIBs kept: lengths, one FIB more, and what the output then holds.
-- Assumes nothing.
use mathlib.Core.Path.{◌≡◌, refl, sym, ap, ap₂, ◌∙◌}
use mathlib.Core.Bool.{Bool, true, false, cond}
use mathlib.Core.List.{List, [], ◌++◌, append_assoc, append-nil}
use Prim.Native.Nat.{ℕ, zero, suc, ◌+◌, ◌*◌, ◌<◌, ◌≤◌}
use native.Mathlib.Omega.{arith}
use native.Mathlib.Numerals.{add-one}
use lib.ListN.{length, take, drop, length-append, length-take, length-drop}
use lib.Seq.{take_at, drop_at, drop-drop}
use Rattle.laws.specs.Words.{pick_n}
use Rattle.laws.proofs.Words.{bit_lt}
use Rattle.spec_en300401.specs.Bytes.{bytes_of_bits}
use Rattle.spec_en300401.proofs.Bytes.{bytes-length}
use Rattle.fic_handler.specs.Blocks.{fib_of, good, passed_bytes, count_of}
use Rattle.fic_handler.specs.Code.{KeptFibs}

pub fib-length : (bits : List ℕ) (j : ℕ) → length bits ≡ 768 → j < 3 → length (fib_of bits j) ≡ 256
fib-length bits j e h = simp (length-take, length-drop) (omega arith)

pub count-le : (bits : List ℕ) (n : ℕ) → count_of bits n ≤ n
unfolding count_of
count-le bits zero = omega arith
count-le bits (suc n) = omega (arith, count-le bits n, bit_lt (good bits n))

-- 32 bytes for each FIB that passed
pub passed_length : (bits : List ℕ) (n : ℕ) → length bits ≡ 768 → n ≤ 3 → length (passed_bytes bits n) ≡ 32 * count_of bits n
unfolding passed_bytes count_of
passed_length bits zero e h = refl
passed_length bits (suc n) e h =
    length-append (passed_bytes bits n) (cond (good bits n) (bytes_of_bits (fib_of bits n)) []) ∙ one (good bits n) (passed_length bits n e (omega arith))
  where
    one : (t : Bool) → length (passed_bytes bits n) ≡ 32 * count_of bits n → length (passed_bytes bits n) + length (cond t (bytes_of_bits (fib_of bits n)) []) ≡ 32 * (count_of bits n + pick_n t 1 0)
    one true r = omega (arith, bytes-length (fib_of bits n), fib-length bits n e h)
    one false r = omega arith

-- one FIB more: the part from byte 32 kept on has it at its start if it passed
pub kept_next : {bits before after new : List ℕ} {j kept k : ℕ} → length bits ≡ 768 → j < 3 → KeptFibs bits j before kept after → k ≡ pick_n (good bits j) 1 0
    → new ≡ cond (good bits j) (bytes_of_bits (fib_of bits j) ++ drop 32 (drop (32 * kept) after)) (drop (32 * kept) after) → KeptFibs bits (j + 1) before (kept + k) (take (32 * kept) after ++ new)
unfolding passed_bytes count_of
kept_next {bits} {before} {after} {new} {j} {kept} {k} e h v count bytes =
    record {
      kept_is = ap₂ (λ (a b : ℕ). a + b) v.kept_is count ∙ ap (count_of bits) (sym (add-one j));
      bytes = ap₂ (λ (a b : List ℕ). a ++ b) front (bytes ∙ ap (λ (r : List ℕ). cond (good bits j) (bytes_of_bits (fib_of bits j) ++ drop 32 r) r) back) ∙ one (good bits j) count ∙ ap (λ (n : ℕ). passed_bytes bits n ++ drop (32 * (kept + k)) before) (sym (add-one j));
    }
  where
    long : length (passed_bytes bits j) ≡ 32 * kept
    long = passed_length bits j e (omega arith) ∙ ap (λ (n : ℕ). 32 * n) (sym v.kept_is)

    front : take (32 * kept) after ≡ passed_bytes bits j
    front = ap (take (32 * kept)) v.bytes ∙ take_at (passed_bytes bits j) (drop (32 * kept) before) (32 * kept) long

    back : drop (32 * kept) after ≡ drop (32 * kept) before
    back = ap (drop (32 * kept)) v.bytes ∙ drop_at (passed_bytes bits j) (drop (32 * kept) before) (32 * kept) long

    more : k ≡ 1 → 32 * kept + 32 ≡ 32 * (kept + k)
    more q = omega arith

    none : k ≡ 0 → 32 * kept ≡ 32 * (kept + k)
    none q = omega arith

    one : (t : Bool) → k ≡ pick_n t 1 0 → passed_bytes bits j ++ cond t (bytes_of_bits (fib_of bits j) ++ drop 32 (drop (32 * kept) before)) (drop (32 * kept) before) ≡ (passed_bytes bits j ++ cond t (bytes_of_bits (fib_of bits j)) []) ++ drop (32 * (kept + k)) before
    one true q = sym (append_assoc (passed_bytes bits j) (bytes_of_bits (fib_of bits j)) (drop 32 (drop (32 * kept) before))) ∙ ap (λ (r : List ℕ). (passed_bytes bits j ++ bytes_of_bits (fib_of bits j)) ++ r) (drop-drop 32 (32 * kept) before ∙ ap (λ (n : ℕ). drop n before) (more q))
    one false q = ap₂ (λ (a b : List ℕ). a ++ b) (sym (append-nil (passed_bytes bits j))) (ap (λ (n : ℕ). drop n before) (none q))
