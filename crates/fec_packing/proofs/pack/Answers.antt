-- `fec_packing::pack` meets its contract, by whether the bytes fit.
-- Assumes nothing.
use mathlib.Core.Path.{◌≡◌, sym, ap, ap₂, ◌∙◌}
use mathlib.Core.List.{List, ◌∷◌, ◌++◌, []}
use Prim.Native.Nat.{ℕ, suc, ◌+◌, ◌*◌, ◌/◌, ◌<◌, ◌≤◌}
use native.Mathlib.Omega.{arith}
use native.Mathlib.Nat.{zero-add}
use lib.ListN.{length, get_or, set, take, drop}
use lib.Seq.{paste}
use Rattle.std.proofs.lemmas.List.{drop_more}
use Rattle.std.proofs.lemmas.List.Edits.{paste_all}
use Rattle.refusal.proofs.Laws.{given_by}
use Rattle.laws.proofs.Pasted.{pasted_next}
use Rattle.fec_packing.specs.Bytes.{bytes_of, pack_refusal}
use Rattle.fec_packing.proofs.Answers.{long_enough, packed-is}
use Rattle.std.specs.Simd.{first_chunks}
use Rattle.laws.proofs.Chunks.{chunk_at}
use Rattle.fec_packing.proofs.Bits.{number, bytes_of-length, bytes_of-at}
use Rattle.fec_packing.proofs.pack.Goals as goal

-- the byte of chunk j, however its number is worked out
chunk : (bits : List ℕ) (eights : List (List ℕ)) (r k j : ℕ) → j < length bits / 8 → eights ≡ first_chunks 8 (length bits / 8) bits → k ≡ j → r ≡ number (get_or eights k []) → r ≡ number (take 8 (drop (8 * j) bits))
chunk bits eights r k j h is same e = e ∙ ap₂ (λ (l : List (List ℕ)) (n : ℕ). number (get_or l n [])) is same ∙ ap number (chunk_at 8 (length bits / 8) bits j [] h)

cut : (n : ℕ) (xs : List ℕ) (i m : ℕ) → m ≡ i + 1 → i < length xs → take (suc n) (drop i xs) ≡ get_or xs i 0 ∷ take n (drop m xs)
cut n xs i m e h = ap (take (suc n)) (drop_more xs i 0 h) ∙ ap (λ (k : ℕ). get_or xs i 0 ∷ take n (drop k xs)) (sym e)

-- or of the eight values from 8 j on, by place: so the edit that takes them from 7 j on is refused for its places, whatever its form
values : (bits : List ℕ) (r k j : ℕ) → j < length bits / 8 → k ≡ 8 * j → r ≡ number (get_or bits k 0 ∷ get_or bits (k + 1) 0 ∷ get_or bits (k + 2) 0 ∷ get_or bits (k + 3) 0 ∷ get_or bits (k + 4) 0 ∷ get_or bits (k + 5) 0 ∷ get_or bits (k + 6) 0 ∷ get_or bits (k + 7) 0 ∷ []) → r ≡ number (take 8 (drop (8 * j) bits))
values bits r k j h same e = e ∙ ap number (sym (eight (omega arith))) ∙ ap (λ (n : ℕ). number (take 8 (drop n bits))) same
  where
    eight : k + 8 ≤ length bits → take 8 (drop k bits) ≡ get_or bits k 0 ∷ get_or bits (k + 1) 0 ∷ get_or bits (k + 2) 0 ∷ get_or bits (k + 3) 0 ∷ get_or bits (k + 4) 0 ∷ get_or bits (k + 5) 0 ∷ get_or bits (k + 6) 0 ∷ get_or bits (k + 7) 0 ∷ []
    eight h = cut 7 bits k (k + 1) (omega arith) (omega (arith, h)) ∙ ap (λ (l : List ℕ). get_or bits k 0 ∷ l) (cut 6 bits (k + 1) (k + 2) (omega arith) (omega (arith, h)) ∙ ap (λ (l : List ℕ). get_or bits (k + 1) 0 ∷ l) (cut 5 bits (k + 2) (k + 3) (omega arith) (omega (arith, h)) ∙ ap (λ (l : List ℕ). get_or bits (k + 2) 0 ∷ l) (cut 4 bits (k + 3) (k + 4) (omega arith) (omega (arith, h)) ∙ ap (λ (l : List ℕ). get_or bits (k + 3) 0 ∷ l) (cut 3 bits (k + 4) (k + 5) (omega arith) (omega (arith, h)) ∙ ap (λ (l : List ℕ). get_or bits (k + 4) 0 ∷ l) (cut 2 bits (k + 5) (k + 6) (omega arith) (omega (arith, h)) ∙ ap (λ (l : List ℕ). get_or bits (k + 5) 0 ∷ l) (cut 1 bits (k + 6) (k + 7) (omega arith) (omega (arith, h)) ∙ ap (λ (l : List ℕ). get_or bits (k + 6) 0 ∷ l) (cut 0 bits (k + 7) (k + 8) (omega arith) (omega (arith, h)))))))))

pub loop-j-preserved : goal.loop-j-preserved
loop-j-preserved c =
    let bits = c.args.bits.now in
    let old = c.args.bytes.now in
    let j = c.loop-j.j in
    let h : j < length bits / 8 = omega (arith, c.as_chunks.ensures.front_len) in
    let b : c.byte_of.result ≡ number (take 8 (drop (8 * j) bits)) = search (arith, chunk bits, values bits, h, c.byte_of.ensures, c.as_chunks.ensures.front) in
    ap (λ (l : List ℕ). set l j c.byte_of.result) c.loop-j.invariant
    ∙ ap (λ (k : ℕ). set (paste old 0 (bytes_of bits) j) k c.byte_of.result) (sym (zero-add j))
    ∙ pasted_next 0 old 0 (bytes_of bits) j c.byte_of.result (omega arith) (omega (arith, bytes_of-length bits, c.as_chunks.ensures.front_len)) (b ∙ sym (bytes_of-at bits j (omega (arith, c.as_chunks.ensures.front_len))))

pub returns : goal.returns
returns c =
    let bits = c.args.bits.now in
    let old = c.args.bytes.now in
    let j = c.loop-j.j in
    let all : j ≡ length bits / 8 = omega (arith, c.as_chunks.ensures.front_len) in
    let fits : length bits / 8 ≤ length old = omega (arith, c.as_chunks.ensures.front_len) in
    record {
      answer = given_by (pack_refusal bits old) (length bits / 8) _ (long_enough bits old fits) c.as_chunks.ensures.front_len;
      bytes =
          c.loop-j.invariant ∙ paste_all old 0 (bytes_of bits) j (all ∙ sym (bytes_of-length bits))
          ∙ ap (λ (k : ℕ). bytes_of bits ++ drop k old) (zero-add j ∙ all) ∙ sym (packed-is bits old fits);
    }
