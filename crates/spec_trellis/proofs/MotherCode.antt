-- The trellis is the mother code: the path of a message gives the bits of clause 11.1.1, and six zeros bring it back to state 0.
-- Assumes nothing.
use mathlib.Core.Path.{◌≡◌, refl, sym, ap, ap₂, ◌∙◌, subst}
use mathlib.Core.Bool.{Bool, false}
use mathlib.Core.List.{List, [], ◌∷◌, ◌++◌, map, reverse, reverse_aux, reverse_aux-eq}
use Prim.Native.Nat.{ℕ, zero, suc, ◌+◌, ◌*◌, ◌-◌, ◌/◌, ◌%◌, ◌<◌, ◌≤◌}
use native.Mathlib.Omega.{arith}
use native.Mathlib.Decide.{dec_lt}
use native.Mathlib.Numerals.{add_six}
use native.Mathlib.Nat.{add-zero, zero-add, suc-sub-suc, sub-zero}
use lib.Count.{ones, ones_in}
use lib.Dec.{T, eqb, eqb→eq, leb-zero, leb-suc-zero, leb-suc-suc}
use lib.ListN.{length, get_or, length-append, length-reverse, length-map, get_or-append, get_or-eq_default}
use lib.Seq.{get_or_at, get_or-append-add, ext_get_or}
use Rattle.laws.specs.Bits.{AreBits}
use Rattle.laws.specs.Tables.{every}
use Rattle.laws.specs.Lists.{list_from, list_of}
use Rattle.laws.specs.Words.{pick_n}
use Rattle.laws.proofs.Bits.{below-head, below_tail}
use Rattle.laws.proofs.Lists.{length-list_of, list_of-at}
use Rattle.laws.proofs.Tables.{rule_at}
use Rattle.laws.proofs.Words.{bit_lt}
use Rattle.spec_en300401.specs.MotherCode.{earlier, x0, x1, x2, code_bit, code_word}
use Rattle.spec_en300401.proofs.MotherCode.{word_at, length_word}
use Rattle.spec_trellis.specs.Trellis.{bit_n, is_odd, register, next_state, parity, out_bit, end_of, Ends, zero_end, free_end, Permits}
use Rattle.spec_trellis.specs.Clean.{six_zeros, sent_path}
use Rattle.spec_trellis.specs.Theorems.{spelt, OutputIsCodeBit, outputs_of, PathIsCodeWord}
use Rattle.spec_trellis.proofs.Trellis.{odd_is, end_lt}

-- ---- seven bits of the message

-- a bit earlier, one step on: the same bit
earlier_next : (a : ℕ → ℕ) (i k : ℕ) → earlier a (suc i) (suc k) ≡ earlier a i k
unfolding earlier
earlier_next a i k = ap₂ (λ (t : Bool) (j : ℕ). pick_n t (a j) 0) (leb-suc-suc k i) (suc-sub-suc i k)

earlier_now : (a : ℕ → ℕ) (i : ℕ) → earlier a i 0 ≡ a i
unfolding earlier
earlier_now a i = ap₂ (λ (t : Bool) (j : ℕ). pick_n t (a j) 0) (leb-zero i) (sub-zero i)

earlier-none : (a : ℕ → ℕ) (k : ℕ) → earlier a 0 (suc k) ≡ 0
unfolding earlier
earlier-none a k = ap (λ (t : Bool). pick_n t (a (0 - suc k)) 0) (leb-suc-zero k)

-- the number with the bits b0 to b5, b0 the lowest
abbrev six : ℕ → ℕ → ℕ → ℕ → ℕ → ℕ → ℕ
six b0 b1 b2 b3 b4 b5 = b0 + 2 * (b1 + 2 * (b2 + 2 * (b3 + 2 * (b4 + 2 * b5))))

-- the state before step i: the last six bits of the message, the newest lowest
unfoldable pub state_at : (ℕ → ℕ) → ℕ → ℕ
state_at a i = six (earlier a i 1) (earlier a i 2) (earlier a i 3) (earlier a i 4) (earlier a i 5) (earlier a i 6)

-- ---- a path that spells a message

-- bit i of the path, counted from the oldest, is a i
pub data Spells (a : ℕ → ℕ) : List Bool → Type 0 where
  nothing : Spells a []
  next : {b : Bool} {bs : List Bool} → bit_n b ≡ a (length bs) → Spells a bs → Spells a (b ∷ bs)

-- each of the seven bits is 0 or 1
spelt-lt : {a : ℕ → ℕ} {bs : List Bool} → Spells a bs → (k : ℕ) → earlier a (length bs) (suc k) < 2
spelt-lt {a} nothing k = omega (arith, earlier-none a k)
spelt-lt {a} (next {b} {bs} e p) zero = omega (arith, earlier_next a (length bs) 0, earlier_now a (length bs), bit_lt b)
spelt-lt {a} (next {b} {bs} e p) (suc k) = omega (arith, earlier_next a (length bs) (suc k), spelt-lt p k)

step_six : (x b0 b1 b2 b3 b4 b5 : ℕ) → x < 2 → b0 < 2 → b1 < 2 → b2 < 2 → b3 < 2 → b4 < 2 → next_state (six b0 b1 b2 b3 b4 b5) x ≡ six x b0 b1 b2 b3 b4
unfolding next_state
step_six x b0 b1 b2 b3 b4 b5 h h0 h1 h2 h3 h4 = omega arith

pub state_is : {a : ℕ → ℕ} {bs : List Bool} → Spells a bs → end_of 0 bs ≡ state_at a (length bs)
unfolding end_of state_at
state_is {a} nothing = omega (arith, earlier-none a 0, earlier-none a 1, earlier-none a 2, earlier-none a 3, earlier-none a 4, earlier-none a 5)
state_is {a} (next {b} {bs} e p) =
    let n : ℕ = length bs in
    ap₂ next_state (state_is p) e
    ∙ step_six (a n) (earlier a n 1) (earlier a n 2) (earlier a n 3) (earlier a n 4) (earlier a n 5) (earlier a n 6) (omega (arith, bit_lt b)) (spelt-lt p 0) (spelt-lt p 1) (spelt-lt p 2) (spelt-lt p 3) (spelt-lt p 4)
    ∙ omega (arith, earlier_next a n 0, earlier_now a n, earlier_next a n 1, earlier_next a n 2, earlier_next a n 3, earlier_next a n 4, earlier_next a n 5)

-- ---- the outputs

-- the sums of clause 11.1.1 over a register's seven bits, b0 the newest
abbrev sum0 : ℕ → ℕ → ℕ → ℕ → ℕ → ℕ → ℕ → ℕ
sum0 b0 b1 b2 b3 b4 b5 b6 = (b0 + b2 + b3 + b5 + b6) % 2

abbrev sum1 : ℕ → ℕ → ℕ → ℕ → ℕ → ℕ → ℕ → ℕ
sum1 b0 b1 b2 b3 b4 b5 b6 = (b0 + b1 + b2 + b3 + b6) % 2

abbrev sum2 : ℕ → ℕ → ℕ → ℕ → ℕ → ℕ → ℕ → ℕ
sum2 b0 b1 b2 b3 b4 b5 b6 = (b0 + b1 + b4 + b6) % 2

-- such a sum of the number r's bits
abbrev of_bits : (ℕ → ℕ → ℕ → ℕ → ℕ → ℕ → ℕ → ℕ) → ℕ → ℕ
of_bits f r = f (r % 2) (r / 2 % 2) (r / 2 / 2 % 2) (r / 2 / 2 / 2 % 2) (r / 2 / 2 / 2 / 2 % 2) (r / 2 / 2 / 2 / 2 / 2 % 2) (r / 2 / 2 / 2 / 2 / 2 / 2 % 2)

of_bits_lem : (f : ℕ → ℕ → ℕ → ℕ → ℕ → ℕ → ℕ → ℕ) (b0 b1 b2 b3 b4 b5 b6 : ℕ) → b0 < 2 → b1 < 2 → b2 < 2 → b3 < 2 → b4 < 2 → b5 < 2 → b6 < 2 → of_bits f (b0 + 2 * six b1 b2 b3 b4 b5 b6) ≡ f b0 b1 b2 b3 b4 b5 b6
of_bits_lem f b0 b1 b2 b3 b4 b5 b6 h0 h1 h2 h3 h4 h5 h6 =
    simp (high, low, last)
  where
    low : (b r : ℕ) → b < 2 → (b + 2 * r) % 2 ≡ b
    low b r h = omega arith

    high : (b r : ℕ) → b < 2 → (b + 2 * r) / 2 ≡ r
    high b r h = omega arith

    last : b6 % 2 ≡ b6
    last = omega arith

registers : List ℕ
registers = list_of 128 (λ (k : ℕ). k)

-- one test of the 128 registers for each mask
abbrev Sums : ℕ → (ℕ → ℕ → ℕ → ℕ → ℕ → ℕ → ℕ → ℕ) → Type 0
Sums mask f = T (every (λ (k r : ℕ). eqb (parity r mask) (of_bits f r)) 0 registers)

sums0 : Sums 0o155 sum0
unfolding registers list_from parity ones ones_in
sums0 = tt

sums1 : Sums 0o117 sum1
unfolding registers list_from parity ones ones_in
sums1 = tt

sums2 : Sums 0o123 sum2
unfolding registers list_from parity ones ones_in
sums2 = tt

-- what step i of a message gives at each output, from the state that its last six bits make
module _ {a : ℕ → ℕ} {bs : List Bool} (p : Spells a bs) (x : ℕ) (now : x ≡ a (length bs)) (bit : x < 2) where
  same_sum : (f : ℕ → ℕ → ℕ → ℕ → ℕ → ℕ → ℕ → ℕ) → of_bits f (register (end_of 0 bs) x) ≡ f (a (length bs)) (earlier a (length bs) 1) (earlier a (length bs) 2) (earlier a (length bs) 3) (earlier a (length bs) 4) (earlier a (length bs) 5) (earlier a (length bs) 6)
  unfolding state_at
  same_sum f =
      let n : ℕ = length bs in
      ap (of_bits f) (ap (λ (s : ℕ). 2 * s + x) (state_is p) ∙ swap (state_at a n) now)
      ∙ of_bits_lem f (a n) (earlier a n 1) (earlier a n 2) (earlier a n 3) (earlier a n 4) (earlier a n 5) (earlier a n 6) (omega arith) (spelt-lt p 0) (spelt-lt p 1) (spelt-lt p 2) (spelt-lt p 3) (spelt-lt p 4) (spelt-lt p 5)
    where
      swap : (s : ℕ) {y z : ℕ} → y ≡ z → 2 * s + y ≡ z + 2 * s
      swap s e = omega arith

  short : register (end_of 0 bs) x < 128
  short = omega (arith, end_lt 0 (omega arith) bs)

  by_sum : (mask : ℕ) (f : ℕ → ℕ → ℕ → ℕ → ℕ → ℕ → ℕ → ℕ) → Sums mask f → parity (register (end_of 0 bs) x) mask ≡ f (a (length bs)) (earlier a (length bs) 1) (earlier a (length bs) 2) (earlier a (length bs) 3) (earlier a (length bs) 4) (earlier a (length bs) 5) (earlier a (length bs) 6)
  unfolding registers
  by_sum mask f t =
      let r : ℕ = register (end_of 0 bs) x in
      let it : get_or registers r 0 ≡ r = list_of-at 128 (λ (k : ℕ). k) 0 r short in
      let one : T (eqb (parity (get_or registers r 0) mask) (of_bits f (get_or registers r 0))) = rule_at (λ (k r : ℕ). eqb (parity r mask) (of_bits f r)) 0 registers t r (subst (λ (n : ℕ). r < n) (sym (length-list_of 128 (λ (k : ℕ). k))) short) in
      eqb→eq (parity r mask) (of_bits f r) (subst (λ (n : ℕ). T (eqb (parity n mask) (of_bits f n))) it one) ∙ same_sum f

  pub output_is : (g : ℕ) → g < 4 → out_bit (end_of 0 bs) x g ≡ code_bit a g (length bs)
  unfolding out_bit code_bit x0 x1 x2
  output_is zero l = by_sum 0o155 sum0 sums0
  output_is (suc zero) l = by_sum 0o117 sum1 sums1
  output_is (suc (suc zero)) l = by_sum 0o123 sum2 sums2
  output_is (suc (suc (suc zero))) l = by_sum 0o155 sum0 sums0
  output_is (suc (suc (suc (suc g)))) l = absurd (omega arith)

-- a path spells its own bits
spells_own : (bs : List Bool) (r : List ℕ) → Spells (λ (i : ℕ). get_or (reverse_aux (map bit_n bs) r) i 0) bs
spells_own [] r = nothing
spells_own (b ∷ bs) r = next (sym here) (spells_own bs (bit_n b ∷ r))
  where
    here : get_or (reverse_aux (map bit_n bs) (bit_n b ∷ r)) (length bs) 0 ≡ bit_n b
    here =
        ap (λ (l : List ℕ). get_or l (length bs) 0) (reverse_aux-eq (map bit_n bs) (bit_n b ∷ r))
        ∙ get_or_at (reverse (map bit_n bs)) (bit_n b) r 0 (length bs) (length-reverse (map bit_n bs) ∙ length-map bs bit_n)

pub spells_spelt : (bs : List Bool) → Spells (spelt bs) bs
unfolding spelt
spells_spelt bs = spells_own bs []

-- output g of the step that appends bit b to a path from state 0 is bit x_g of clause 11.1.1
pub path_output : OutputIsCodeBit
path_output b bs g l = go (spells_spelt (b ∷ bs))
  where
    go : Spells (spelt (b ∷ bs)) (b ∷ bs) → out_bit (end_of 0 bs) (bit_n b) g ≡ code_bit (spelt (b ∷ bs)) g (length bs)
    go (next e p) = output_is p (bit_n b) e (bit_lt b) g l

-- ---- the end

-- six zeros bring a path to state 0
pub six_zeros_lem : (s : ℕ) (bs : List Bool) → end_of s (false ∷ false ∷ false ∷ false ∷ false ∷ false ∷ bs) ≡ 0
unfolding end_of next_state
six_zeros_lem s bs = go (end_of s bs)
  where
    twice : (n : ℕ) → (2 * (n % 64) + 0) % 64 ≡ 2 * n % 64
    twice n = omega arith

    go : (n : ℕ) → (2 * ((2 * ((2 * ((2 * ((2 * ((2 * n + 0) % 64) + 0) % 64) + 0) % 64) + 0) % 64) + 0) % 64) + 0) % 64 ≡ 0
    go n = simp twice (omega arith)

-- ---- the path of a message: the message and six zeros

module _ (m : List ℕ) where
  pub length-sent : length (sent_path m) ≡ length m + 6
  unfolding sent_path
  length-sent = ap (λ (n : ℕ). suc (suc (suc (suc (suc (suc n)))))) (length-reverse (map is_odd m) ∙ length-map m is_odd) ∙ sym (add_six (length m))

  -- it ends in state 0, so both decoders permit it
  pub sent-permitted : (ends : Ends) → Permits ends (end_of 0 (sent_path m))
  unfolding sent_path Permits
  sent-permitted zero_end = six_zeros_lem 0 (reverse (map is_odd m))
  sent-permitted free_end = tt

-- its bits, the oldest first
pub sent-bits : (m : List ℕ) → AreBits m → reverse (map bit_n (sent_path m)) ≡ m ++ six_zeros
unfolding sent_path
sent-bits m h = go m h [] six_zeros
  where
    go : (m : List ℕ) → AreBits m → (bs : List Bool) (r : List ℕ) → reverse_aux (map bit_n (reverse_aux (map is_odd m) bs)) r ≡ reverse_aux (map bit_n bs) (m ++ r)
    go [] h bs r = refl
    go (x ∷ m) h bs r = go m (below_tail h) (is_odd x ∷ bs) r ∙ ap (λ (n : ℕ). reverse_aux (map bit_n bs) (n ∷ m ++ r)) (odd_is x (below-head h))

-- it spells the message, zero beyond
pub sent_spells : (m : List ℕ) → AreBits m → Spells (λ (i : ℕ). get_or m i 0) (sent_path m)
unfolding sent_path
sent_spells m h =
    let p : Spells a (reverse (map is_odd m)) = bits m [] h (λ i. ap a (sym (zero-add i))) nothing in
    let l : length m ≤ length (reverse (map is_odd m)) = omega (arith, length-reverse (map is_odd m), length-map m is_odd) in
    more (more (more (more (more (more p (omega arith)) (omega arith)) (omega arith)) (omega arith)) (omega arith)) (omega arith)
  where
    a : ℕ → ℕ
    a i = get_or m i 0

    bits : (l : List ℕ) (bs : List Bool) → AreBits l → ((i : ℕ) → get_or l i 0 ≡ a (length bs + i)) → Spells a bs → Spells a (reverse_aux (map is_odd l) bs)
    bits [] bs k e p = p
    bits (x ∷ l) bs k e p =
        bits l (is_odd x ∷ bs) (below_tail k) (λ i. e (suc i) ∙ ap a (omega arith))
        (next (odd_is x (below-head k) ∙ e 0 ∙ ap a (add-zero (length bs))) p)

    more : {bs : List Bool} → Spells a bs → length m ≤ length bs → Spells a (false ∷ bs)
    more p l = next (sym (get_or-eq_default m 0 l)) p

-- ---- the code word

outputs_length : (s : ℕ) (bs : List Bool) → length (outputs_of s bs) ≡ 4 * length bs
unfolding outputs_of
outputs_length s [] = refl
outputs_length s (b ∷ bs) = length-append (outputs_of s bs) _ ∙ omega (arith, outputs_length s bs)

-- place 4 k + g of the outputs along a path that spells a message is output g of the clause's step k
outputs_at : {a : ℕ → ℕ} {bs : List Bool} → Spells a bs → (k g : ℕ) → k < length bs → g < 4 → get_or (outputs_of 0 bs) (4 * k + g) 0 ≡ code_bit a g k
unfolding outputs_of
outputs_at nothing k g h l = absurd (omega arith)
outputs_at {a} (next {b} {bs} e p) k g h l = go (dec_lt k (length bs)) (λ i. outputs_at p k g i l)
  where
    last : List ℕ
    last = out_bit (end_of 0 bs) (bit_n b) 0 ∷ out_bit (end_of 0 bs) (bit_n b) 1 ∷ out_bit (end_of 0 bs) (bit_n b) 2 ∷ out_bit (end_of 0 bs) (bit_n b) 3 ∷ []

    here : (g : ℕ) → g < 4 → get_or last g 0 ≡ code_bit a g (length bs)
    here zero l = output_is p (bit_n b) e (bit_lt b) 0 l
    here (suc zero) l = output_is p (bit_n b) e (bit_lt b) 1 l
    here (suc (suc zero)) l = output_is p (bit_n b) e (bit_lt b) 2 l
    here (suc (suc (suc zero))) l = output_is p (bit_n b) e (bit_lt b) 3 l
    here (suc (suc (suc (suc g)))) l = absurd (omega arith)

    go : Dec (k < length bs) → (k < length bs → get_or (outputs_of 0 bs) (4 * k + g) 0 ≡ code_bit a g k) → get_or (outputs_of 0 bs ++ last) (4 * k + g) 0 ≡ code_bit a g k
    go (yes i) again = get_or-append (outputs_of 0 bs) last 0 (4 * k + g) (omega (arith, outputs_length 0 bs)) ∙ again i
    go (no i) again =
        let is : k ≡ length bs = omega arith in
        ap (λ (n : ℕ). get_or (outputs_of 0 bs ++ last) n 0) (omega (arith, outputs_length 0 bs))
        ∙ get_or-append-add (outputs_of 0 bs) last g 0 ∙ here g l ∙ ap (code_bit a g) (sym is)

-- walked from state 0, a message and its six zeros give the message's code word
pub path_word : PathIsCodeWord
path_word m h = ext_get_or 0 (outputs_of 0 (sent_path m)) (code_word m) (long ∙ sym (length_word m)) each
  where
    long : length (outputs_of 0 (sent_path m)) ≡ 4 * (length m + 6)
    long = outputs_length 0 (sent_path m) ∙ ap (λ (n : ℕ). 4 * n) (length-sent m)

    each : (j : ℕ) → j < length (outputs_of 0 (sent_path m)) → get_or (outputs_of 0 (sent_path m)) j 0 ≡ get_or (code_word m) j 0
    each j l =
        let k : ℕ = j / 4 in
        let g : ℕ = j % 4 in
        let is : j ≡ 4 * k + g = omega arith in
        let short : k < length m + 6 = omega (arith, long) in
        ap (λ (n : ℕ). get_or (outputs_of 0 (sent_path m)) n 0) is
        ∙ outputs_at (sent_spells m h) k g (omega (arith, length-sent m)) (omega arith)
        ∙ sym (word_at m k g short (omega arith)) ∙ ap (λ (n : ℕ). get_or (code_word m) n 0) (sym is)
