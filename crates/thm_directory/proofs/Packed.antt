-- A number's fields are read back: a sub-channel's, a service's.
-- Assumes nothing.
use mathlib.Core.Path.{◌≡◌, refl, sym, ap, ◌∙◌, subst}
use mathlib.Core.Bool.{Bool, true, false, cond}
use mathlib.Core.List.{List, [], ◌∷◌}
use mathlib.Core.Option.{none, some}
use Prim.Native.Nat.{ℕ, zero, suc, ◌+◌, ◌*◌, ◌/◌, ◌%◌, ◌^◌, ◌<◌, ◌≤◌, min}
use native.Mathlib.Omega.{arith}
use native.Mathlib.Nat.{add-mul-div_left, add-mul-mod_self_left, div-eq_of_lt, mod-eq_of_lt, zero-add}
use borrow.Author.Tests.{eq-eqb, ltb-true, ltb-false}
use lib.Dec.{eqb, ltb}
use lib.ListN.{length, get_or, set, length-set, get_or-eq_default}
use lib.Seq.{sets, get_or-set_same, get_or-set_other, ext_get_or}
use Rattle.laws.specs.Words.{pick_n}
use Rattle.laws.specs.Lists.{list_of}
use Rattle.laws.proofs.Lists.{length-list_of, list_of-at}
use Rattle.spec_en300401.specs.Organisation.{SubChannel, Service}
use Rattle.fic_directory_places.specs.Places.{sub_word, sub_in, service_head, component_word, service_words, service_at}
use Rattle.thm_directory.specs.Theorems.{SubFits, ServiceFits, SubHeld, ServiceHeld}

-- a value v, below K, over a low part below J
between : (low J v K h : ℕ) → low < J → v < K → (low + J * (v + K * h)) / J % K ≡ v
between low J v K h l m =
    ap (λ (n : ℕ). n % K) (add-mul-div_left low (v + K * h) (omega arith) ∙ ap (λ (n : ℕ). n + (v + K * h)) (div-eq_of_lt l) ∙ zero-add (v + K * h))
    ∙ add-mul-mod_self_left v K h ∙ mod-eq_of_lt m

bit : (b : Bool) → pick_n b 1 0 < 2
bit true = omega arith
bit false = omega arith

bit_back : (b : Bool) → eqb (pick_n b 1 0) 1 ≡ b
bit_back true = refl
bit_back false = refl

module _ (c : SubChannel) (f : SubFits c) where
  abbrev e : ℕ
  e = pick_n c.eep 1 0

  abbrev w : ℕ
  w = c.start + c.size * 2 ^ 16 + c.rate * 2 ^ 32 + c.level * 2 ^ 48 + c.option * 2 ^ 56 + e * 2 ^ 60 + 2 ^ 61

  start_back : w / 1 % 2 ^ 16 ≡ c.start
  start_back =
      let p : w ≡ 0 + 1 * (c.start + 2 ^ 16 * (c.size + 2 ^ 16 * (c.rate + 2 ^ 16 * (c.level + 2 ^ 8 * (c.option + 2 ^ 4 * (e + 2)))))) = omega arith in
      ap (λ (n : ℕ). n / 1 % 2 ^ 16) p
      ∙ between 0 1 c.start (2 ^ 16) (c.size + 2 ^ 16 * (c.rate + 2 ^ 16 * (c.level + 2 ^ 8 * (c.option + 2 ^ 4 * (e + 2))))) (omega arith) f.start

  size_back : w / 2 ^ 16 % 2 ^ 16 ≡ c.size
  size_back =
      let p : w ≡ c.start + 2 ^ 16 * (c.size + 2 ^ 16 * (c.rate + 2 ^ 16 * (c.level + 2 ^ 8 * (c.option + 2 ^ 4 * (e + 2))))) = omega arith in
      ap (λ (n : ℕ). n / 2 ^ 16 % 2 ^ 16) p
      ∙ between c.start (2 ^ 16) c.size (2 ^ 16) (c.rate + 2 ^ 16 * (c.level + 2 ^ 8 * (c.option + 2 ^ 4 * (e + 2)))) f.start f.size

  rate_back : w / 2 ^ 32 % 2 ^ 16 ≡ c.rate
  rate_back =
      let p : w ≡ c.start + c.size * 2 ^ 16 + 2 ^ 32 * (c.rate + 2 ^ 16 * (c.level + 2 ^ 8 * (c.option + 2 ^ 4 * (e + 2)))) = omega arith in
      ap (λ (n : ℕ). n / 2 ^ 32 % 2 ^ 16) p
      ∙ between (c.start + c.size * 2 ^ 16) (2 ^ 32) c.rate (2 ^ 16) (c.level + 2 ^ 8 * (c.option + 2 ^ 4 * (e + 2))) (omega (arith, f.start, f.size)) f.rate

  level_back : w / 2 ^ 48 % 2 ^ 8 ≡ c.level
  level_back =
      let p : w ≡ c.start + c.size * 2 ^ 16 + c.rate * 2 ^ 32 + 2 ^ 48 * (c.level + 2 ^ 8 * (c.option + 2 ^ 4 * (e + 2))) = omega arith in
      ap (λ (n : ℕ). n / 2 ^ 48 % 2 ^ 8) p
      ∙ between (c.start + c.size * 2 ^ 16 + c.rate * 2 ^ 32) (2 ^ 48) c.level (2 ^ 8) (c.option + 2 ^ 4 * (e + 2)) (omega (arith, f.start, f.size, f.rate)) f.level

  option_back : w / 2 ^ 56 % 2 ^ 4 ≡ c.option
  option_back =
      let p : w ≡ c.start + c.size * 2 ^ 16 + c.rate * 2 ^ 32 + c.level * 2 ^ 48 + 2 ^ 56 * (c.option + 2 ^ 4 * (e + 2)) = omega arith in
      ap (λ (n : ℕ). n / 2 ^ 56 % 2 ^ 4) p
      ∙ between (c.start + c.size * 2 ^ 16 + c.rate * 2 ^ 32 + c.level * 2 ^ 48) (2 ^ 56) c.option (2 ^ 4) (e + 2) (omega (arith, f.start, f.size, f.rate, f.level)) f.option

  eep_back : w / 2 ^ 60 % 2 ≡ e
  eep_back =
      let p : w ≡ c.start + c.size * 2 ^ 16 + c.rate * 2 ^ 32 + c.level * 2 ^ 48 + c.option * 2 ^ 56 + 2 ^ 60 * (e + 2 * 1) = omega arith in
      ap (λ (n : ℕ). n / 2 ^ 60 % 2) p
      ∙ between (c.start + c.size * 2 ^ 16 + c.rate * 2 ^ 32 + c.level * 2 ^ 48 + c.option * 2 ^ 56) (2 ^ 60) e 2 1 (omega (arith, f.start, f.size, f.rate, f.level, f.option)) (bit c.eep)

  mark_back : w / 2 ^ 61 % 2 ≡ 1
  mark_back =
      let p : w ≡ c.start + c.size * 2 ^ 16 + c.rate * 2 ^ 32 + c.level * 2 ^ 48 + c.option * 2 ^ 56 + e * 2 ^ 60 + 2 ^ 61 * (1 + 2 * 0) = omega arith in
      ap (λ (n : ℕ). n / 2 ^ 61 % 2) p
      ∙ between (c.start + c.size * 2 ^ 16 + c.rate * 2 ^ 32 + c.level * 2 ^ 48 + c.option * 2 ^ 56 + e * 2 ^ 60) (2 ^ 61) 1 2 0 (omega (arith, f.start, f.size, f.rate, f.level, f.option, bit c.eep)) (omega arith)

  sub_back : sub_in (sub_word c) ≡ some c
  unfolding sub_in sub_word
  sub_back =
      ap (λ (b : Bool). cond b (some (record { start = w / 1 % 2 ^ 16; size = w / 2 ^ 16 % 2 ^ 16; rate = w / 2 ^ 32 % 2 ^ 16; level = w / 2 ^ 48 % 2 ^ 8; option = w / 2 ^ 56 % 2 ^ 4; eep = eqb (w / 2 ^ 60 % 2) 1 })) none) (eq-eqb (w / 2 ^ 61 % 2) 1 mark_back)
      ∙ (λ i. some (record { start = start_back i; size = size_back i; rate = rate_back i; level = level_back i; option = option_back i; eep = (ap (λ (n : ℕ). eqb n 1) eep_back ∙ bit_back c.eep) i }))

pub sub_held : SubHeld
sub_held c f = sub_back c f

-- ---- a service

-- four values in a number
module _ (a b c d : ℕ) (ha : a < 2 ^ 16) (hb : b < 2 ^ 16) (hc : c < 2 ^ 16) (hd : d < 2 ^ 16) where
  abbrev all : ℕ
  all = a + b * 2 ^ 16 + c * 2 ^ 32 + d * 2 ^ 48

  first_of : all / 2 ^ 0 % 2 ^ 16 ≡ a
  first_of =
      let p : all ≡ 0 + 1 * (a + 2 ^ 16 * (b + 2 ^ 16 * (c + 2 ^ 16 * d))) = omega arith in
      ap (λ (n : ℕ). n / 1 % 2 ^ 16) p ∙ between 0 1 a (2 ^ 16) (b + 2 ^ 16 * (c + 2 ^ 16 * d)) (omega arith) ha

  second_of : all / 2 ^ 16 % 2 ^ 16 ≡ b
  second_of =
      let p : all ≡ a + 2 ^ 16 * (b + 2 ^ 16 * (c + 2 ^ 16 * d)) = omega arith in
      ap (λ (n : ℕ). n / 2 ^ 16 % 2 ^ 16) p ∙ between a (2 ^ 16) b (2 ^ 16) (c + 2 ^ 16 * d) ha hb

  third_of : all / 2 ^ 32 % 2 ^ 16 ≡ c
  third_of =
      let p : all ≡ a + b * 2 ^ 16 + 2 ^ 32 * (c + 2 ^ 16 * d) = omega arith in
      ap (λ (n : ℕ). n / 2 ^ 32 % 2 ^ 16) p ∙ between (a + b * 2 ^ 16) (2 ^ 32) c (2 ^ 16) d (omega arith) hc

  fourth_of : all / 2 ^ 48 % 2 ^ 16 ≡ d
  fourth_of =
      let p : all ≡ a + b * 2 ^ 16 + c * 2 ^ 32 + 2 ^ 48 * (d + 2 ^ 16 * 0) = omega arith in
      ap (λ (n : ℕ). n / 2 ^ 48 % 2 ^ 16) p ∙ between (a + b * 2 ^ 16 + c * 2 ^ 32) (2 ^ 48) d (2 ^ 16) 0 (omega arith) hd

-- component k in its number
component_back : (cs : List ℕ) (k : ℕ) → ((j : ℕ) → get_or cs j 0 < 2 ^ 16) → component_word cs (k / 4) / 2 ^ (16 * (k % 4)) % 2 ^ 16 ≡ get_or cs k 0
unfolding component_word
component_back cs k small = by (k % 4) (omega arith) (omega arith)
  where
    a : ℕ → ℕ
    a j = get_or cs (4 * (k / 4) + j) 0

    by : (j : ℕ) → 4 * (k / 4) + j ≡ k → j < 4 → (get_or cs (4 * (k / 4)) 0 + get_or cs (4 * (k / 4) + 1) 0 * 2 ^ 16 + get_or cs (4 * (k / 4) + 2) 0 * 2 ^ 32 + get_or cs (4 * (k / 4) + 3) 0 * 2 ^ 48) / 2 ^ (16 * j) % 2 ^ 16 ≡ get_or cs k 0
    by zero e l =
        let z : 4 * (k / 4) ≡ k = omega arith in
        first_of (get_or cs (4 * (k / 4)) 0) (get_or cs (4 * (k / 4) + 1) 0) (get_or cs (4 * (k / 4) + 2) 0) (get_or cs (4 * (k / 4) + 3) 0) (small (4 * (k / 4))) (small (4 * (k / 4) + 1)) (small (4 * (k / 4) + 2)) (small (4 * (k / 4) + 3)) ∙ ap (λ (n : ℕ). get_or cs n 0) z
    by (suc zero) e l = second_of (get_or cs (4 * (k / 4)) 0) (get_or cs (4 * (k / 4) + 1) 0) (get_or cs (4 * (k / 4) + 2) 0) (get_or cs (4 * (k / 4) + 3) 0) (small (4 * (k / 4))) (small (4 * (k / 4) + 1)) (small (4 * (k / 4) + 2)) (small (4 * (k / 4) + 3)) ∙ ap (λ (n : ℕ). get_or cs n 0) e
    by (suc (suc zero)) e l = third_of (get_or cs (4 * (k / 4)) 0) (get_or cs (4 * (k / 4) + 1) 0) (get_or cs (4 * (k / 4) + 2) 0) (get_or cs (4 * (k / 4) + 3) 0) (small (4 * (k / 4))) (small (4 * (k / 4) + 1)) (small (4 * (k / 4) + 2)) (small (4 * (k / 4) + 3)) ∙ ap (λ (n : ℕ). get_or cs n 0) e
    by (suc (suc (suc zero))) e l = fourth_of (get_or cs (4 * (k / 4)) 0) (get_or cs (4 * (k / 4) + 1) 0) (get_or cs (4 * (k / 4) + 2) 0) (get_or cs (4 * (k / 4) + 3) 0) (small (4 * (k / 4))) (small (4 * (k / 4) + 1)) (small (4 * (k / 4) + 2)) (small (4 * (k / 4) + 3)) ∙ ap (λ (n : ℕ). get_or cs n 0) e
    by (suc (suc (suc (suc j)))) e l = absurd (omega arith)

-- what a run of four stores leaves
module _ (xs : List ℕ) (i a b c d : ℕ) (fits : i + 4 ≤ length xs) where
  abbrev x1 : List ℕ
  x1 = set xs i a

  abbrev x2 : List ℕ
  x2 = set x1 (suc i) b

  abbrev x3 : List ℕ
  x3 = set x2 (suc (suc i)) c

  abbrev x4 : List ℕ
  x4 = set x3 (suc (suc (suc i))) d

  l1 : length x1 ≡ length xs
  l1 = length-set xs i a

  l2 : length x2 ≡ length xs
  l2 = length-set x1 (suc i) b ∙ l1

  l3 : length x3 ≡ length xs
  l3 = length-set x2 (suc (suc i)) c ∙ l2

  at_0 : get_or x4 i 0 ≡ a
  at_0 =
      get_or-set_other x3 (suc (suc (suc i))) i d 0 (λ e. omega arith) ∙ get_or-set_other x2 (suc (suc i)) i c 0 (λ e. omega arith)
      ∙ get_or-set_other x1 (suc i) i b 0 (λ e. omega arith) ∙ get_or-set_same xs i a 0 (omega arith)

  at_1 : get_or x4 (suc i) 0 ≡ b
  at_1 =
      get_or-set_other x3 (suc (suc (suc i))) (suc i) d 0 (λ e. omega arith) ∙ get_or-set_other x2 (suc (suc i)) (suc i) c 0 (λ e. omega arith)
      ∙ get_or-set_same x1 (suc i) b 0 (omega (arith, l1))

  at_2 : get_or x4 (suc (suc i)) 0 ≡ c
  at_2 = get_or-set_other x3 (suc (suc (suc i))) (suc (suc i)) d 0 (λ e. omega arith) ∙ get_or-set_same x2 (suc (suc i)) c 0 (omega (arith, l2))

  at_3 : get_or x4 (suc (suc (suc i))) 0 ≡ d
  at_3 = get_or-set_same x3 (suc (suc (suc i))) d 0 (omega (arith, l3))

module _ (s : Service) (xs : List ℕ) (i : ℕ) (f : ServiceFits s) (fits : i + 4 ≤ length xs) where
  abbrev n : ℕ
  n = length s.components

  abbrev v : ℕ
  v = pick_n s.wide 1 0

  abbrev head : ℕ
  head = s.sid + v * 2 ^ 32 + n * 2 ^ 40 + 2 ^ 48

  abbrev ys : List ℕ
  ys = sets xs i (head ∷ component_word s.components 0 ∷ component_word s.components 1 ∷ component_word s.components 2 ∷ [])

  few : n ≤ 12
  few = f.few

  sid_back : head / 1 % 2 ^ 32 ≡ s.sid
  sid_back =
      let p : head ≡ 0 + 1 * (s.sid + 2 ^ 32 * (v + n * 2 ^ 8 + 2 ^ 16)) = omega arith in
      ap (λ (m : ℕ). m / 1 % 2 ^ 32) p ∙ between 0 1 s.sid (2 ^ 32) (v + n * 2 ^ 8 + 2 ^ 16) (omega arith) f.sid

  wide_back : head / 2 ^ 32 % 2 ≡ v
  wide_back =
      let p : head ≡ s.sid + 2 ^ 32 * (v + 2 * (n * 2 ^ 7 + 2 ^ 15)) = omega arith in
      ap (λ (m : ℕ). m / 2 ^ 32 % 2) p ∙ between s.sid (2 ^ 32) v 2 (n * 2 ^ 7 + 2 ^ 15) f.sid (bit s.wide)

  count_back : head / 2 ^ 40 % 2 ^ 4 ≡ n
  count_back =
      let p : head ≡ s.sid + v * 2 ^ 32 + 2 ^ 40 * (n + 2 ^ 4 * 2 ^ 4) = omega arith in
      ap (λ (m : ℕ). m / 2 ^ 40 % 2 ^ 4) p ∙ between (s.sid + v * 2 ^ 32) (2 ^ 40) n (2 ^ 4) (2 ^ 4) (omega (arith, f.sid, bit s.wide)) (omega (arith, few))

  there_back : head / 2 ^ 48 % 2 ≡ 1
  there_back =
      let p : head ≡ s.sid + v * 2 ^ 32 + n * 2 ^ 40 + 2 ^ 48 * (1 + 2 * 0) = omega arith in
      ap (λ (m : ℕ). m / 2 ^ 48 % 2) p ∙ between (s.sid + v * 2 ^ 32 + n * 2 ^ 40) (2 ^ 48) 1 2 0 (omega (arith, f.sid, bit s.wide, few)) (omega arith)

  small : (j : ℕ) → get_or s.components j 0 < 2 ^ 16
  small j = by (ltb j n) refl
    where
      by : (b : Bool) → ltb j n ≡ b → get_or s.components j 0 < 2 ^ 16
      by true e = f.words.each j (ltb-true j n e)
      by false e = subst (λ (m : ℕ). m < 2 ^ 16) (sym (get_or-eq_default s.components 0 (ltb-false j n e))) (omega arith)

  word_at : (j : ℕ) → j < 3 → get_or ys (i + 1 + j) 0 ≡ component_word s.components j
  word_at zero h = ap (λ (m : ℕ). get_or ys m 0) (one i) ∙ at_1 xs i head (component_word s.components 0) (component_word s.components 1) (component_word s.components 2) fits
    where
      one : (i : ℕ) → i + 1 + 0 ≡ suc i
      one i = omega arith
  word_at (suc zero) h = ap (λ (m : ℕ). get_or ys m 0) (two i) ∙ at_2 xs i head (component_word s.components 0) (component_word s.components 1) (component_word s.components 2) fits
    where
      two : (i : ℕ) → i + 1 + 1 ≡ suc (suc i)
      two i = omega arith
  word_at (suc (suc zero)) h = ap (λ (m : ℕ). get_or ys m 0) (three i) ∙ at_3 xs i head (component_word s.components 0) (component_word s.components 1) (component_word s.components 2) fits
    where
      three : (i : ℕ) → i + 1 + 2 ≡ suc (suc (suc i))
      three i = omega arith
  word_at (suc (suc (suc j))) h = absurd (omega arith)

  abbrev g : ℕ → ℕ
  g k = get_or ys (i + 1 + k / 4) 0 / 2 ^ (16 * (k % 4)) % 2 ^ 16

  components_back : list_of n g ≡ s.components
  components_back =
      ext_get_or 0 (list_of n g) s.components (length-list_of n g)
      (λ k l. let m : k < n = subst (λ (j : ℕ). k < j) (length-list_of n g) l in list_of-at n g 0 k m ∙ ap (λ (w : ℕ). w / 2 ^ (16 * (k % 4)) % 2 ^ 16) (word_at (k / 4) (omega (arith, few))) ∙ component_back s.components k small)

  service_back : service_at (sets xs i (service_words s (length s.components))) i ≡ some s
  unfolding service_at service_words service_head
  service_back =
      let at : get_or ys i 0 ≡ head = at_0 xs i head (component_word s.components 0) (component_word s.components 1) (component_word s.components 2) fits in
      let made : ℕ → ℕ → Service = λ (w k : ℕ). record { wide = eqb (w / 2 ^ 32 % 2) 1; sid = w / 1 % 2 ^ 32; components = list_of k g } in
      let k : min 12 (head / 2 ^ 40 % 2 ^ 4) ≡ n = ap (min 12) count_back ∙ least n few in
      ap (λ (w : ℕ). cond (eqb (w / 2 ^ 48 % 2) 1) (some (made w (min 12 (w / 2 ^ 40 % 2 ^ 4)))) none) at
      ∙ ap (λ (b : Bool). cond b (some (made head (min 12 (head / 2 ^ 40 % 2 ^ 4)))) none) (eq-eqb (head / 2 ^ 48 % 2) 1 there_back)
      ∙ (λ t. some (record { wide = (ap (λ (m : ℕ). eqb m 1) wide_back ∙ bit_back s.wide) t; sid = sid_back t; components = (ap (λ (m : ℕ). list_of m g) k ∙ components_back) t }))
    where
      least : (m : ℕ) → m ≤ 12 → min 12 m ≡ m
      least m h = omega arith

pub service-held : ServiceHeld
service-held s xs i f h = service_back s xs i f h
