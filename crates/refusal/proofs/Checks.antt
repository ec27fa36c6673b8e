-- Laws of lists of checks: what holds where none refuses, which one is first where one does, and the code's tests in their order.
-- Assumes nothing.
use mathlib.Core.Path.{◌≡◌, refl, sym, ap, ◌∙◌}
use mathlib.Core.Bool.{Bool, true, false, true≢false, cond}
use mathlib.Core.List.{List, [], ◌∷◌, ◌++◌}
use Prim.Native.Nat.{ℕ, zero, suc}
use native.Mathlib.Omega.{arith}
use lib.ListN.{get_or}
use Rattle.refusal.specs.Outcome.{check, or_else, first_of, any_of}
use Rattle.refusal.proofs.Laws.{first-append, or_else-zero}

-- ---- flags

-- no flag of a list holds
pub data NoneOf : List Bool → Type 0 where
  no_flag : NoneOf []
  flag_off : {bs : List Bool} → NoneOf bs → NoneOf (false ∷ bs)

pub none_of : (bs : List Bool) → any_of bs ≡ false → NoneOf bs
none_of [] e = no_flag
none_of (true ∷ bs) e = absurd (true≢false e)
none_of (false ∷ bs) e = flag_off (none_of bs e)

pub off_at : {bs : List Bool} → NoneOf bs → (k : ℕ) → get_or bs k false ≡ false
off_at no_flag k = refl
off_at (flag_off n) zero = refl
off_at (flag_off n) (suc k) = off_at n k

-- a flag that the code tests before later ones
pub flagged : (b : Bool) (bs : List Bool) {r rest : Bool} → r ≡ cond b true rest → rest ≡ any_of bs → r ≡ any_of (b ∷ bs)
flagged b bs e f = e ∙ ap (cond b true) f ∙ go b
  where
    go : (c : Bool) → cond c true (any_of bs) ≡ any_of (c ∷ bs)
    go true = refl
    go false = refl

-- ---- checks

-- no refusal of a list is given
pub data Clean : List ℕ → Type 0 where
  no_check : Clean []
  check_off : {ns : List ℕ} → Clean ns → Clean (0 ∷ ns)

pub clean : (ns : List ℕ) → first_of ns ≡ 0 → Clean ns
clean [] e = no_check
clean (zero ∷ ns) e = check_off (clean ns e)
clean (suc n ∷ ns) e = absurd (omega (arith, e))

pub zeroed : {n : ℕ} {ns : List ℕ} → Clean (n ∷ ns) → n ≡ 0
zeroed (check_off c) = refl

pub later : {n : ℕ} {ns : List ℕ} → Clean (n ∷ ns) → Clean ns
later (check_off c) = c

-- a check that does not refuse: its condition does not hold
pub held_not : (n : ℕ) (b : Bool) → check (suc n) b ≡ 0 → b ≡ false
held_not n true e = absurd (omega (arith, e))
held_not n false e = refl

-- a check that the code makes, before those that it makes later
pub checked : {r later : ℕ} {b : Bool} (n : ℕ) (holds : Bool) (ns : List ℕ) → r ≡ cond b (suc n) later → b ≡ holds → later ≡ first_of ns → r ≡ first_of (check (suc n) holds ∷ ns)
checked n holds ns e f g = e ∙ (λ i. cond (f i) (suc n) (g i)) ∙ go holds
  where
    go : (c : Bool) → cond c (suc n) (first_of ns) ≡ first_of (check (suc n) c ∷ ns)
    go true = refl
    go false = refl

-- a refusal among the first checks is the first of all; where there is none, the later ones decide
pub among : (ns ms : List ℕ) → (first_of ns ≡ 0 → ⊥) → first_of ns ≡ first_of (ns ++ ms)
among ns ms h = go (first_of ns) h ∙ sym (first-append ns ms)
  where
    go : (n : ℕ) → (n ≡ 0 → ⊥) → n ≡ or_else n (first_of ms)
    go zero h = absurd (h refl)
    go (suc n) h = refl

pub past : (ns ms : List ℕ) → first_of ns ≡ 0 → first_of (ns ++ ms) ≡ first_of ms
past ns ms e = first-append ns ms ∙ ap (λ (n : ℕ). or_else n (first_of ms)) e

-- one more check at the end decides where those before it do not refuse
pub last-check : (ns : List ℕ) (m : ℕ) → first_of ns ≡ 0 → first_of (ns ++ (m ∷ [])) ≡ m
last-check ns m e = past ns (m ∷ []) e ∙ or_else-zero m

-- checks that all refuse by one number: the first that refuses, if any, refuses by it
pub data Each : ℕ → List ℕ → Type 0 where
  no_more : {k : ℕ} → Each k []
  same_check : {k : ℕ} {ns : List ℕ} (b : Bool) → Each k ns → Each k (check k b ∷ ns)

pub only : (k : ℕ) {ns : List ℕ} → Each (suc k) ns → (first_of ns ≡ 0 → ⊥) → first_of ns ≡ suc k
only k no_more h = absurd (h refl)
only k (same_check true x) h = refl
only k (same_check false x) h = only k x h

-- where a refusal by that number is sure to follow, they change nothing
pub passed_by : (k : ℕ) {ns : List ℕ} → Each (suc k) ns → or_else (first_of ns) (suc k) ≡ suc k
passed_by k no_more = refl
passed_by k (same_check true x) = refl
passed_by k (same_check false x) = passed_by k x
