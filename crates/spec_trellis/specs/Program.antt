-- Document 01, "viterbi.rs": the dynamic program that finds the best path. No promise to a caller names it: proofs do, and the contracts of the decoder's private functions.
use Rattle.std.specs.Prelude.{◌≡◌, Bool, List, [], ◌∷◌, ◌++◌, ℕ, zero, suc, ◌+◌, ◌*◌, ◌/◌, ◌%◌, ◌^◌, ◌<◌, ◌≤◌, get_or, ℤ, pos, nat_abs, ◌+ℤ◌, ◌-ℤ◌, ◌≤ℤ◌, ◌<ℤ◌}
use Rattle.std.specs.Int.Signed.{lt_z}
use Rattle.laws.specs.Integers.{pick_z}
use Rattle.laws.specs.Words.{pick_n, word_of}
use Rattle.spec_trellis.specs.Trellis.{is_odd, Softs, branch, start_score, Subtracted}

-- each of the four soft values is at most 128 in size
pub record Soft (v0 v1 v2 v3 : ℤ) : Type 0 where
  pub b0 : nat_abs v0 ≤ 128
  pub b1 : nat_abs v1 ≤ 128
  pub b2 : nat_abs v2 ≤ 128
  pub b3 : nat_abs v3 ≤ 128

-- ---- one step: σ the scores by state, β what the step adds by state and input

-- the two ways into state t, by the lower and the higher predecessor
unfoldable pub low_way : (ℕ → ℤ) → (ℕ → ℕ → ℤ) → ℕ → ℤ
low_way σ β t = σ (t / 2) +ℤ β (t / 2) (t % 2)

unfoldable pub high_way : (ℕ → ℤ) → (ℕ → ℕ → ℤ) → ℕ → ℤ
high_way σ β t = σ (t / 2 + 32) +ℤ β (t / 2 + 32) (t % 2)

-- does t take the higher predecessor
unfoldable pub takes : (ℕ → ℤ) → (ℕ → ℕ → ℤ) → ℕ → Bool
takes σ β t = lt_z (low_way σ β t) (high_way σ β t)

-- add, compare, select
unfoldable pub acs : (ℕ → ℤ) → (ℕ → ℕ → ℤ) → ℕ → ℤ
acs σ β t = pick_z (takes σ β t) (high_way σ β t) (low_way σ β t)

-- ---- all steps

-- the score of the survivor into t after n steps
unfoldable pub survivor : List ℤ → ℕ → ℕ → ℤ
survivor xs zero t = start_score t
survivor xs (suc k) t = acs (survivor xs k) (branch xs k) t

-- does t take the higher predecessor at step k
unfoldable pub takes_at : List ℤ → ℕ → ℕ → Bool
takes_at xs k t = takes (survivor xs k) (branch xs k) t

unfoldable pub pred_of : List ℤ → ℕ → ℕ → ℕ
pred_of xs k t = pick_n (takes_at xs k t) (t / 2 + 32) (t / 2)

-- the survivor into t after n steps, read backwards
unfoldable pub bits_into : List ℤ → ℕ → ℕ → List Bool
bits_into xs zero t = []
bits_into xs (suc k) t = is_odd (t % 2) ∷ bits_into xs k (pred_of xs k t)

unfoldable pub start_into : List ℤ → ℕ → ℕ → ℕ
start_into xs zero t = t
start_into xs (suc k) t = start_into xs k (pred_of xs k t)

-- ---- the greatest of some values

-- m is the greatest of the first n values of σ
pub record Greatest (σ : ℕ → ℤ) (n : ℕ) (m : ℤ) : Type 0 where
  pub above : (s : ℕ) → s < n → σ s ≤ℤ m
  pub place : ℕ
  pub place_lt : place < n
  pub is : m ≡ σ place

-- p is the first place of the greatest of the first n values
pub record FirstGreatest (σ : ℕ → ℤ) (n p : ℕ) : Type 0 where
  pub below : p < n
  pub above : (s : ℕ) → s < n → σ s ≤ℤ σ p
  pub first : (s : ℕ) → s < p → σ s <ℤ σ p

-- ---- renormalising

-- document 01: where the best value exceeds 100,000, it is subtracted from all 64
pub data Renormalised (σ τ : ℕ → ℤ) : Type 0 where
  stays : (m : ℤ) → Greatest σ 64 m → m ≤ℤ pos 100000 → ((s : ℕ) → s < 64 → τ s ≡ σ s) → Renormalised σ τ
  falls : (m : ℤ) → Greatest σ 64 m → pos 100000 <ℤ m → ((s : ℕ) → s < 64 → τ s ≡ σ s -ℤ m) → Renormalised σ τ

-- ---- the scores before step k

-- σ is the survivors' scores less the total subtracted
pub record Running (xs : List ℤ) (k : ℕ) (σ : ℕ → ℤ) : Type 0 where
  pub total : ℤ
  pub subtracted : Subtracted xs k total
  pub each : (s : ℕ) → s < 64 → σ s ≡ survivor xs k s -ℤ total

-- ---- after the last step

-- the scores after n steps, and the words of the choices: bit s of word t says that s took its higher predecessor
pub record Forward (xs : List ℤ) (n : ℕ) (σ : ℕ → ℤ) (words : List ℕ) : Type 0 where
  pub running : Running xs n σ
  pub softs : Softs xs n
  pub words_are : (t : ℕ) → t < n → get_or words t 0 ≡ word_of (takes_at xs t) 64

-- ---- the trace back

-- the predecessor of t at step k, as the words have it
unfoldable pub came_from : List ℕ → ℕ → ℕ → ℕ
came_from words k t = t / 2 + 32 * (get_or words k 0 / 2 ^ t % 2)

-- the bits of the path into t after n steps, the oldest first
unfoldable pub traced : List ℕ → ℕ → ℕ → List ℕ
traced words zero t = []
traced words (suc k) t = traced words k (came_from words k t) ++ (t % 2 ∷ [])
