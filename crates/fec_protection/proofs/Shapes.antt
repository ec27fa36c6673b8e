-- The refusals 5 to 7 of a profile's size, a bit rate and a place, each from its test and those before it.
-- Assumes nothing.
use mathlib.Core.Path.{◌≡◌, refl}
use Prim.Native.Nat.{ℕ, ◌+◌, ◌*◌, ◌%◌, ◌<◌, ◌≤◌}
use borrow.Author.Tests.{lt-ltb, le-ltb, eq-eqb, ne_eqb}
use Rattle.spec_en300401.specs.Eep.{unit}
use Rattle.refusal.specs.Outcome.{first_of}
use Rattle.refusal.proofs.Laws.{or_else-zero}
use Rattle.fec_protection.specs.Refusals.{outside, eep_shape, uep_shape}

module _ (start size : ℕ) where
  module _ (option rate needed : ℕ) where
    pub size-refused : (64 * size ≡ needed → ⊥) → first_of (eep_shape option rate start size needed) ≡ 5
    unfolding eep_shape
    size-refused h = rw (ne_eqb (64 * size) needed h) refl

    pub unit-refused : 64 * size ≡ needed → (rate % unit option ≡ 0 → ⊥) → first_of (eep_shape option rate start size needed) ≡ 6
    unfolding eep_shape
    unit-refused e h = rw (eq-eqb (64 * size) needed e, ne_eqb (rate % unit option) 0 h) refl

    pub eep-place : 64 * size ≡ needed → rate % unit option ≡ 0 → first_of (eep_shape option rate start size needed) ≡ outside start size
    unfolding eep_shape
    eep-place e h = rw (eq-eqb (64 * size) needed e, eq-eqb (rate % unit option) 0 h) (or_else-zero (outside start size))

  module _ (needed : ℕ) where
    pub short-refused : 64 * size < needed → first_of (uep_shape start size needed) ≡ 5
    unfolding uep_shape
    short-refused h = rw (lt-ltb (64 * size) needed h) refl

    pub long-refused : needed ≤ 64 * size → needed + 8 < 64 * size → first_of (uep_shape start size needed) ≡ 5
    unfolding uep_shape
    long-refused h k = rw (le-ltb (64 * size) needed h, lt-ltb (needed + 8) (64 * size) k) refl

    pub uep-place : needed ≤ 64 * size → 64 * size ≤ needed + 8 → first_of (uep_shape start size needed) ≡ outside start size
    unfolding uep_shape
    uep-place h k = rw (le-ltb (64 * size) needed h, le-ltb (needed + 8) (64 * size) k) (or_else-zero (outside start size))
