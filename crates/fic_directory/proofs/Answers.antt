-- The answer of reading FIBs, by the two lengths.
-- Assumes nothing.
use mathlib.Core.Path.{◌≡◌, sym, ap, ◌∙◌}
use mathlib.Core.List.{List, ◌++◌}
use mathlib.Core.Logic.{◌⊎◌, inl, inr}
use Prim.Native.Nat.{ℕ, ◌<◌, ◌≤◌}
use lib.ListN.{length, take, drop, take-append-drop}
use Rattle.std.specs.Prelude.{Ok, Err}
use Rattle.refusal.specs.Outcome.{gives, outcome, unless_refused}
use Rattle.refusal.specs.declared.Refusal.TheVariants.{ShortDirectory}
use Rattle.fic_directory_places.specs.Places.{Held, held}
use Rattle.fic_directory_places.specs.Promises.{directory_refusal}
use Rattle.fic_directory_places.proofs.Refusals.{few-subs, few-services, enough}
use Rattle.fic_directory.specs.declared.Reading.{Reading}
use Rattle.fic_directory.specs.Promises.{read_into, reading_of, ReadPromise}
use Rattle.fic_directory.specs.Code.{and_beyond, AllRead}

module _ (bytes : List ℕ) (h : Held) where
  pub refused : (length h.subs < 64) ⊎ ((64 ≤ length h.subs) × (length h.services < 256)) → ReadPromise bytes h (Err ShortDirectory) h
  refused few = record { answer = sym (ap (λ (n : ℕ). outcome n (reading_of bytes h)) (twelve few)); numbers = sym (ap (λ (n : ℕ). unless_refused n (read_into bytes h).numbers h) (twelve few)) }
    where
      twelve : (length h.subs < 64) ⊎ ((64 ≤ length h.subs) × (length h.services < 256)) → directory_refusal (length h.subs) (length h.services) ≡ 12
      twelve (inl l) = few-subs (length h.subs) (length h.services) l
      twelve (inr l) = few-services (length h.subs) (length h.services) l.0 l.1

  -- the places are read, and what is beyond them is put back behind them
  pub accepted : (xs ys : List ℕ) (r : Reading) (now : Held) → 64 ≤ length h.subs → 256 ≤ length h.services → xs ≡ take 64 h.subs → ys ≡ take 256 h.services → AllRead bytes (held xs ys) r now
      → ReadPromise bytes h (Ok r) (held (now.subs ++ drop 64 h.subs) (now.services ++ drop 256 h.services))
  accepted xs ys r now k l e f a =
      let beyond : Held = held (drop 64 h.subs) (drop 256 h.services) in
      let n = enough (length h.subs) (length h.services) k l in
      let whole : and_beyond (held xs ys) beyond ≡ h =
      (λ i. held (e i ++ drop 64 h.subs) (f i ++ drop 256 h.services)) ∙ (λ i. held (take-append-drop 64 h.subs i) (take-append-drop 256 h.services i)) in
      record {
        answer = ap gives (a.reading beyond ∙ ap (reading_of bytes) whole) ∙ sym (ap (λ (m : ℕ). outcome m (reading_of bytes h)) n);
        numbers = a.numbers beyond ∙ ap (λ (g : Held). (read_into bytes g).numbers) whole ∙ sym (ap (λ (m : ℕ). unless_refused m (read_into bytes h).numbers h) n);
      }
