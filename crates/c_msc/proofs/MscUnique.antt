-- The promises of set-up, reset and feeding for C admit one result.
-- Assumes nothing.
use mathlib.Core.Path.{◌≡◌, sym, ap, ◌∙◌}
use mathlib.Core.List.{List, ◌∷◌}
use Prim.Native.Nat.{ℕ, zero, suc}
use lib.ListN.{drop}
use lib.IntN.{ℤ}
use Rattle.refusal.specs.Outcome.{unless_refused}
use Rattle.fec_protection.specs.declared.Description.{Description}
use Rattle.msc_handler.specs.declared.Fed.{Fed}
use Rattle.msc_handler.specs.Promises.{Buffers}
use Rattle.msc_handler.proofs.Feeding.{fed_unique}
use Rattle.c_state.specs.Numbers.{state_put}
use Rattle.c_msc.specs.Msc.{Readied, FedPlaces, fed_places, bytes_in, percent_put, number_fed, FeedUntouched, FeedWritten, FeedCall}

-- set-up and reset
pub record SameReady (k : ℕ) (ring : List ℤ) (state : List ℕ) (k' : ℕ) (ring' : List ℤ) (state' : List ℕ) : Type 0 where
  pub number_is : k ≡ k'
  pub ring_is : ring ≡ ring'
  pub state_is : state ≡ state'

pub readied_unique : {n : ℕ} {d : Description} {ring : List ℤ} {state : List ℕ} {k k' : ℕ} {r r' : List ℤ} {s s' : List ℕ} → Readied n d ring state k r s → Readied n d ring state k' r' s' → SameReady k r s k' r' s'
readied_unique x y = record { number_is = x.answer ∙ sym y.answer; ring_is = x.ring_is ∙ sym y.ring_is; state_is = x.state_is ∙ sym y.state_is }

-- feeding
pub record SameFeed (k : ℕ) (b : Buffers) (g : FedPlaces) (k' : ℕ) (b' : Buffers) (g' : FedPlaces) : Type 0 where
  pub number_is : k ≡ k'
  pub buffers_are : b ≡ b'
  pub places_are : g ≡ g'

module _ {soft : List ℤ} {b : Buffers} {f : FedPlaces} {c c' : Buffers} {g g' : FedPlaces} where
  places-one : (x : FeedWritten soft b f c g) (y : FeedWritten soft b f c' g') → x.fed ≡ y.fed → g ≡ g'
  places-one x y e =
      λ i. fed_places ((x.state_is ∙ ap (λ (r : Fed). state_put r.state f.state) e ∙ sym y.state_is) i)
      ((x.lengths_are ∙ ap (λ (r : Fed). bytes_in r.answer ∷ drop 1 f.lengths) e ∙ sym y.lengths_are) i)
      ((x.percents_are ∙ ap (λ (r : Fed). percent_put r.answer f.percents) e ∙ sym y.percents_are) i)

  pub feed_unique : {k k' : ℕ} → FeedCall soft b f k c g → FeedCall soft b f k' c' g' → SameFeed k c g k' c' g'
  feed_unique {k} {k'} x y = go (number_fed soft b f) x.left y.left
    where
      number-one : k ≡ k'
      number-one = x.answer ∙ sym y.answer

      go : (n : ℕ) → unless_refused n (FeedWritten soft b f c g) (FeedUntouched b f c g) → unless_refused n (FeedWritten soft b f c' g') (FeedUntouched b f c' g') → SameFeed k c g k' c' g'
      go zero p q =
          let same = fed_unique p.promise q.promise in
          record { number_is = number-one; buffers_are = same.buffers-one; places_are = places-one p q same.result-one }
      go (suc n) p q = record { number_is = number-one; buffers_are = p.buffers_are ∙ sym q.buffers_are; places_are = p.places_are ∙ sym q.places_are }
