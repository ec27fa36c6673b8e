-- FIG 0/1 entry by entry: what the first bytes of what is left say, and that entering it moves on to the rest.
-- Assumes nothing.
use mathlib.Core.Path.{◌≡◌, refl, sym, ap, ◌∙◌, subst}
use mathlib.Core.Logic.{◌⊎◌, inl, inr}
use mathlib.Core.List.{List, [], ◌∷◌, ◌++◌}
use Prim.Native.Nat.{ℕ, ◌-◌, ◌/◌, ◌<◌, ◌≤◌}
use native.Mathlib.Omega.{arith}
use borrow.Author.Tests.{lt-ltb, le-ltb}
use lib.ListN.{length, get_or, set, take, drop, length-drop}
use lib.Seq.{take_all}
use Rattle.std.proofs.lemmas.List.{set-append_left}
use Rattle.fec_protection.specs.declared.Description.{Description}
use Rattle.fic_directory_places.specs.Promises.{description_of}
use Rattle.spec_en300401.specs.Organisation.{SubChannel, Entry, sub_channel, sub_ch_id, short_form, long_form, sub_channels}
use Rattle.fic_directory_places.specs.Places.{sub_word, held}
use Rattle.fic_directory.specs.Promises.{entered, put, put_all}
use Rattle.fic_directory.specs.Code.{channel_of, SubsLeft, SubsRead}

abbrev short-at : List ℕ → Entry
short-at xs = sub_channel (sub_ch_id (get_or xs 0 0)) (short_form (get_or xs 0 0) (get_or xs 1 0) (get_or xs 2 0))

abbrev long-at : List ℕ → Entry
long-at xs = sub_channel (sub_ch_id (get_or xs 0 0)) (long_form (get_or xs 0 0) (get_or xs 1 0) (get_or xs 2 0) (get_or xs 3 0))

-- fewer than three bytes are no entry
cut : (xs : List ℕ) → length xs < 3 → sub_channels xs ≡ []
unfolding sub_channels
cut [] h = refl
cut (a ∷ []) h = refl
cut (a ∷ b ∷ []) h = refl
cut (a ∷ b ∷ c ∷ xs) h = absurd (omega arith)

short : (xs : List ℕ) → 3 ≤ length xs → get_or xs 2 0 < 64 → sub_channels xs ≡ short-at xs ∷ sub_channels (drop 3 xs)
unfolding sub_channels
short [] h l = absurd (omega arith)
short (a ∷ []) h l = absurd (omega arith)
short (a ∷ b ∷ []) h l = absurd (omega arith)
short (a ∷ b ∷ c ∷ []) h l = rw (lt-ltb c 128 (omega arith), lt-ltb c 64 l)
short (a ∷ b ∷ c ∷ d ∷ xs) h l = rw (lt-ltb c 128 (omega arith), lt-ltb c 64 l)

-- a short form with the table switch set is stepped over
switched : (xs : List ℕ) → 3 ≤ length xs → 64 ≤ get_or xs 2 0 → get_or xs 2 0 < 128 → sub_channels xs ≡ sub_channels (drop 3 xs)
unfolding sub_channels
switched [] h k l = absurd (omega arith)
switched (a ∷ []) h k l = absurd (omega arith)
switched (a ∷ b ∷ []) h k l = absurd (omega arith)
switched (a ∷ b ∷ c ∷ []) h k l = rw (lt-ltb c 128 l, le-ltb c 64 k)
switched (a ∷ b ∷ c ∷ d ∷ xs) h k l = rw (lt-ltb c 128 l, le-ltb c 64 k)

long_cut : (xs : List ℕ) → length xs < 4 → 128 ≤ get_or xs 2 0 → sub_channels xs ≡ []
unfolding sub_channels
long_cut [] h l = refl
long_cut (a ∷ []) h l = refl
long_cut (a ∷ b ∷ []) h l = refl
long_cut (a ∷ b ∷ c ∷ []) h l = rw (le-ltb c 128 l)
long_cut (a ∷ b ∷ c ∷ d ∷ xs) h l = absurd (omega arith)

long : (xs : List ℕ) → 4 ≤ length xs → 128 ≤ get_or xs 2 0 → sub_channels xs ≡ long-at xs ∷ sub_channels (drop 4 xs)
unfolding sub_channels
long [] h l = absurd (omega arith)
long (a ∷ []) h l = absurd (omega arith)
long (a ∷ b ∷ []) h l = absurd (omega arith)
long (a ∷ b ∷ c ∷ []) h l = absurd (omega arith)
long (a ∷ b ∷ c ∷ d ∷ xs) h l = rw (le-ltb c 128 l)

-- ---- entered

module _ (rest before : List ℕ) where
  -- no entry is left
  nothing : 0 < length rest → sub_channels rest ≡ [] → SubsLeft rest [] before before
  unfolding sub_channels
  nothing h e =
      record { shorter = h; puts = λ beyond services n. ap (λ (es : List Entry). put_all es (entered (held (before ++ beyond) services) n)) e }

  pub left_none : 0 < length rest → (length rest < 3) ⊎ ((length rest < 4) × (128 ≤ get_or rest 2 0)) → SubsLeft rest [] before before
  left_none p (inl h) = nothing p (cut rest h)
  left_none p (inr h) = nothing p (long_cut rest h.0 h.1)

  -- what is behind n bytes, as a pattern has it
  module _ (n : ℕ) (h : n ≤ length rest) where
    behind : take (length rest - n) (drop n rest) ≡ drop n rest
    behind = take_all (length rest - n) (drop n rest) (simp length-drop (omega arith))

    from_behind : (after : List ℕ) → 0 < n → SubsLeft rest (drop n rest) before after → SubsLeft rest (take (length rest - n) (drop n rest)) before after
    from_behind after p s = subst (λ (left : List ℕ). SubsLeft rest left before after) (sym behind) s

    shorter : 0 < n → length (drop n rest) < length rest
    shorter p = omega (arith, length-drop n rest)

    one : (id w : ℕ) (c : SubChannel) → 0 < n → sub_channels rest ≡ sub_channel (sub_ch_id (get_or rest 0 0)) c ∷ sub_channels (drop n rest) → id ≡ sub_ch_id (get_or rest 0 0) → w ≡ sub_word c → id < length before
        → SubsLeft rest (take (length rest - n) (drop n rest)) before (set before id w)
    unfolding put put_all
    one id w c p e f g l =
        from_behind (set before id w) p
        (record {
          shorter = shorter p;
          puts =
              λ beyond services m. ap (λ (es : List Entry). put_all es (entered (held (before ++ beyond) services) m)) e
              ∙ (λ i. put_all (sub_channels (drop n rest)) (entered (held (set (before ++ beyond) (sym f i) (sym g i)) services) m))
              ∙ ap (λ (xs : List ℕ). put_all (sub_channels (drop n rest)) (entered (held xs services) m)) (set-append_left before beyond id w l);
        })

  pub left_switched : 3 ≤ length rest → 64 ≤ get_or rest 2 0 → get_or rest 2 0 < 128 → SubsLeft rest (take (length rest - 3) (drop 3 rest)) before before
  left_switched h k l =
      from_behind 3 h before (omega arith)
      (record { shorter = shorter 3 h (omega arith); puts = λ beyond services n. ap (λ (es : List Entry). put_all es (entered (held (before ++ beyond) services) n)) (switched rest h k l) })

  module _ (id w : ℕ) (d : Description) (places : length before ≡ 64) (byte : get_or rest 0 0 < 256) (f : id ≡ get_or rest 0 0 / 4) (g : w ≡ sub_word (channel_of d)) where
    pub left_short : 3 ≤ length rest → get_or rest 2 0 < 64 → d ≡ description_of (short_form (get_or rest 0 0) (get_or rest 1 0) (get_or rest 2 0)) → SubsLeft rest (take (length rest - 3) (drop 3 rest)) before (set before id w)
    left_short h l e = one 3 h id w (short_form (get_or rest 0 0) (get_or rest 1 0) (get_or rest 2 0)) (omega arith) (short rest h l) f (g ∙ ap (λ (x : Description). sub_word (channel_of x)) e) (omega arith)

    pub left_long : 4 ≤ length rest → 128 ≤ get_or rest 2 0 → d ≡ description_of (long_form (get_or rest 0 0) (get_or rest 1 0) (get_or rest 2 0) (get_or rest 3 0)) → SubsLeft rest (take (length rest - 4) (drop 4 rest)) before (set before id w)
    left_long h l e = one 4 h id w (long_form (get_or rest 0 0) (get_or rest 1 0) (get_or rest 2 0) (get_or rest 3 0)) (omega arith) (long rest h l) f (g ∙ ap (λ (x : Description). sub_word (channel_of x)) e) (omega arith)

-- an option is of three bits
pub short_option : (d : Description) (a b c : ℕ) → d ≡ description_of (short_form a b c) → d.eep_option < 16
unfolding short_form
short_option d a b c e = omega (arith, ap (λ (x : Description). x.eep_option) e)

pub long_option : (e : Description) (a b c d : ℕ) → e ≡ description_of (long_form a b c d) → e.eep_option < 16
unfolding long_form
long_option e a b c d f = omega (arith, ap (λ (x : Description). x.eep_option) f)

-- past the last byte no entry is left
pub read_none : (body before now : List ℕ) (rest : List ℕ) → length rest ≡ 0 → ((beyond services : List ℕ) (n : ℕ) → put_all (sub_channels body) (entered (held (before ++ beyond) services) n) ≡ put_all (sub_channels rest) (entered (held (now ++ beyond) services) n))
    → SubsRead body before now
unfolding sub_channels put_all
read_none body before now [] h f = record { puts = f }
read_none body before now (a ∷ rest) h f = absurd (omega arith)
