-- Every entry of a FIB is within the bits that hold it.
-- Assumes nothing.
use mathlib.Core.Path.{◌≡◌, refl}
use mathlib.Core.Bool.{Bool, true, false, cond}
use mathlib.Core.List.{List, [], ◌∷◌, ◌++◌}
use Prim.Native.Nat.{ℕ, zero, suc, ◌+◌, ◌*◌, ◌/◌, ◌%◌, ◌^◌, ◌<◌, ◌≤◌}
use native.Mathlib.Omega.{arith}
use native.Mathlib.Nat.{div-le_self, mod-lt}
use borrow.Author.Tests.{ltb-true, ltb-false}
use lib.Dec.{eqb, ltb, ltb→lt}
use lib.ListN.{length, get_or, take, drop, length-take, length-drop}
use Rattle.laws.specs.Bits.{Below, AreBytes}
use Rattle.laws.specs.Tables.{both}
use Rattle.laws.proofs.Tables.{rule_at, both_left, both_right}
use Rattle.laws.proofs.Bits.{below_tail, below-head, below-nil, below-cons, below-take, below-drop}
use Rattle.spec_en300401.specs.Fib.{field_from, field_of, field_end, broken_at, before, end_marker, type_in, length_in}
use Rattle.spec_en300401.specs.Uep.{Row, uep_table, no_row}
use Rattle.spec_en300401.specs.Organisation.{SubChannel, Service, Entry, sub_channel, service, units_of, rate_of, sub_ch_id, short_form, long_form, short_entry, sub_channels, number_of, pairs_of, sid_bytes, component_bytes, entry_bytes, service_in, services_in, type_zero, entries_in, entries_of_all, entries_of}
use Rattle.spec_en300401.specs.Directory.{fibs_in}
use Rattle.fic_directory.specs.Promises.{entries_of_fibs}
use Rattle.fic_directory.proofs.Services.{length_pairs}
use Rattle.thm_directory.specs.Theorems.{SubFits, ServiceFits}

pub data EntryFits : Entry → Type 0 where
  sub-fits : {id : ℕ} {c : SubChannel} → id < 64 → SubFits c → EntryFits (sub_channel id c)
  service-fits : {s : Service} → ServiceFits s → EntryFits (service s)

pub data AllFit : List Entry → Type 0 where
  fit_none : AllFit []
  fit_more : {x : Entry} {xs : List Entry} → EntryFits x → AllFit xs → AllFit (x ∷ xs)

fit_append : {xs ys : List Entry} → AllFit xs → AllFit ys → AllFit (xs ++ ys)
fit_append fit_none g = g
fit_append (fit_more e f) g = fit_more e (fit_append f g)

-- ---- FIG 0/1

small_row : ℕ → Row → Bool
small_row k p = both (ltb p.units 65536) (both (ltb p.rate 65536) (ltb p.level 256))

row_small : (k : ℕ) → ((get_or uep_table (k % 64) no_row).units < 65536) × ((get_or uep_table (k % 64) no_row).rate < 65536) × ((get_or uep_table (k % 64) no_row).level < 256)
unfolding uep_table small_row
row_small k =
    let t = rule_at small_row no_row uep_table tt (k % 64) (mod-lt k (omega arith)) in
    let p : Row = get_or uep_table (k % 64) no_row in
    let u = both_right (ltb p.units 65536) (both (ltb p.rate 65536) (ltb p.level 256)) t in (
      ltb→lt p.units 65536 (both_left (ltb p.units 65536) (both (ltb p.rate 65536) (ltb p.level 256)) t),
      ltb→lt p.rate 65536 (both_left (ltb p.rate 65536) (ltb p.level 256) u),
      ltb→lt p.level 256 (both_right (ltb p.rate 65536) (ltb p.level 256) u),
    )

module _ (a b c : ℕ) (ha : a < 256) (hb : b < 256) (hc : c < 256) where
  short-fits : SubFits (short_form a b c)
  unfolding short_form
  short-fits = let r = row_small c in record { start = omega arith; size = r.0; rate = r.1; level = r.2; option = omega arith }

  short_entry-fits : AllFit (short_entry a b c)
  short_entry-fits = go (ltb c 64)
    where
      go : (t : Bool) → AllFit (cond t (sub_channel (sub_ch_id a) (short_form a b c) ∷ []) [])
      go true = let i : sub_ch_id a < 64 = omega arith in fit_more (sub-fits i short-fits) fit_none
      go false = fit_none

  rate-fits : (o l s : ℕ) → s < 1024 → rate_of o l s < 65536
  unfolding rate_of
  rate-fits zero l s h = omega (arith, div-le_self (8 * s) (units_of 0 l))
  rate-fits (suc zero) l s h = omega (arith, div-le_self (32 * s) (units_of 1 l))
  rate-fits (suc (suc o)) l s h = omega arith

  long-fits : (d : ℕ) → d < 256 → SubFits (long_form a b c d)
  unfolding long_form
  long-fits d hd = record { start = omega arith; size = omega arith; rate = rate-fits (c / 16 % 8) (c / 4 % 4) (c % 4 * 256 + d) (omega arith); level = omega arith; option = omega arith }

sub_channels_fit : (xs : List ℕ) → AreBytes xs → AllFit (sub_channels xs)
unfolding sub_channels
sub_channels_fit [] h = fit_none
sub_channels_fit (a ∷ []) h = fit_none
sub_channels_fit (a ∷ b ∷ []) h = fit_none
sub_channels_fit (a ∷ b ∷ c ∷ []) h = go (ltb c 128)
  where
    go : (t : Bool) → AllFit (cond t (short_entry a b c) [])
    go true = short_entry-fits a b c (below-head h) (below-head (below_tail h)) (below-head (below_tail (below_tail h)))
    go false = fit_none
sub_channels_fit (a ∷ b ∷ c ∷ d ∷ xs) h = go (ltb c 128) (sub_channels_fit (d ∷ xs) (below_tail (below_tail (below_tail h)))) (sub_channels_fit xs (below_tail (below_tail (below_tail (below_tail h)))))
  where
    go : (t : Bool) → AllFit (sub_channels (d ∷ xs)) → AllFit (sub_channels xs) → AllFit (cond t (short_entry a b c ++ sub_channels (d ∷ xs)) (sub_channel (sub_ch_id a) (long_form a b c d) ∷ sub_channels xs))
    go true f g = fit_append (short_entry-fits a b c (below-head h) (below-head (below_tail h)) (below-head (below_tail (below_tail h)))) f
    go false f g = let x : a < 256 = below-head h in let i : sub_ch_id a < 64 = omega arith in fit_more (sub-fits i (long-fits a b c (below-head h) (below-head (below_tail h)) (below-head (below_tail (below_tail h))) d (below-head (below_tail (below_tail (below_tail h)))))) g

-- ---- FIG 0/2

pairs_fit : (xs : List ℕ) → AreBytes xs → Below (2 ^ 16) (pairs_of xs)
unfolding pairs_of
pairs_fit [] h = below-nil
pairs_fit (a ∷ []) h = below-nil
pairs_fit (a ∷ b ∷ xs) h = let p : a < 256 = below-head h in let q : b < 256 = below-head (below_tail h) in below-cons (omega arith) (pairs_fit xs (below_tail (below_tail h)))

sid-fits : (wide : Bool) (xs : List ℕ) → AreBytes xs → number_of 0 (take (sid_bytes wide) xs) < 2 ^ 32
unfolding number_of
sid-fits wide [] h = none_there_lem (sid_bytes wide)
  where
    none_there_lem : (n : ℕ) → number_of 0 (take n []) < 2 ^ 32
    none_there_lem zero = omega arith
    none_there_lem (suc n) = omega arith
sid-fits true (a ∷ []) h = let p : a < 256 = below-head h in omega arith
sid-fits true (a ∷ b ∷ []) h = let p : a < 256 = below-head h in let q : b < 256 = below-head (below_tail h) in omega arith
sid-fits true (a ∷ b ∷ c ∷ []) h = let p : a < 256 = below-head h in let q : b < 256 = below-head (below_tail h) in let r : c < 256 = below-head (below_tail (below_tail h)) in omega arith
sid-fits true (a ∷ b ∷ c ∷ d ∷ xs) h = let p : a < 256 = below-head h in let q : b < 256 = below-head (below_tail h) in let r : c < 256 = below-head (below_tail (below_tail h)) in let s : d < 256 = below-head (below_tail (below_tail (below_tail h))) in omega arith
sid-fits false (a ∷ []) h = let p : a < 256 = below-head h in omega arith
sid-fits false (a ∷ b ∷ xs) h = let p : a < 256 = below-head h in let q : b < 256 = below-head (below_tail h) in omega arith

module _ (wide : Bool) (xs : List ℕ) (h : AreBytes xs) (short : length xs ≤ 28) (head : sid_bytes wide < length xs) (whole : entry_bytes wide xs ≤ length xs) where
  one-fits : ServiceFits (service_in wide xs)
  unfolding service_in
  one-fits =
      let k : ℕ = get_or xs (sid_bytes wide) 0 % 16 in
      let n : length (pairs_of (take (component_bytes wide xs) (drop (sid_bytes wide + 1) xs))) ≡ k = length_pairs k (take (component_bytes wide xs) (drop (sid_bytes wide + 1) xs)) (simp (length-take, length-drop) (omega arith)) in
      record {
        sid = sid-fits wide xs h;
        few = omega (arith, n, two_at_least wide);
        words = pairs_fit (take (component_bytes wide xs) (drop (sid_bytes wide + 1) xs)) (below-take (component_bytes wide xs) (below-drop (sid_bytes wide + 1) h));
      }
    where
      two_at_least : (w : Bool) → 2 ≤ sid_bytes w
      two_at_least true = omega arith
      two_at_least false = omega arith

services_fit : (n : ℕ) (wide : Bool) (xs : List ℕ) → AreBytes xs → length xs ≤ 28 → AllFit (services_in n wide xs)
unfolding services_in
services_fit zero wide xs h l = fit_none
services_fit (suc n) wide xs h l = go (ltb (sid_bytes wide) (length xs)) refl (ltb (length xs) (entry_bytes wide xs)) refl (services_fit n wide (drop (entry_bytes wide xs) xs) (below-drop (entry_bytes wide xs) h) (simp length-drop (omega arith)))
  where
    go : (a : Bool) → ltb (sid_bytes wide) (length xs) ≡ a → (b : Bool) → ltb (length xs) (entry_bytes wide xs) ≡ b → AllFit (services_in n wide (drop (entry_bytes wide xs) xs))
        → AllFit (cond a (cond b [] (service (service_in wide xs) ∷ services_in n wide (drop (entry_bytes wide xs) xs))) [])
    go false p b q r = fit_none
    go true p true q r = fit_none
    go true p false q r = fit_more (service-fits (one-fits wide xs h l (ltb-true (sid_bytes wide) (length xs) p) (ltb-false (length xs) (entry_bytes wide xs) q))) r

-- ---- a FIB

type_zero-fits : (xs : List ℕ) → AreBytes xs → length xs ≤ 29 → AllFit (type_zero xs)
unfolding type_zero
type_zero-fits [] h l = fit_none
type_zero-fits (t ∷ xs) h l = go (ltb t 64) (eqb (t % 32) 1) (eqb (t % 32) 2) (eqb (t / 32) 1)
  where
    go : (a b c wide : Bool) → AllFit (cond a (cond b (sub_channels xs) (cond c (services_in (length xs) wide xs) [])) [])
    go false b c wide = fit_none
    go true true c wide = sub_channels_fit xs (below_tail h)
    go true false true wide = services_fit (length xs) wide xs (below_tail h) (omega arith)
    go true false false wide = fit_none

entries_fit : (kind : ℕ) (xs : List ℕ) → AreBytes xs → length xs ≤ 29 → AllFit (entries_in (record { type = kind; body = xs }))
unfolding entries_in
entries_fit kind xs h l = go (eqb kind 0)
  where
    go : (a : Bool) → AllFit (cond a (type_zero xs) [])
    go true = type_zero-fits xs h l
    go false = fit_none

field_fits : (n o : ℕ) (xs : List ℕ) → AreBytes xs → length xs ≤ 30 → AllFit (entries_of_all (field_from n o xs).figs)
unfolding field_from entries_of_all
field_fits zero o xs h l = fit_none
field_fits (suc n) o [] h l = fit_none
field_fits (suc n) o (b ∷ xs) h l = go (eqb b end_marker) (ltb (length xs) (length_in b)) (field_fits n (o + 1 + length_in b) (drop (length_in b) xs) (below-drop (length_in b) (below_tail h)) (simp length-drop (omega arith)))
  where
    go : (a c : Bool) → AllFit (entries_of_all (field_from n (o + 1 + length_in b) (drop (length_in b) xs)).figs)
        → AllFit (entries_of_all (cond a field_end (cond c (broken_at o) (before (record { type = type_in b; body = take (length_in b) xs }) (field_from n (o + 1 + length_in b) (drop (length_in b) xs))))).figs)
    go true c r = fit_none
    go false true r = fit_none
    go false false r = fit_append (entries_fit (type_in b) (take (length_in b) xs) (below-take (length_in b) (below_tail h)) (simp length-take (omega arith))) r

fib-fits : (xs : List ℕ) → AreBytes xs → AllFit (entries_of xs)
unfolding entries_of field_of
fib-fits xs h = field_fits 30 0 (take 30 xs) (below-take 30 h) (simp length-take (omega arith))

pub fibs_fit : (n : ℕ) (xs : List ℕ) → AreBytes xs → AllFit (entries_of_fibs (fibs_in n xs))
unfolding entries_of_fibs fibs_in
fibs_fit zero xs h = fit_none
fibs_fit (suc n) xs h = fit_append (fib-fits (take 32 xs) (below-take 32 h)) (fibs_fit n (drop 32 xs) (below-drop 32 h))
