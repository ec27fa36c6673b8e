-- The worked examples of clauses 5.2, 6.2.1 and 6.3.1.
-- Assumes nothing.
use mathlib.Core.Path.{◌≡◌, refl}
use mathlib.Core.Bool.{true, false}
use mathlib.Core.List.{List, [], ◌∷◌, ◌++◌}
use mathlib.Core.Option.{none, some}
use Prim.Native.Nat.{ℕ}
use lib.ListN.{replicate}
use Rattle.spec_en300401.specs.Fib.{field_of, field_from}
use Rattle.spec_en300401.specs.Uep.{uep_table}
use Rattle.spec_en300401.specs.Organisation.{sub_channel, service, entries_of, entries_of_all, entries_in, type_zero, sub_channels, services_in, service_in, short_form, long_form, rate_of, number_of, pairs_of}

-- 08 01 14 64 23 04 00 88 48 0b 02 40 01 01 3f 06 40 02 01 00 16 ff 00 .. 82 a6: two sub-channels and two services
unfoldable pub fib_one : List ℕ
fib_one = 8 ∷ 1 ∷ 20 ∷ 100 ∷ 35 ∷ 4 ∷ 0 ∷ 136 ∷ 72 ∷ 11 ∷ 2 ∷ 64 ∷ 1 ∷ 1 ∷ 63 ∷ 6 ∷ 64 ∷ 2 ∷ 1 ∷ 0 ∷ 22 ∷ 255 ∷ 0 ∷ 0 ∷ 0 ∷ 0 ∷ 0 ∷ 0 ∷ 0 ∷ 0 ∷ 130 ∷ 166 ∷ []

-- sub 5: start 100, row 35; sub 1: start 0, option 0, level 2, 72 units; services 4001 and 4002 (hexadecimal), one component each
pub example_one : entries_of fib_one
    ≡ sub_channel 5 (record { start = 100; size = 96; rate = 128; level = 3; option = 0; eep = false })
    ∷ sub_channel 1 (record { start = 0; size = 72; rate = 96; level = 2; option = 0; eep = true })
    ∷ service (record { wide = false; sid = 16385; components = 16134 ∷ [] }) ∷ service (record { wide = false; sid = 16386; components = 22 ∷ [] }) ∷ []
unfolding fib_one entries_of entries_of_all entries_in type_zero sub_channels services_in service_in short_form long_form rate_of number_of pairs_of field_of field_from uep_table
example_one = refl

pub whole-one : (field_of fib_one).broken ≡ none
unfolding fib_one field_of field_from
whole-one = refl

-- 04 01 14 64 23 1a 01 18 00 .. 82 7b: at offset 5 a FIG of length 26 passes the end; what is in it is no entry
unfoldable pub fib_two : List ℕ
fib_two = 4 ∷ 1 ∷ 20 ∷ 100 ∷ 35 ∷ 26 ∷ 1 ∷ 24 ∷ replicate 22 0 ++ (130 ∷ 123 ∷ [])

pub example_two : entries_of fib_two ≡ sub_channel 5 (record { start = 100; size = 96; rate = 128; level = 3; option = 0; eep = false }) ∷ []
unfolding fib_two entries_of entries_of_all entries_in type_zero sub_channels services_in service_in short_form long_form rate_of number_of pairs_of field_of field_from uep_table
example_two = refl

pub broken_two : (field_of fib_two).broken ≡ some 5
unfolding fib_two field_of field_from
broken_two = refl
