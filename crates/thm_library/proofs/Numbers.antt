-- A state is read of its first eleven numbers, and those of a sound state are in range.
-- Assumes nothing.
use mathlib.Core.Path.{◌≡◌}
use mathlib.Core.Bool.{false}
use mathlib.Core.List.{List}
use Prim.Native.Nat.{ℕ, ◌+◌, ◌<◌, ◌≤◌}
use native.Mathlib.Omega.{arith}
use borrow.Author.Tests.{le-ltb}
use lib.ListN.{get_or}
use Rattle.fec_protection.specs.declared.Description.{Description}
use Rattle.fec_protection.proofs.Accepted.{units-inside, rate-fits}
use Rattle.fec_protection.proofs.Fields.{level-fits}
use Rattle.msc_state.proofs.Refusals.{Sound}
use Rattle.c_description.specs.Places.{describes}
use Rattle.c_state.specs.Numbers.{state_in, out_of_range}

-- the same first eleven numbers, the same state
pub read_same : (xs ys : List ℕ) → ((i : ℕ) → i < 11 → get_or xs i 0 ≡ get_or ys i 0) → state_in xs ≡ state_in ys
unfolding state_in
read_same xs ys e =
    let e0 : get_or xs 0 0 ≡ get_or ys 0 0 = e 0 (omega arith) in
    let e1 : get_or xs 1 0 ≡ get_or ys 1 0 = e 1 (omega arith) in
    let e2 : get_or xs 2 0 ≡ get_or ys 2 0 = e 2 (omega arith) in
    let e3 : get_or xs 3 0 ≡ get_or ys 3 0 = e 3 (omega arith) in
    let e4 : get_or xs 4 0 ≡ get_or ys 4 0 = e 4 (omega arith) in
    let e5 : get_or xs 5 0 ≡ get_or ys 5 0 = e 5 (omega arith) in
    let e6 : get_or xs 6 0 ≡ get_or ys 6 0 = e 6 (omega arith) in
    let e7 : get_or xs 7 0 ≡ get_or ys 7 0 = e 7 (omega arith) in
    let e8 : get_or xs 8 0 ≡ get_or ys 8 0 = e 8 (omega arith) in
    let e9 : get_or xs 9 0 ≡ get_or ys 9 0 = e 9 (omega arith) in
    let e10 : get_or xs 10 0 ≡ get_or ys 10 0 = e 10 (omega arith) in
    λ t. record { symbols = e0 t; cif_in_frame = e1 t; channel = record { description = describes (e5 t) (e6 t) (e7 t) (e8 t) (e9 t) (e10 t); ring_index = e2 t; cif_count = e3 t; frames_decoded = e4 t } }

-- the numbers of a sound state are in range, where its option is
pub in_range : (xs : List ℕ) → Sound (state_in xs) → (state_in xs).channel.description.eep_option ≤ 255 → out_of_range xs ≡ false
unfolding state_in out_of_range describes
in_range xs k option =
    let d : Description = (state_in xs).channel.description in
    let place : d.start_addr + d.sub_size ≤ 864 = units-inside d k.description in
    let rate : d.bitrate < 65536 = rate-fits d k.description in
    rw (le-ltb 255 (get_or xs 0 0) (omega (arith, k.symbols)), le-ltb 255 (get_or xs 1 0) (omega (arith, k.in_frame)), le-ltb 255 (get_or xs 2 0) (omega (arith, k.index)), le-ltb 255 (get_or xs 3 0) (omega (arith, k.count)), le-ltb 65535 (get_or xs 5 0) (omega (arith, place)), le-ltb 65535 (get_or xs 6 0) (omega (arith, place)), le-ltb 65535 (get_or xs 7 0) (omega (arith, rate)), le-ltb 255 (get_or xs 8 0) (level-fits d k.description), le-ltb 255 (get_or xs 9 0) option)
