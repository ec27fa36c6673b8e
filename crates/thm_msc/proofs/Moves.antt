-- The state after a symbol, by whether the symbol is the last of its CIF.
-- Assumes nothing.
use mathlib.Core.Path.{◌≡◌, ap}
use mathlib.Core.Bool.{Bool, cond}
use Prim.Native.Nat.{◌+◌, ◌%◌, ◌<◌, ◌≤◌}
use borrow.Author.Tests.{le-leb, lt-leb}
use Rattle.msc_state.specs.declared.State.{State}
use Rattle.msc_state.specs.States.{channel_after, state_after}

abbrev middle : State → State
middle s = record { symbols = s.symbols + 1; cif_in_frame = s.cif_in_frame; channel = s.channel }

abbrev last : State → State
last s = record { symbols = 0; cif_in_frame = (s.cif_in_frame + 1) % 4; channel = channel_after s.channel }

pub after_middle : (s : State) → s.symbols < 17 → state_after s ≡ middle s
unfolding state_after
after_middle s h = ap (λ (b : Bool). cond b (last s) (middle s)) (lt-leb 17 s.symbols h)

pub after-whole : (s : State) → 17 ≤ s.symbols → state_after s ≡ last s
unfolding state_after
after-whole s h = ap (λ (b : Bool). cond b (last s) (middle s)) (le-leb 17 s.symbols h)
