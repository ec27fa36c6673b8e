-- Document 01, "Program `fic`": what three full symbols give.
use Rattle.std.specs.Prelude.{◌≡◌, List, ℕ, ◌*◌, ◌<◌, ◌≤◌, ℤ, take}
use Rattle.fic_handler.specs.Blocks.{Block, IsBlock, written, total}

-- the FIBs that pass of the four blocks of 9,216 values, 32 bytes each, stand at the start of the output: r bytes
pub record FibsOf (soft : List ℤ) (r : ℕ) (fibs : List ℕ) : Type 0 where
  pub block : ℕ → Block
  pub each : (b : ℕ) → b < 4 → IsBlock soft b (block b)
  pub long : r ≡ 32 * total block 4
  pub few : r ≤ 384
  pub bytes : take r fibs ≡ written block 4
