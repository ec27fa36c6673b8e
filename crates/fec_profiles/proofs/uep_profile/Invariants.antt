-- No row before the k-th is for the bit rate and level.
use Rattle.std.proofs.Common.{◌≡◌, false, ℕ, ◌-◌, ◌<◌, ◌≤◌, get_or}
use Rattle.spec_en300401.specs.Uep.{uep_table, is_for, no_row}
use Rattle.fec_profiles.proofs.uep_profile.Given as goal

abbrev pub invariant-loop-k : goal.invariant-loop-k
invariant-loop-k l =
    record {
      same : l.wanted ≡ l.level;
      upto : l.k ≤ 64;
      passed : (j : ℕ) → j < l.k → is_for l.bitrate l.level (get_or uep_table j no_row) ≡ false;
    }

abbrev pub decreases-loop-k : goal.decreases-loop-k
decreases-loop-k l = 64 - l.k
