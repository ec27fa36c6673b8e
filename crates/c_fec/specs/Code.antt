-- What the private functions promise.
use Rattle.std.specs.Prelude.{ℕ, ltb}
use Rattle.refusal.specs.Outcome.{check, or_else}

-- n steps and no place for the metric: 11, then 8
abbrev pub no_place : ℕ → ℕ
no_place n = or_else (check 11 (ltb 65536 n)) 8
