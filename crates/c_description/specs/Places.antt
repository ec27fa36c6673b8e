-- docs/DECISIONS.md, "For C": a description as six numbers, and an answer as a number and in the caller's places.
use Rattle.std.specs.Prelude.{◌≡◌, not, List, ◌++◌, ℕ, eqb, ltb, drop}
use Rattle.refusal.specs.Outcome.{check, unless_refused}
use Rattle.fec_protection.specs.declared.Description.{Description}

-- the description of six numbers; the last is 0 for UEP and any other number for EEP
unfoldable pub describes : ℕ → ℕ → ℕ → ℕ → ℕ → ℕ → Description
describes start size rate level option eep =
    record { start_addr = start; sub_size = size; bitrate = rate; protection_level = level; eep_option = option; is_eep = not (eqb eep 0) }

-- 8: fewer places than needed
abbrev pub short : ℕ → ℕ → ℕ
short need places = check 8 (ltb places need)

module _ {A : Type 0} where
  -- refused by n with all as it was; or the values stand in the needed places, before the rest as it was
  pub record Wrote (n need : ℕ) (values before after : List A) (number : ℕ) : Type 0 where
    pub answer : number ≡ n
    pub places : after ≡ unless_refused n (values ++ drop need before) before
