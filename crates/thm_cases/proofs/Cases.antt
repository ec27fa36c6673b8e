-- Document 01's twelve cases hold, and the run cases of descriptions.
-- Assumes nothing.
use mathlib.Core.Path.{refl}
use mathlib.Core.List.{List, [], ◌∷◌}
use native.Mathlib.Omega.{arith}
use lib.IntN.{ℤ, pos}
use lib.Count.{ones}
use Rattle.laws.specs.Lists.{list_from}
use Rattle.spec_trellis.specs.Trellis.{parity, out_bit, sign_by, branch, start_score, zero_end, free_end, Subtracted, none}
use Rattle.spec_trellis.specs.Program.{low_way, high_way, takes, acs, survivor, takes_at, pred_of, start_into, bits_into}
use Rattle.spec_en300401.proofs.Dispersal.{sixteen_zeros}
use Rattle.fec_protection.specs.Descriptions.{eep, uep}
use Rattle.fec_protection.proofs.Accepted.{given}
use Rattle.fec_protection.proofs.Cases.{case_9, case_10, needs_11, case_11, case_12, needs-run, run_uep_32, run_eep_8, needs_16, run_eep_16}
use Rattle.thm_cases.specs.Table.{four, minus, Answers, AnswersFrom, Holds, AllHold, TwelveCases, RunCases}
use Rattle.thm_cases.proofs.Steps.{one_step, zero-answer, free_answer, zero_answer_from}

case_1_zero : Answers zero_end [] [] (pos 0)
unfolding survivor start_score bits_into
case_1_zero = zero-answer [] none [] refl (pos 0) refl

case_1_free : Answers free_end [] [] (pos 0)
unfolding survivor start_score bits_into list_from
case_1_free = free_answer [] 0 (omega arith) tt none [] refl (pos 0) refl

-- one step of four values each: nothing is subtracted, by the best of the 64 survivors
abbrev tens : List ℤ
tens = four (pos 10) (pos 10) (pos 10) (pos 10)

abbrev eights_and_seven : List ℤ
eights_and_seven = four (pos 8) (pos 8) (pos 8) (pos 7)

abbrev eights : List ℤ
eights = four (pos 8) (pos 8) (pos 8) (pos 8)

abbrev lowest : List ℤ
lowest = four (minus 128) (minus 128) (minus 128) (minus 128)

abbrev erasures : List ℤ
erasures = four (pos 0) (pos 0) (pos 0) (pos 0)

step_tens : Subtracted tens 1 (pos 0)
unfolding survivor acs takes low_way high_way branch sign_by out_bit parity ones start_score list_from
step_tens = one_step tens 1 (omega arith) tt tt

step_eights_and_seven : Subtracted eights_and_seven 1 (pos 0)
unfolding survivor acs takes low_way high_way branch sign_by out_bit parity ones start_score list_from
step_eights_and_seven = one_step eights_and_seven 1 (omega arith) tt tt

step_eights : Subtracted eights 1 (pos 0)
unfolding survivor acs takes low_way high_way branch sign_by out_bit parity ones start_score list_from
step_eights = one_step eights 1 (omega arith) tt tt

step_lowest : Subtracted lowest 1 (pos 0)
unfolding survivor acs takes low_way high_way branch sign_by out_bit parity ones start_score list_from
step_lowest = one_step lowest 0 (omega arith) tt tt

step_erasures : Subtracted erasures 1 (pos 0)
unfolding survivor acs takes low_way high_way branch sign_by out_bit parity ones start_score list_from
step_erasures = one_step erasures 0 (omega arith) tt tt

case_2 : AnswersFrom zero_end tens (0 ∷ []) (minus 23) 32
unfolding survivor acs takes takes_at pred_of low_way high_way branch sign_by out_bit parity ones start_score bits_into start_into
case_2 = zero_answer_from tens step_tens (0 ∷ []) refl (minus 23) refl 32 refl

case_3 : Answers free_end tens (1 ∷ []) (pos 40)
unfolding survivor acs takes takes_at pred_of low_way high_way branch sign_by out_bit parity ones start_score bits_into start_into list_from
case_3 = free_answer tens 1 (omega arith) tt step_tens (1 ∷ []) refl (pos 40) refl

case_4 : AnswersFrom zero_end eights_and_seven (0 ∷ []) (minus 31) 0
unfolding survivor acs takes takes_at pred_of low_way high_way branch sign_by out_bit parity ones start_score bits_into start_into
case_4 = zero_answer_from eights_and_seven step_eights_and_seven (0 ∷ []) refl (minus 31) refl 0 refl

case_5 : AnswersFrom zero_end eights (0 ∷ []) (minus 31) 32
unfolding survivor acs takes takes_at pred_of low_way high_way branch sign_by out_bit parity ones start_score bits_into start_into
case_5 = zero_answer_from eights step_eights (0 ∷ []) refl (minus 31) refl 32 refl

case_6_zero : Answers zero_end lowest (0 ∷ []) (pos 512)
unfolding survivor acs takes takes_at pred_of low_way high_way branch sign_by out_bit parity ones start_score bits_into start_into
case_6_zero = zero-answer lowest step_lowest (0 ∷ []) refl (pos 512) refl

case_6_free : Answers free_end lowest (0 ∷ []) (pos 512)
unfolding survivor acs takes takes_at pred_of low_way high_way branch sign_by out_bit parity ones start_score bits_into start_into list_from
case_6_free = free_answer lowest 0 (omega arith) tt step_lowest (0 ∷ []) refl (pos 512) refl

case_7 : Answers free_end erasures (0 ∷ []) (pos 0)
unfolding survivor acs takes takes_at pred_of low_way high_way branch sign_by out_bit parity ones start_score bits_into start_into list_from
case_7 = free_answer erasures 0 (omega arith) tt step_erasures (0 ∷ []) refl (pos 0) refl

pub cases_hold : TwelveCases
unfolding Holds AllHold
cases_hold = (
  (case_1_zero, case_1_free),
  (
    case_2,
    (
      case_3,
      (
        case_4,
        (
          case_5,
          (
            (case_6_zero, case_6_free),
            (
              case_7,
              (
                sixteen_zeros,
                (
                  given (eep 0 3 8 860 4) case_9,
                  (
                    case_10,
                    (
                      record { needs = needs_11 416; has = refl; judged = given (uep 1 384 0 416) case_11 },
                      (record { needs = needs_11 417; has = refl; judged = case_12 }, tt),
                    ),
                  ),
                ),
              ),
            ),
          ),
        ),
      ),
    ),
  ),
)

pub run_cases_hold : RunCases
unfolding Holds AllHold
run_cases_hold = (
  record { needs = needs-run; has = refl; judged = given (uep 1 32 0 35) run_uep_32 },
  (run_eep_8 8, (record { needs = needs_16; has = refl; judged = given (eep 0 1 16 0 16) run_eep_16 }, tt)),
)
