-- The two examples compute.
use Rattle.std.proofs.Common.{◌≡◌, ◌+◌, ◌*◌, true, arith, leb-true, ltb-true, refl}
use Rattle.wb_gaps.specs.Answers.{gaps_of, pages_of, report_of}
use Rattle.wb_member.specs.Random.{after_word, started, word_of}
use Rattle.wb_policy.specs.Choices.{near_names}
use Rattle.wb_keeping.specs.Kept.{leaps_on, turns_on}
use Rattle.wb_policy.specs.Words as words
use Rattle.wb_kept_progress.specs.Examples.{LivelyMeets, PatientMeets, lively, lively_lines, patient, patient_lines}
use Rattle.wb_kept_progress.proofs.Lacking.{calls_pass, lines_pass, meets}

lively_calls : calls_pass lively lively_lines 2600000 ≡ true
unfolding started word_of after_word words.started report_of gaps_of pages_of near_names leaps_on turns_on
lively_calls = refl

lively_performs : lines_pass lively lively_lines 2600000 ≡ true
unfolding started word_of after_word words.started report_of gaps_of pages_of near_names leaps_on turns_on
lively_performs = refl

pub lively_meets : LivelyMeets
lively_meets = (
  meets 2000000 10000 1000 2600000 (λ i. 99999 + 599930 * i) lively_lines
      (record { first = omega arith; second = omega arith; covered = omega arith; short = omega arith; settled = omega arith })
      lively_calls lively_performs,
  leb-true _ _ refl,
)

patient_calls : calls_pass patient patient_lines 115530000 ≡ true
unfolding started word_of after_word words.started report_of gaps_of pages_of near_names leaps_on turns_on
patient_calls = refl

patient_performs : lines_pass patient patient_lines 115530000 ≡ true
unfolding started word_of after_word words.started report_of gaps_of pages_of near_names leaps_on turns_on
patient_performs = refl

pub patient_meets : PatientMeets
patient_meets = (
  meets 70000000 55000000 200000 115530000 (λ i. 999999 + 5999301 * i) patient_lines
      (record { first = omega arith; second = omega arith; covered = omega arith; short = omega arith; settled = omega arith })
      patient_calls patient_performs,
  ltb-true _ _ refl,
  ltb-true _ _ refl,
)
