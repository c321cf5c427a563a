-- The examples of a clock that is set back compute.
use Rattle.std.proofs.Common.{◌≡◌, ◌∙◌, ℕ, List, [], ◌∷◌, ap, arith, inl, inr, refl, sym}
use Rattle.wb_names.specs.History.{name_of}
use Rattle.wb_gaps.specs.Answers.{gaps_of, pages_of, report_of}
use Rattle.wb_member.specs.Random.{after_word, started as random_started, word_of}
use Rattle.wb_policy.specs.Choices.{near_names}
use Rattle.wb_policy.specs.Words as words
use Rattle.wb_judging.specs.declared.call.Call.TheVariants.{UserDrew}
use Rattle.wb_judging.specs.Laws.{drawops_of}
use Rattle.wb_judging.specs.Performing.{after_kept_line, sent_by_kept_line}
use Rattle.wb_judging.specs.declared.record.RecordLine.{RecordLine}
use Rattle.wb_laws_kept.specs.Openings.{IsOpening}
use Rattle.wb_judged_sessions.specs.Days.{NeverADayBack, latest_before, day_of, latest_at}
use Rattle.wb_judged_sessions.specs.Examples.{at, deletes, numbers, page}
use Rattle.wb_judged_sessions.specs.Calls.{after_call, JudgedCall, Starts, Takes}
use Rattle.wb_judged_sessions.specs.Sessions.{At, drawn_at, judged_at}
use Rattle.wb_judged_sessions.specs.SetBack.{IsGivenAhead, IsSetBack, IsSetBackTooFar, deletes_first, elsewhere, file, first, late, once, second, start_on, twice}
use Rattle.wb_judged_sessions.specs.Terms.{AreTaken, KeepFiles, file_at}
use Rattle.wb_judged_sessions.proofs.Examples.{its_by}

is_opening : (wall seed moment : ℕ) → IsOpening (start_on wall seed moment).opening
is_opening wall seed moment = record { moments = (omega arith, tt); in_range = refl; small = omega arith }

told : file_at numbers once 0 ≡ file
unfolding random_started word_of after_word words.started report_of gaps_of pages_of near_names after_kept_line sent_by_kept_line
told = refl

latest : latest_at numbers once 0 ≡ 300000000002
unfolding random_started word_of after_word words.started report_of gaps_of pages_of near_names after_kept_line sent_by_kept_line
latest = refl

cells : 8 ≡ (judged_at numbers once 0).kept.host.is.cells
unfolding after_kept_line words.word_of words.after_word words.started
cells = refl

-- ---- by less than a day

taken_less : AreTaken numbers (twice 240000000000)
unfolding random_started word_of after_word words.started report_of gaps_of pages_of near_names after_kept_line sent_by_kept_line
taken_less = (refl, ((is_opening 240000000000 2 7, (refl, (refl, tt))), (refl, ((is_opening late 1 1, tt), tt))))

day_less : day_of (judged_at numbers (twice 240000000000) 0) ≡ 240000000002
unfolding random_started word_of after_word words.started report_of gaps_of pages_of near_names after_kept_line sent_by_kept_line
day_less = refl

drew_less : drawn_at numbers (twice 240000000000) 0 ≡ second 300000000003 ∷ first ∷ []
unfolding random_started word_of after_word words.started report_of gaps_of pages_of near_names after_kept_line sent_by_kept_line
drew_less = refl

-- ---- by more than two days

taken_more : AreTaken numbers (twice 100000000000)
unfolding random_started word_of after_word words.started report_of gaps_of pages_of near_names after_kept_line sent_by_kept_line
taken_more = (refl, ((is_opening 100000000000 2 7, (refl, (refl, tt))), (refl, ((is_opening late 1 1, tt), tt))))

day_more : day_of (judged_at numbers (twice 100000000000) 0) ≡ 100000000002
unfolding random_started word_of after_word words.started report_of gaps_of pages_of near_names after_kept_line sent_by_kept_line
day_more = refl

drew_more : drawn_at numbers (twice 100000000000) 0 ≡ second 100000000002 ∷ first ∷ []
unfolding random_started word_of after_word words.started report_of gaps_of pages_of near_names after_kept_line sent_by_kept_line
drew_more = refl

-- ---- files and days

module _ (wall : ℕ) where
  abbrev started_again : List (At JudgedCall)
  started_again = at 7 0 (Starts (start_on wall 2 7) file) ∷ once

  files : KeepFiles numbers (twice wall)
  files = (
    its_by started_again 0 (Takes (UserDrew 9 page deletes)) tt,
    (
      its_by once 0 (Starts (start_on wall 2 7) file) (inr (ap drawops_of (sym told), cells)),
      (
        its_by (at 1 0 (Starts (start_on late 1 1) []) ∷ []) 0 (Takes (UserDrew 3 page deletes)) tt,
        (its_by [] 0 (Starts (start_on late 1 1) []) (inl refl), tt),
      ),
    ),
  )

  -- the time of day that its file tells when it starts again
  before : latest_before (Starts (start_on wall 2 7) file) (file_at numbers once 0) (latest_at numbers once 0) ≡ 300000000002
  before = ap (λ (told : List RecordLine). latest_before (Starts (start_on wall 2 7) file) told (latest_at numbers once 0)) told ∙ latest

  day : day_of (after_call (Starts (start_on wall 2 7) file) (judged_at numbers once 0)) ≡ wall
  unfolding random_started word_of after_word words.started report_of gaps_of pages_of near_names after_kept_line sent_by_kept_line
  day = omega arith

back : NeverADayBack numbers (twice 240000000000)
back = (
  (λ e. absurd cc),
  (
    (λ e. let b = before 240000000000 in let d = day 240000000000 in omega (arith, b, d)),
    ((λ e. absurd cc), ((λ e. omega arith), tt)),
  ),
)

pub it_is_set_back : IsSetBack
it_is_set_back = record {
  again = record { taken = taken_less; files = files 240000000000; day = let d = day_less in omega (arith, d); drew = drew_less };
  keeps = record { taken = taken_less; files = files 240000000000; back = back };
}

pub it_is_set_back_too_far : IsSetBackTooFar
it_is_set_back_too_far = record {
  again = record { taken = taken_more; files = files 100000000000; day = let d = day_more in omega (arith, d); drew = drew_more };
  more = λ back. let b = before 100000000000 in let d = day 100000000000 in let lt = back.1.0 refl in omega (arith, b, d, lt);
}

-- ---- elsewhere

given_taken : AreTaken numbers elsewhere
unfolding random_started word_of after_word words.started report_of gaps_of pages_of near_names after_kept_line sent_by_kept_line
given_taken = (refl, ((is_opening 100000000000 2 7, (refl, (refl, tt))), (refl, ((is_opening late 1 1, tt), tt))))

given_held : (judged_at numbers elsewhere 1).kept.host.is.held ≡ first ∷ record { name = name_of page 11 1; time = 100000000002; op = deletes_first } ∷ []
unfolding random_started word_of after_word words.started report_of gaps_of pages_of near_names after_kept_line sent_by_kept_line
given_held = refl

given_day : day_of (after_call (Starts (start_on 100000000000 2 7) file) (judged_at numbers once 1)) ≡ 100000000000
unfolding random_started word_of after_word words.started report_of gaps_of pages_of near_names after_kept_line sent_by_kept_line
given_day = refl

given_files : KeepFiles numbers elsewhere
given_files = (
  its_by (at 7 1 (Starts (start_on 100000000000 2 7) file) ∷ once) 1 (Takes (UserDrew 9 page deletes_first)) tt,
  (
    its_by once 1 (Starts (start_on 100000000000 2 7) file) (inl refl),
    (
      its_by (at 1 0 (Starts (start_on late 1 1) []) ∷ []) 0 (Takes (UserDrew 3 page deletes)) tt,
      (its_by [] 0 (Starts (start_on late 1 1) []) (inl refl), tt),
    ),
  ),
)

pub it_is_given_ahead : IsGivenAhead
it_is_given_ahead = record {
  taken = given_taken;
  files = given_files;
  held = given_held;
  more = λ back. let d = given_day in let lt = back.1.0 refl in omega (arith, d, lt);
}
