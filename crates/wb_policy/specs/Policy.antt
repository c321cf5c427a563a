-- The state of a policy, and what it sees of its host.
use Rattle.std.specs.Prelude.{ℕ, ◌+◌, Option, Some, None, false, min}
use Rattle.wb_gaps.specs.declared.holes.Hole.{Hole}
use Rattle.wb_policy.specs.Credit.{repaid, spent}
use Rattle.wb_policy.specs.Delays.{bounded, usual_with}
use Rattle.wb_policy.specs.Leaps.{after_leap, next_leaps}
use Rattle.wb_policy.specs.Pace.{begun_pace, hurried, next_pace}
use Rattle.wb_policy.specs.Questions.{answer_pause, answered_at, asked_at, heard_at, opened_at, to_answer}
use Rattle.wb_policy.specs.Reports.{mean_time, next_report}
use Rattle.wb_policy.specs.Turns.{after_hole, next_round, nowhere}
use Rattle.wb_policy.specs.Words.{Lcg, after_word, drawn, started}
use Rattle.wb_policy.specs.declared.leaps.Leaps.{Leaps}
use Rattle.wb_policy.specs.declared.limits.TheConstants.{ANSWER, FIRST_DELAY, FIRST_QUESTION, FIRST_REPORT}
use Rattle.wb_policy.specs.declared.pace.Pace.{Pace}
use Rattle.wb_policy.specs.declared.questions.Questions.{Questions}
use Rattle.wb_policy.specs.declared.reports.Reports.{Reports}
use Rattle.wb_policy.specs.declared.reports.Told.{Told}
use Rattle.wb_policy.specs.declared.turns.Turns.{Turns}

-- A fixed number of integers. Nothing is added before `ready`; `told` is what reports told so far, `echoed` the last that had its turn
-- among the echoes, `owed` is the moment up to which names are paid for, and `usual` the usual delay.
pub record Policy : Type 0 where
  pub ready : ℕ
  pub reports : Reports
  pub questions : Questions
  pub turns : Turns
  pub leaps : Leaps
  pub pace : Pace
  pub told : Told
  pub echoed : ℕ
  pub owed : ℕ
  pub usual : ℕ
  pub words : Lcg

-- a number drawn from 0 to this, and the policy without the word that it took
abbrev pub draws : ℕ → Policy → ℕ
draws most p = drawn most p.words

abbrev pub after_draw : Policy → Policy
after_draw p = record p { words = after_word p.words }

-- as it begins at a moment: the first word says when it reports, the second when it asks for pages
abbrev pub begun : ℕ → ℕ → ℕ → ℕ → Policy
begun now rate listen seed =
    let words = started seed in
    record {
      ready = now + listen;
      reports = record { rate = rate; due = now + drawn FIRST_REPORT words };
      questions = opened_at now (drawn FIRST_QUESTION (after_word words));
      turns = record { page = nowhere; source = 0; number = 0; round = 0; step = 0 };
      leaps = record { page = nowhere; source = 0; number = 0; round = 0 };
      pace = begun_pace now;
      told = record { page = nowhere; last = None; until = 0; in_turn = false };
      echoed = 0;
      owed = 0;
      usual = FIRST_DELAY;
      words = after_word (after_word words);
    }

-- ---- what becomes of it

-- a name is asked for; one that was asked for came
abbrev pub after_wanting : ℕ → Policy → Policy
after_wanting now p = record p { owed = spent p.owed now }

abbrev pub after_came : Policy → Policy
after_came p = record p { owed = repaid p.owed; pace = hurried p.pace }

-- its user drew the name that it asked for
abbrev pub after_drawing : Policy → Policy
after_drawing p = record p { owed = repaid p.owed }

-- a hole has its turn; another round begins
abbrev pub after_turn : Hole → Policy → Policy
after_turn hole p = record p { turns = after_hole p.turns hole }

abbrev pub in_next_round : Policy → Policy
in_next_round p = record p { turns = next_round p.turns }

-- a name far from others is asked for beside them; another round of these begins
abbrev pub after_leaping : Hole → Policy → Policy
after_leaping hole p = record p { leaps = after_leap p.leaps hole }

abbrev pub in_next_leaps : Policy → Policy
in_next_leaps p = record p { leaps = next_leaps p.leaps }

-- a turn comes by the clock
abbrev pub after_beat : ℕ → Policy → Policy
after_beat now p = record p { pace = next_pace now p.pace }

-- an echo told a delay
abbrev pub after_echo : ℕ → Policy → Policy
after_echo micros p = record p { usual = usual_with p.usual (bounded micros) }

-- it asked for pages; it took up a question, and answered it by some page states; somebody answered
abbrev pub after_question : ℕ → Policy → Policy
after_question now p = record (after_draw p) { questions = asked_at now (draws p.questions.wait p) p.questions }

abbrev pub after_taking_up : ℕ → Policy → Policy
after_taking_up now p = record (after_draw p) { questions = to_answer now (draws ANSWER p) p.questions }

abbrev pub after_answer : ℕ → ℕ → Policy → Policy
after_answer now states p = record p { questions = answered_at now (answer_pause p.reports.rate states) p.questions }

abbrev pub after_state : ℕ → Policy → Policy
after_state now p = record p { questions = heard_at now p.questions }

-- It reported `bytes` bytes, among `members` members: what reports told then.
abbrev pub after_report : ℕ → Told → ℕ → ℕ → Policy → Policy
after_report now told members bytes p =
    let mean = mean_time p.reports.rate members bytes in
    record (after_draw p) { told = told; reports = record p.reports { due = next_report now mean (draws mean p) } }

-- of those who were echoed this one was the last that had its turn
abbrev pub after_echoing : ℕ → Policy → Policy
after_echoing echoed p = record p { echoed = echoed }

-- the least moment at which it has something to do
abbrev pub sooner : ℕ → Option ℕ → ℕ
sooner moment None = moment
sooner moment (Some other) = min moment other

abbrev pub next_moment : Policy → ℕ
next_moment p = sooner (sooner (min p.reports.due p.pace.due) p.questions.ask) p.questions.answer
