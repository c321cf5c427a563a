use Rattle.wb_keeping.specs.Kept.{Transition, and_then, answers, asks_pages, reports_due, turns_due}
use Rattle.wb_keeping.proofs.Performed.{does_then}
use Rattle.wb_keeping.proofs.LeftSome.{on_err, left_first, left_second}
use Rattle.wb_keeping.proofs.kept_member.KeptMember.timed.Goals as goal

abbrev two : Transition
two = and_then reports_due turns_due

pub returns-clause-does : goal.returns-clause-does
returns-clause-does c =
    does_then answers (and_then asks_pages two) c.in_ok-answers.ensures.does
    (does_then asks_pages two c.in_ok-asks_pages.ensures.does (does_then reports_due turns_due c.in_ok-reports_due.ensures.does (c.in_ok-turns_due.ensures.does.sends c.reports_due.new.sent.items)))

pub returns-in_err-answers-clause-left : goal.returns-in_err-answers-clause-left
returns-in_err-answers-clause-left c = on_err _ (left_first answers (and_then asks_pages two) c.in_err-answers.ensures.left)

pub returns-in_err-asks_pages-clause-left : goal.returns-in_err-asks_pages-clause-left
returns-in_err-asks_pages-clause-left c = on_err _ (left_second answers (and_then asks_pages two) c.in_ok-answers.ensures.does (left_first asks_pages two c.in_err-asks_pages.ensures.left))

pub returns-in_err-reports_due-clause-left : goal.returns-in_err-reports_due-clause-left
returns-in_err-reports_due-clause-left c =
    on_err _ (left_second answers (and_then asks_pages two) c.in_ok-answers.ensures.does
    (left_second asks_pages two c.in_ok-asks_pages.ensures.does (left_first reports_due turns_due c.in_err-reports_due.ensures.left)))

pub returns-in_err-turns_due-clause-left : goal.returns-in_err-turns_due-clause-left
returns-in_err-turns_due-clause-left c =
    on_err _ (left_second answers (and_then asks_pages two) c.in_ok-answers.ensures.does
    (left_second asks_pages two c.in_ok-asks_pages.ensures.does (left_second reports_due turns_due c.in_ok-reports_due.ensures.does c.in_err-turns_due.ensures.left)))
