-- There is one answer of a keeper to what it hears, and one list of what it wants; functions give them.
use Rattle.std.proofs.Common.{◌≡◌, ℕ, ◌≤◌, Bool, true, false, cond, List, [], ap, refl, ◌∙◌, sym, length, arith}
use Rattle.std.specs.Prelude.{map, not}
use Rattle.wb_names.specs.Values.{NameValue, DrawopValue, MarkValue}
use Rattle.wb_names.specs.declared.gap.Gap.{Gap}
use Rattle.wb_names.specs.declared.name.PageId.{PageId}
use Rattle.wb_codec.specs.declared.datagram.Datagram.{Datagram}
use Rattle.wb_codec.specs.declared.datagram.Datagram.TheVariants.{Draw, Session, Request, AskPages, PageState}
use Rattle.wb_gaps.specs.Answers.{reports_of, gaps_of}
use Rattle.wb_gaps.proofs.AllReports.{reports_of_pages}
use Rattle.wb_gaps.proofs.MissingRanges.{gaps_of_page}
use Rattle.wb_gaps.proofs.OneGaps.{one_gaps}
use Rattle.wb_gaps.proofs.AllReports.{one_reports}
use Rattle.wb_gaps.specs.declared.page_reports.PageReport.{PageReport}
use Rattle.wb_board.specs.Desks.{PassValue, IsSound}
use Rattle.wb_recovery.specs.Events.{Event, asking, names_of, timers_of}
use Rattle.wb_recovery.specs.declared.tuning.Tuning.{Tuning}
use Rattle.wb_keeper.specs.Hearing.{AreAnswers, IsSent, asks_for_pages, page_states, answers_to, OneSent, AnswersAreSent}
use Rattle.wb_keeper.specs.Keeper.{is_own}
use Rattle.wb_keeper.specs.Missing.{AreWanted, wanted, wanted_of, names_in_gaps, OneWanted, WantedOfPage}
use Rattle.wb_board.specs.Counts.{MAX_CELLS}

one_answer : (me : ℕ) (history : List DrawopValue) (asked : Bool) (a b : List Datagram) → AreAnswers asked me history a → AreAnswers asked me history b → a ≡ b
one_answer me history true a b (reports, are, is) (others, theirs, same) = is ∙ ap (map (λ (r : PageReport). PageState me r.page r.marks)) (one_reports history reports others are theirs) ∙ sym same
one_answer me history false a b is same = is ∙ sym same

pub one_sent : OneSent
one_sent me history datagram a b = one_answer me history (asks_for_pages me datagram) a b

pub one_wanted : OneWanted
one_wanted constants events history page marks a b (gaps, are, is) (others, theirs, same) =
    is ∙ ap (λ (gs : List Gap). wanted (timers_of constants events) (length (asking (names_of events) (timers_of constants events))) (names_in_gaps page gs)) (one_gaps history page marks gaps others are theirs) ∙ sym same

-- ---- the functions

-- a desk has few enough members for each report
pub few_seen : (q : PassValue) → IsSound q → length q.seen ≤ MAX_CELLS
few_seen q sound = let room = sound.room in let few = sound.few_cells in omega arith

states_sent : (me : ℕ) (history : List DrawopValue) (asked : Bool) → length history ≤ MAX_CELLS → AreAnswers asked me history (cond asked (page_states me history) [])
states_sent me history true few = (reports_of history, reports_of_pages history few, refl)
states_sent me history false few = refl

pub answers_are_sent : AnswersAreSent
answers_are_sent me history datagram few = states_sent me history (asks_for_pages me datagram) few

pub only_sent : (me : ℕ) (q : PassValue) (datagram : Datagram) (sent : List Datagram) → IsSound q → IsSent me q.seen datagram sent → sent ≡ answers_to me q.seen datagram
only_sent me q datagram sent sound is = one_sent me q.seen datagram sent (answers_to me q.seen datagram) is (answers_are_sent me q.seen datagram (few_seen q sound))

pub wanted_of_page : WantedOfPage
wanted_of_page constants events history page marks = (gaps_of history page marks, gaps_of_page history page marks, refl)

pub only_wanted : (constants : Tuning) (events : List Event) (history : List DrawopValue) (page : PageId) (marks : List MarkValue) (names : List NameValue) → AreWanted constants events history page marks names → names ≡ wanted_of constants events history page marks
only_wanted constants events history page marks names are = one_wanted constants events history page marks names (wanted_of constants events history page marks) are (wanted_of_page constants events history page marks)

-- this member's own question is not answered
pub own_unanswered : (me : ℕ) (history : List DrawopValue) (datagram : Datagram) → is_own me datagram ≡ true → answers_to me history datagram ≡ []
own_unanswered me history (AskPages asker) own = ap (λ (b : Bool). cond (not b) (page_states me history) []) own
own_unanswered me history (Draw d) own = refl
own_unanswered me history (Session sender sent page marks echoes) own = refl
own_unanswered me history (Request asker name) own = refl
own_unanswered me history (PageState sender page marks) own = refl
