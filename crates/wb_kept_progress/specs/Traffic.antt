-- How much a self-managing host sends, whatever comes in.
use Rattle.std.specs.Prelude.{◌≡◌, ℕ, ◌+◌, ◌-◌, ◌*◌, ◌/◌, ◌≤◌, Bool, true, false, List, [], ◌∷◌, filter, is_some, length, if◌then◌else◌}
use Rattle.wb_codec.specs.declared.datagram.Datagram.{Datagram}
use Rattle.wb_codec.specs.declared.datagram.Datagram.TheVariants.{AskPages, PageState, Session}
use Rattle.wb_recovery.specs.Events.{names_of, timers_of}
use Rattle.wb_recovery.specs.Timing.{are_constants}
use Rattle.wb_recovery.specs.declared.tuning.Tuning.{Tuning}
use Rattle.wb_keeper.specs.Hearing.{asks_for_held}
use Rattle.wb_member.specs.Opened.{Opened, events, present}
use Rattle.wb_policy.specs.Policy.{Policy}
use Rattle.wb_recovery.specs.declared.limits.TheConstants.{MOST_TIMERS}
use Rattle.wb_policy.specs.declared.limits.TheConstants.{COST, FIRST_WAIT, LEAST_DELAY, MOST_PAGES, PAYS, PLACES, QUIET, SHORTEST_PAUSE}
use Rattle.wb_keeping.specs.Bounds.{answer_count, is_request, new_keeping}
use Rattle.wb_keeping.specs.Laws.{Added, AreTaken, Came, KeptLine, Ticked, Tuned, after_kept, doing_of, expand, sent_by_kept}
use Rattle.wb_keeping.specs.Performing.{Keeping, after_doing}
use Rattle.wb_keeping.specs.declared.limits.TheConstants.{MINUTES, MOST_REQUESTS}
use Rattle.wb_kept_progress.specs.Timed.{is_drawop}

-- ---- kinds of datagrams

abbrev pub is_session : Datagram → Bool
is_session (Session sender sent page marks echoes) = true
is_session v = false

abbrev pub is_page_state : Datagram → Bool
is_page_state (PageState sender page marks) = true
is_page_state v = false

abbrev pub is_page_question : Datagram → Bool
is_page_question (AskPages asker) = true
is_page_question v = false

abbrev pub how_many : (Datagram → Bool) → List Datagram → ℕ
how_many kind sent = length (filter kind sent)

-- ---- reports, page states and questions

-- In `micros` microseconds reports are a second apart or more, page states come at most 64 at once and then a second apart or more, and questions for
-- pages are half a second apart or more.
pub record IsLittle (sent : List Datagram) (micros : ℕ) : Type 0 where
  pub reports : how_many is_session sent * SHORTEST_PAUSE ≤ SHORTEST_PAUSE + micros
  pub states : how_many is_page_state sent * QUIET ≤ MOST_PAGES * (QUIET + micros)
  pub questions : how_many is_page_question sent * (FIRST_WAIT / 2) ≤ FIRST_WAIT / 2 + micros

-- It sends no more of them by any lines, in the time from the moment before these to that after them.
abbrev pub LittleIsSent : Type 0
LittleIsSent = (lines : List KeptLine) (k : Keeping) → FIRST_WAIT ≤ k.policy.questions.wait → AreTaken lines k → IsLittle (sent_by_kept lines k) (present (after_kept lines k).host - present k.host)

-- ---- requests

-- In ten minutes or less a host that is self-managing from its opening on, but for ticks, requests at most 15 times each of 128 names, of one name
-- more in each quarter of a second, and of two more for each name that it asked for and that came. The constants are 1 to 16, and the usual delay is
-- not below 10 milliseconds at first.
abbrev pub FewRequestsAreSent : Type 0
FewRequestsAreSent = (constants : Tuning) (number cells seed : ℕ) (moments : List ℕ) (policy : Policy) (earlier lines : List KeptLine)
    → let start = new_keeping constants number cells seed moments policy in
    let k = after_kept earlier start in
    let micros = present (after_kept lines k).host - present k.host in
    are_constants constants ≡ true → LEAST_DELAY ≤ policy.usual → AreTaken earlier start → AreTaken lines k → micros ≤ MINUTES
    → how_many is_request (sent_by_kept lines k) * COST ≤ MOST_REQUESTS * ((MOST_TIMERS + PLACES + PAYS * answer_count (expand lines k) k.host) * COST + micros)

-- ---- drawops

-- how many answer timers stand at a host
abbrev pub answering_count : Opened → ℕ
answering_count host = length (filter (λ n. is_some (timers_of host.is.constants (events host) n).answer) (names_of (events host)))

-- a request for a drawop that it holds is handed in, or its user draws
abbrev pub calls_for_drawop : KeptLine → Keeping → Bool
calls_for_drawop (Came now v) k = asks_for_held k.host.is.held v
calls_for_drawop (Ticked now) k = false
calls_for_drawop (Added now page time op) k = true
calls_for_drawop (Tuned constants) k = false

-- how many of some lines do
abbrev pub call_count : List KeptLine → Keeping → ℕ
call_count [] k = 0
call_count (line ∷ lines) k = (if calls_for_drawop line k then 1 else 0) + call_count lines (after_doing (doing_of line) k)

-- By any lines it sends no more drawops than such lines come, and one for each answer timer that stood before.
abbrev pub DrawopsAreCalledFor : Type 0
DrawopsAreCalledFor = (lines : List KeptLine) (k : Keeping) → how_many is_drawop (sent_by_kept lines k) ≤ answering_count k.host + call_count lines k

-- None stands where a host becomes self-managing.
abbrev pub NoAnswerStands : Type 0
NoAnswerStands = (constants : Tuning) (number cells seed : ℕ) (moments : List ℕ) (policy : Policy) → answering_count (new_keeping constants number cells seed moments policy).host ≡ 0
