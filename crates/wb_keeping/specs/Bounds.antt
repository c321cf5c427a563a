-- Bounds on what a self-managing host asks for and says, whatever comes in.
use Rattle.std.specs.Prelude.{◌≡◌, ◌⊎◌, ℕ, ◌+◌, ◌-◌, ◌*◌, ◌/◌, ◌<◌, ◌≤◌, Bool, true, false, not, ◌&&◌, List, [], ◌∷◌, ◌++◌, Contains, filter, length, map, take, if◌then◌else◌}
use Rattle.wb_names.specs.Orders.{same_name}
use Rattle.wb_names.specs.Values.{NameValue}
use Rattle.wb_codec.specs.declared.datagram.Datagram.{Datagram}
use Rattle.wb_codec.specs.declared.datagram.Datagram.TheVariants.{Draw, Session, Request, AskPages, PageState}
use Rattle.wb_recovery.specs.Timing.{are_constants}
use Rattle.wb_recovery.specs.declared.tuning.Tuning.{Tuning}
use Rattle.wb_member.specs.Judged.{asked_names}
use Rattle.wb_member.specs.Opened.{Opened, opened_with, present}
use Rattle.wb_member.specs.declared.calls.Call.TheVariants as calls
use Rattle.wb_recovery.specs.declared.limits.TheConstants.{MOST_TIMERS}
use Rattle.wb_policy.specs.declared.limits.TheConstants.{COST, FIRST_WAIT, LEAST_DELAY, MOST_PAGES, PAYS, PLACES, QUIET, SECOND, SHORTEST_PAUSE, STATE_BYTES}
use Rattle.wb_keeping.specs.Kept.{Line, Arrives, Says, Calls, ticks_at, want}
use Rattle.wb_keeping.specs.Calls.{KeptLine}
use Rattle.wb_keeping.specs.Laws.{AreTaken, after_kept, expand}
use Rattle.wb_keeping.specs.Performing.{Keeping, after_doing, after_line, after_lines, sent_by_line, sent_by_lines, view_of}
use Rattle.wb_policy.specs.Policy.{Policy}
use Rattle.wb_keeping.specs.Views.{holds, is_asked, is_full}
use Rattle.wb_keeping.specs.declared.limits.TheConstants.{MINUTES, MOST_REQUESTS}

-- ---- timers

-- how many request timers stand at a host
abbrev pub timer_count : Opened → ℕ
timer_count host = length (asked_names host)

-- a member that was opened, and to which nothing came but ticks, with a policy
abbrev pub new_keeping : Tuning → ℕ → ℕ → ℕ → List ℕ → Policy → Keeping
new_keeping constants number cells seed moments policy = record {
  host = after_lines (ticks_at moments) (opened_with constants number cells seed);
  policy = policy;
}

-- Whatever comes in, and however many of its lines were performed, at most 64 request timers stand.
abbrev pub FewTimersStand : Type 0
FewTimersStand = (constants : Tuning) (number cells seed : ℕ) (moments : List ℕ) (policy : Policy) (lines : List KeptLine) (some : ℕ)
    → let start = new_keeping constants number cells seed moments policy in
    AreTaken lines start → timer_count (after_lines (take some (expand lines start)) start.host) ≤ MOST_TIMERS

-- ---- requests

abbrev pub is_request : Datagram → Bool
is_request (Request asker name) = true
is_request v = false

-- No line sends more than 64 requests.
abbrev pub FewRequestsAtOnce : Type 0
FewRequestsAtOnce = (constants : Tuning) (number cells seed : ℕ) (moments : List ℕ) (policy : Policy) (lines : List KeptLine) (before later : List Line) (line : Line)
    → let start = new_keeping constants number cells seed moments policy in
    AreTaken lines start → expand lines start ≡ before ++ line ∷ later → length (filter is_request (sent_by_line line (after_lines before start.host))) ≤ MOST_TIMERS

-- ---- requests for one name

abbrev pub requests : NameValue → Datagram → Bool
requests n (Request asker name) = same_name name n
requests n v = false

abbrev pub request_count : NameValue → List Datagram → ℕ
request_count n sent = length (filter (requests n) sent)

-- Whatever comes in, a name is requested at most 15 times in ten minutes in which it is not asked for anew. They are counted from the moment
-- of the first of some lines to that of the last. The constants are 1 to 16, and the usual delay is not below 10 milliseconds at first.
abbrev pub NamesAreSeldomRequested : Type 0
NamesAreSeldomRequested = (constants : Tuning) (number cells seed : ℕ) (moments : List ℕ) (policy : Policy) (lines : List KeptLine) (before : List Line) (first : Line) (part later : List Line) (n : NameValue)
    → let start = new_keeping constants number cells seed moments policy in
    let host = after_lines before start.host in
    are_constants constants ≡ true → LEAST_DELAY ≤ policy.usual → AreTaken lines start
    → expand lines start ≡ before ++ ((first ∷ part) ++ later) → ¬ Contains (first ∷ part) (Calls (calls.Ask n))
    → present (after_lines (first ∷ part) host) ≤ present (after_line first host) + MINUTES
    → request_count n (sent_by_lines (first ∷ part) host) ≤ MOST_REQUESTS

-- ---- names that are asked for

-- a line that asks for a name, or for all that a page lacks
abbrev pub is_ask : Line → Bool
is_ask (Calls (calls.Ask name)) = true
is_ask (Calls (calls.Look page)) = true
is_ask line = false

-- how many lines ask for a name
abbrev pub ask_count : List Line → ℕ
ask_count lines = length (filter is_ask lines)

-- a line brings a drawop that is not held yet, and was asked for, or its user draws what was
abbrev pub is_answer : Line → Opened → Bool
is_answer (Arrives d) host = not (holds (view_of host) d.name) && is_asked (view_of host) d.name
is_answer (Says (Draw d)) host = is_asked (view_of host) d.name
is_answer line host = false

-- how many such drawops there are in some lines
abbrev pub answer_count : List Line → Opened → ℕ
answer_count [] host = 0
answer_count (line ∷ lines) host = (if is_answer line host then 1 else 0) + answer_count lines (after_line line host)

-- Whatever comes in, a host asks from one moment to another for at most 64 names, for one more in each quarter of a second, and for
-- two more for each that it asked for and that came or that its user drew.
abbrev pub FewNamesAreAsked : Type 0
FewNamesAreAsked = (lines : List KeptLine) (k : Keeping) → AreTaken lines k
    → ask_count (expand lines k) * COST ≤ (PLACES + PAYS * answer_count (expand lines k) k.host) * COST + (present (after_kept lines k).host - present k.host)

-- ---- what is owed

-- The board is full, or no more is owed than stands asked: of the names that were asked for, no more are to be paid for than request timers stand.
abbrev pub NoMoreIsOwed : Keeping → Type 0
NoMoreIsOwed k = (is_full (view_of k.host) ≡ true) ⊎ (k.policy.owed ≤ present k.host + timer_count k.host * COST)

-- So it is after each call, whatever comes in, if nothing is owed at first.
abbrev pub OwedStands : Type 0
OwedStands = (constants : Tuning) (number cells seed : ℕ) (moments : List ℕ) (policy : Policy) (lines : List KeptLine)
    → let start = new_keeping constants number cells seed moments policy in
    policy.owed ≤ present start.host → AreTaken lines start → NoMoreIsOwed (after_kept lines start)

-- So while fewer than 64 request timers stand, nothing is refused for want of credit: a name that is reported, has its turn, or is that of a leap has a
-- request timer then, unless it is held or the board is full.
abbrev pub FewAreNotRefused : Type 0
FewAreNotRefused = (constants : Tuning) (number cells seed : ℕ) (moments : List ℕ) (policy : Policy) (lines : List KeptLine) (name : NameValue)
    → let start = new_keeping constants number cells seed moments policy in
    let k = after_kept lines start in
    policy.owed ≤ present start.host → AreTaken lines start → timer_count k.host < MOST_TIMERS → holds (view_of k.host) name ≡ false → is_full (view_of k.host) ≡ false
    → is_asked (view_of (after_doing (want name true) k).host) name ≡ true

-- ---- what is said

abbrev pub is_report : Line → Bool
is_report (Says (Session sender sent page marks echoes)) = true
is_report line = false

abbrev pub is_state : Line → Bool
is_state (Says (PageState sender page marks)) = true
is_state line = false

abbrev pub is_question : Line → Bool
is_question (Says (AskPages asker)) = true
is_question line = false

-- Whatever comes in, reports are a second apart or more, page states come at most 64 at once and then a second apart or more, and
-- questions for pages are half a second apart or more.
pub record IsRarelySaid (lines : List Line) (micros : ℕ) : Type 0 where
  pub reports : length (filter is_report lines) * SHORTEST_PAUSE ≤ SHORTEST_PAUSE + micros
  pub states : length (filter is_state lines) * QUIET ≤ MOST_PAGES * (QUIET + micros)
  pub questions : length (filter is_question lines) * (FIRST_WAIT / 2) ≤ FIRST_WAIT / 2 + micros

abbrev pub LittleIsSaid : Type 0
LittleIsSaid = (lines : List KeptLine) (k : Keeping) → FIRST_WAIT ≤ k.policy.questions.wait → AreTaken lines k
    → IsRarelySaid (expand lines k) (present (after_kept lines k).host - present k.host)

-- Whatever comes in, page states are paid for by the rate that reports share, each counted with its most bytes: but for 64 at once, and for a microsecond each. The
-- rate pays for one in a second at least.
abbrev pub StatesArePaid : Type 0
StatesArePaid = (lines : List KeptLine) (k : Keeping) → AreTaken lines k → STATE_BYTES ≤ k.policy.reports.rate
    → let states = length (filter is_state (expand lines k)) in
    states * (STATE_BYTES * SECOND) ≤ MOST_PAGES * (STATE_BYTES * SECOND) + (present (after_kept lines k).host - present k.host + states) * k.policy.reports.rate
