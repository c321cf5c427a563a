-- A member that was opened with a seed, and what its calls do.
use Rattle.std.specs.Prelude.{ℕ, ◌+◌, List, [], ◌∷◌, length, Bool, true, false, not, ◌||◌, Option, Some, None, nat_lt, if◌then◌else◌}
use Rattle.wb_names.specs.Values.{NameValue, DrawopValue, greatest_number}
use Rattle.wb_names.specs.Arrivals.{Outcome, outcome_of}
use Rattle.wb_names.specs.Faults.{fault_unless}
use Rattle.wb_names.specs.declared.name.PageId.{PageId}
use Rattle.wb_codec.specs.declared.datagram.Datagram.{Datagram}
use Rattle.wb_codec.specs.declared.datagram.Datagram.TheVariants.{Request}
use Rattle.wb_recovery.specs.Events.{Event, due_asks, timers_of, names_of as timer_names}
use Rattle.wb_recovery.specs.declared.tuning.Tuning.{Tuning}
use Rattle.wb_gaps.specs.Answers.{gaps_of}
use Rattle.wb_names.specs.declared.gap.Gap.{Gap}
use Rattle.wb_keeper.specs.declared.keep_fault.KeepFault.{KeepFault}
use Rattle.wb_keeper.specs.declared.keep_fault.KeepFault.TheVariants.{TooMany}
use Rattle.wb_keeper.specs.Dues.{next_due_of}
use Rattle.wb_keeper.specs.GivingUp.{is_asked, is_timed}
use Rattle.wb_keeper.specs.Hearing.{marks_heard, has_room, answers_to}
use Rattle.wb_keeper.specs.Keeper.{moment_at, is_own, events_of, holds}
use Rattle.wb_keeper.specs.KeepFaults.{moment_fault}
use Rattle.wb_keeper.specs.Known.{known_pages, known_number}
use Rattle.wb_keeper.specs.Missing.{wanted_of as names_wanted}
use Rattle.wb_keeper.specs.Sessions.{message_of}
use Rattle.wb_keeper.specs.Ticks.{sent_by_tick}
use Rattle.wb_member.specs.Board.{Held}
use Rattle.wb_member.specs.Members.{Member, Act, Takes, Hears, SetsDelay, SetsConstants, Misses, GivesUp, Ticks, Reports, after}
use Rattle.wb_member.specs.Queries.{view_of}
use Rattle.wb_member.specs.Random.{Lcg, started, word_of, words_of, after_words}

-- the member, and the generator of its random words
pub record Opened : Type 0 where
  pub is : Member
  pub random : Lcg

-- just opened: an empty board, and a keeper that has heard nothing
abbrev pub opened_with : Tuning → ℕ → ℕ → ℕ → Opened
opened_with constants number cells seed = record {
  is = record { number = number; cells = cells; constants = constants; drawn = []; held = []; calls = [] };
  random = started seed;
}

-- its board
abbrev pub board_of : Opened → Held
board_of host = record { cells = host.is.cells; drawops = host.is.held }

-- the present moment, at first 0
abbrev pub present : Opened → ℕ
present host = moment_at host.is.calls

-- the calls of its timers
abbrev pub events : Opened → List Event
events host = events_of host.is.number host.is.calls

-- It does an act, which takes `words` random words.
abbrev pub doing : Act → ℕ → Opened → Opened
doing act words host = record { is = after act host.is; random = after_words host.random words }

-- ---- what comes in

-- A batch arrives, and is taken in some order.
abbrev pub batched : List DrawopValue → List DrawopValue → Opened → Opened
batched batch order host = doing (Takes (present host) batch order) 0 host

-- A drawop that arrives is a batch of its own. This becomes of it.
abbrev pub becomes : DrawopValue → Opened → Outcome
becomes d host = outcome_of host.is.cells host.is.held d

abbrev pub accepted : DrawopValue → Opened → Opened
accepted d host = batched (d ∷ []) (d ∷ []) host

-- A request takes a random word, and no other datagram does.
abbrev pub takes_word : Datagram → Bool
takes_word (Request asker name) = true
takes_word v = false

abbrev pub words_for : Datagram → ℕ
words_for v = if takes_word v then 1 else 0

abbrev pub word_at : Datagram → Lcg → ℕ
word_at v random = if takes_word v then word_of random else 0

-- A datagram is refused if the marks of its page would be too many.
abbrev pub has_room_for : Datagram → Opened → Bool
has_room_for v host = is_own host.is.number v || has_room (marks_heard host.is.number host.is.calls) v

abbrev pub heard_fault : Datagram → Opened → Option KeepFault
heard_fault v host = fault_unless (has_room_for v host) TooMany

abbrev pub heard : Datagram → Opened → Opened
heard v host = doing (Hears (present host) v (word_at v host.random)) (words_for v) host

-- what it sends at once
abbrev pub answered : Datagram → Opened → List Datagram
answered v host = answers_to host.is.number host.is.held v

abbrev pub with_delay : ℕ → ℕ → Opened → Opened
with_delay source micros host = doing (SetsDelay source micros) 0 host

-- From now on timers are set and backed off by other constants. A timer that stands keeps its moment.
abbrev pub with_constants : Tuning → Opened → Opened
with_constants constants host = doing (SetsConstants constants) 0 host

-- ---- time

-- the least moment at which one of its timers is due, or None if none stands
abbrev pub next_due : Opened → Option ℕ
next_due host = next_due_of host.is.constants (events host)

-- how many of its request timers are due at a moment
abbrev pub due_count : ℕ → Opened → ℕ
due_count now host = length (due_asks (timer_names (events host)) (timers_of host.is.constants (events host)) now)

-- Time goes on to a moment, which is not before the present one. A random word is taken for each request timer that is due.
abbrev pub ticked_fault : ℕ → Opened → Option KeepFault
ticked_fault now host = moment_fault (present host) now

abbrev pub ticked : ℕ → Opened → Opened
ticked now host = doing (Ticks now (words_of host.random (due_count now host))) (due_count now host) host

-- what it sends as time goes on to a moment
abbrev pub sent_by : ℕ → Opened → List Datagram
sent_by now host = sent_by_tick host.is.number host.is.constants host.is.calls host.is.held now

-- ---- what it tells others, and asks them for

-- It sends its session message of a page.
abbrev pub reported : PageId → Opened → Opened
reported page host = doing (Reports (present host) page) 0 host

abbrev pub message : PageId → Opened → Datagram
message page host = message_of host.is.number host.is.calls (present host) host.is.held page

-- the names that it wants of a page
abbrev pub wanted_of : PageId → Opened → List NameValue
wanted_of page host = names_wanted host.is.constants (events host) host.is.held page (marks_heard host.is.number host.is.calls page)

-- It begins to miss them, with a random word for each.
abbrev pub looked : PageId → Opened → Opened
looked page host = doing (Misses (present host) (wanted_of page host) (words_of host.random (length (wanted_of page host)))) (length (wanted_of page host)) host

-- the name is neither held nor has a timer
abbrev pub may_ask : NameValue → Opened → Bool
may_ask name host = not (holds host.is.held name || is_timed (timers_of host.is.constants (events host)) name)

-- It begins to miss the name, with one random word, if it may.
abbrev pub with_asked : NameValue → Opened → Opened
with_asked name host = if may_ask name host then doing (Misses (present host) (name ∷ []) (word_of host.random ∷ [])) 1 host else host

-- a request timer stands for the name
abbrev pub asks_for : NameValue → Opened → Bool
asks_for name host = is_asked (timers_of host.is.constants (events host)) name

-- It gives up asking for the name.
abbrev pub with_stopped : NameValue → Opened → Opened
with_stopped name host = doing (GivesUp (present host) name) 0 host

-- ---- what it knows

-- what a page shows, in the order of display
abbrev pub shown : PageId → Opened → List DrawopValue
shown page host = view_of host.is.held page

-- the missing ranges of a page, up to the greatest numbers that are held or were heard of
abbrev pub gaps_at : PageId → Opened → List Gap
gaps_at page host = gaps_of host.is.held page (marks_heard host.is.number host.is.calls page)

-- the pages that have a drawop or of which some mark was heard, ascending
abbrev pub pages_known : Opened → List PageId
pages_known host = known_pages host.is.number host.is.calls host.is.held

-- the greatest number of its own drawops on a page that is held or was heard of, or 0
abbrev pub last_number : PageId → Opened → ℕ
last_number page host = known_number host.is.number host.is.calls host.is.held page host.is.number

-- the number after the last, if there is one
abbrev pub number_after : ℕ → Option ℕ
number_after last = if nat_lt last greatest_number then Some (last + 1) else None

-- the number of its next drawop on a page
abbrev pub next_number : PageId → Opened → Option ℕ
next_number page host = number_after (last_number page host)

-- ---- before and after it is open

-- by whether a member is open
abbrev pub by_host : {X : Type 0} → Option Opened → X → (Opened → X) → X
by_host None none some = none
by_host (Some host) none some = some host
