-- A self-managing host as a whole: what it does for a datagram that comes, as time goes on, and for a drawing. Each is a list of lines
-- that a host performs, one after the other. So a kept host is a host whose driver hands in these lines.
use Rattle.std.specs.Prelude.{ℕ, zero, suc, ◌+◌, Bool, true, false, not, ◌||◌, List, [], ◌∷◌, ◌++◌, Option, Some, None, length, map, nat_eq, nat_le, nat_lt, take, if◌then◌else◌}
use Rattle.wb_names.specs.History.{highest, name_of}
use Rattle.wb_names.specs.Values.{NameValue, DrawopValue, MarkValue}
use Rattle.wb_names.specs.declared.echo.Echo.{Echo}
use Rattle.wb_names.specs.declared.name.PageId.{PageId}
use Rattle.wb_names.specs.declared.parts.Op.{Op}
use Rattle.wb_codec.specs.declared.datagram.Datagram.{Datagram}
use Rattle.wb_codec.specs.declared.datagram.Datagram.TheVariants.{Draw, Session, Request, AskPages, PageState}
use Rattle.wb_gaps.specs.Answers.{pages_of, report_of}
use Rattle.wb_gaps.specs.Holes.{hole_after}
use Rattle.wb_gaps.specs.declared.holes.Hole.{Hole}
pub use Rattle.wb_member.specs.Lines.{Line, Arrives, Says, Calls, ticks_at, stops_for}
use Rattle.wb_member.specs.declared.calls.Call.TheVariants.{Tick, Hear, SetDelay, Ask, Stop}
use Rattle.wb_policy.specs.Choices.{echoed, echoed_delay, firsts_of, near_names, next_turn, own_echo, own_marks, told_names, until_in}
use Rattle.wb_policy.specs.Delays.{bounded}
use Rattle.wb_recovery.specs.declared.limits.TheConstants.{MOST_TIMERS, UNKNOWN_DELAY}
use Rattle.wb_policy.specs.declared.limits.TheConstants.{MOST_PAGES}
use Rattle.wb_keeping.specs.Drawings.{drawing_time}
use Rattle.wb_policy.specs.Policy.{Policy, after_answer, after_beat, after_came, after_drawing, after_echoing, after_leaping, after_question, after_report, after_state, after_taking_up, after_turn, after_wanting, in_next_leaps, in_next_round, after_echo}
use Rattle.wb_keeping.specs.Views.{View, holds, is_asked, is_full, level, is_known}
use Rattle.wb_policy.specs.Leaps.{far_name}
use Rattle.wb_policy.specs.Questions.{is_due, is_to_answer}
use Rattle.wb_policy.specs.Reports.{members_in, newest_now, page_after, report_bytes, rest_after, slice_after, slice_with, told_in_turn, told_newest}
use Rattle.wb_policy.specs.Turns.{name_in, nowhere}
use Rattle.wb_policy.specs.Credit.{is_covered}
use Rattle.wb_policy.specs.Wanting.{giving_way, is_wanted, passes_on, young_count}
use Rattle.wb_policy.specs.declared.reports.Told.{Told}
use Rattle.wb_policy.specs.declared.wanting.AskedName.{AskedName}

-- what a policy does: the lines that its host performs, and the policy afterwards
pub record Doing : Type 0 where
  pub policy : Policy
  pub lines : List Line

-- the lines that give a name up, if there is one
abbrev pub stops_one : Option AskedName → List Line
stops_one None = []
stops_one (Some a) = Calls (Stop a.name) ∷ []

-- A timer that starts anew is stopped first, and for another name the oldest one may give way. So at most 64 stand.
abbrev pub room_lines : NameValue → Bool → View → List Line
room_lines name covered v = if is_asked v name then Calls (Stop name) ∷ [] else stops_one (giving_way covered v.asked)

-- less is owed than stands asked
abbrev pub covers : View → Policy → Bool
covers v p = is_covered (length v.asked) p.owed v.now

-- A source that told no delay has the usual one for one line: it is lent, and then taken back.
abbrev pub lending : ℕ → ℕ → ℕ → Line → List Line
lending source delay usual line = if nat_eq delay UNKNOWN_DELAY then Calls (SetDelay source usual) ∷ line ∷ Calls (SetDelay source UNKNOWN_DELAY) ∷ [] else line ∷ []

-- ---- transitions

-- What a policy does if its host shows this after such lines: at once, after none.
abbrev pub Transition : Type 0
Transition = (List Line → View) → Policy → Doing

abbrev pub still : Transition
still see p = record { policy = p; lines = [] }

abbrev pub performs : Line → Transition
performs line see p = record { policy = p; lines = line ∷ [] }

-- one after the other, which sees what the host shows after the lines of the first
abbrev pub and_then : Transition → Transition → Transition
and_then first second see p =
    let one = first see p in
    let two = second (λ lines. see (one.lines ++ lines)) one.policy in
    record { policy = two.policy; lines = one.lines ++ two.lines }

-- A name is wanted. Its timer may start anew if somebody says that he holds it or it has its turn.
abbrev pub want : NameValue → Bool → Transition
want name anew see p =
    let v = see [] in
    if is_wanted (holds v name) (is_full v) anew (is_known v name.source) (level v name) (length v.asked) p.owed v.now
    then record { policy = after_wanting v.now p; lines = room_lines name (covers v p) v ++ lending name.source (v.delay name.source) p.usual (Calls (Ask name)) }
    else still see p

-- whoever reports a number holds it
abbrev pub want_told : List NameValue → Transition
want_told [] = still
want_told (name ∷ names) = and_then (want name true) (want_told names)

-- the missing names without a timer, up to the first that is not asked for
abbrev pub is_unasked : View → NameValue → Bool
is_unasked v name = not (holds v name || is_asked v name)

abbrev pub is_begun : Doing → Bool
is_begun d = nat_lt 0 (length d.lines)

abbrev pub want_near : List NameValue → Transition
want_near [] see p = still see p
want_near (name ∷ names) see p =
    if is_unasked (see []) name
    then (if is_begun (want name false see p) then and_then (want name false) (want_near names) see p else still see p)
    else want_near names see p

-- the hole whose turn it is, or the first of all in another round
abbrev pub turn_to : Option Hole → Option Hole → Transition
turn_to (Some hole) first see p = want (name_in p.turns hole) true see (after_turn hole p)
turn_to None (Some hole) see p = want (name_in (in_next_round p).turns hole) true see (after_turn hole (in_next_round p))
turn_to None None see p = still see (in_next_round p)

abbrev pub turn : Transition
turn see p =
    let held = (see []).held in
    turn_to (hole_after held p.turns.page p.turns.source p.turns.number) (hole_after held nowhere 0 0) see p

-- a full board asks for nothing
abbrev pub end : Transition
end see p = record { policy = p; lines = map (λ a. Calls (Stop a.name)) (see []).asked }

-- what was asked for and came pays
abbrev pub paid_for : Bool → Policy → Policy
paid_for was_asked p = if was_asked then after_came p else p

-- a name of another hole, far from those before
abbrev pub leap_to : Option Hole → Option Hole → Transition
leap_to (Some hole) first see p = want (far_name p.leaps hole) true see (after_leaping hole p)
leap_to None (Some hole) see p = want (far_name (in_next_leaps p).leaps hole) true see (after_leaping hole (in_next_leaps p))
leap_to None None see p = still see (in_next_leaps p)

abbrev pub leap : Transition
leap see p =
    let held = (see []).held in
    leap_to (hole_after held p.leaps.page p.leaps.source p.leaps.number) (hole_after held nowhere 0 0) see p

-- leaps up to the first that asks, at most this many
unfoldable pub leaps_on : ℕ → Transition
leaps_on zero see p = still see p
leaps_on (suc more) see p = if is_begun (leap see p) then leap see p else and_then leap (leaps_on more) see p

-- turns up to the first that asks, at most this many
unfoldable pub turns_on : ℕ → Transition
turns_on zero see p = still see p
turns_on (suc more) see p = if is_begun (turn see p) then turn see p else and_then turn (turns_on more) see p

-- these pass over what is asked for, if a place of the credit is left and few timers that are not old stand
abbrev pub turns_past : Transition
turns_past see p = if passes_on (young_count (see []).asked) p.owed (see []).now then turns_on (MOST_TIMERS + 1) see p else still see p

-- leaps and turns, if a name that was asked for came
abbrev pub turn_if : Bool → Transition
turn_if was_asked see p = if was_asked then and_then (leaps_on (MOST_TIMERS + 1)) turns_past see p else still see p

-- A drawop is new: its neighbours are wanted, and then, if it was asked for, a name far from it and one that has its turn.
abbrev pub learned : NameValue → Bool → Transition
learned name was_asked see p =
    let v = see [] in
    let near = near_names name (highest name.page name.source v.held) in
    if is_full v then end see p
    else and_then (want_near near) (turn_if was_asked) see (paid_for was_asked p)

-- ---- what is due

abbrev pub state_of : View → PageId → Datagram
state_of v page = PageState v.me page (slice_after None (report_of v.held page))

abbrev pub answers : Transition
answers see p =
    let v = see [] in
    let pages = take MOST_PAGES (pages_of v.held) in
    if is_due v.now p.questions.answer
    then record { policy = after_answer v.now (length pages) p; lines = map (λ page. Says (state_of v page)) pages }
    else still see p

abbrev pub asks_pages : Transition
asks_pages see p =
    let v = see [] in
    if is_due v.now p.questions.ask
    then record { policy = after_question v.now p; lines = Says (AskPages v.me) ∷ [] }
    else still see p

-- the echoes of a report, and where their turns go on
abbrev pub report_echoes : View → Policy → List Echo
report_echoes v p = echoed (is_known v) p.echoed v.echoes

abbrev pub in_next_echoes : View → Policy → Policy
in_next_echoes v p = after_echoing (next_turn (firsts_of (is_known v) p.echoed v.echoes) p.echoed (report_echoes v p)) p

-- It reports a page, and what reports told so far is then this. A report is the session message of its member, with at most 64 of its
-- marks and 32 of its echoes.
abbrev pub reports_page : PageId → Told → List MarkValue → Transition
reports_page page told marks see p =
    let v = see [] in
    let echoes = report_echoes v p in
    record {
      policy = after_report v.now told (members_in v.echoes) (report_bytes marks echoes) (in_next_echoes v p);
      lines = Says (Session v.me v.now page marks echoes) ∷ [];
    }

-- in turn, it reports a page whose telling ends at a source
abbrev pub reports_turn : PageId → ℕ → List MarkValue → Transition
reports_turn page until marks = reports_page page (told_in_turn page until marks) marks

-- the telling of the next page begins
abbrev pub reports_next : Transition
reports_next see p =
    let v = see [] in
    let page = page_after p.told.page (pages_of v.held) in
    let marks = report_of v.held page in
    reports_turn page (until_in marks) (slice_after None marks) see p

-- the rest of the page of the last report in turn, or the next page
abbrev pub reports_rest : List MarkValue → Transition
reports_rest [] see p = reports_next see p
reports_rest (m ∷ marks) see p = reports_turn p.told.page p.told.until (m ∷ marks) see p

abbrev pub reports_in_turn : Transition
reports_in_turn see p = reports_rest (rest_after p.told.until p.told.last (report_of (see []).held p.told.page)) see p

-- what changed last: the slice with the source of the newest drawop, on its page
abbrev pub reports_newest : NameValue → Transition
reports_newest name see p = reports_page name.page (told_newest p.told) (slice_with name.source (report_of (see []).held name.page)) see p

-- the one after the other
abbrev pub reports_either : Option NameValue → Transition
reports_either None = reports_in_turn
reports_either (Some name) = reports_newest name

abbrev pub reports : Transition
reports see p = reports_either (newest_now (see []).held p.told) see p

abbrev pub reports_due : Transition
reports_due see p = if nat_le p.reports.due (see []).now then reports see p else still see p

-- Turns come by the clock, whatever is reported.
abbrev pub turn_by_clock : Transition
turn_by_clock see p = turn see (after_beat (see []).now p)

abbrev pub turns_due : Transition
turns_due see p = if nat_le p.pace.due (see []).now then turn_by_clock see p else still see p

abbrev pub timed : Transition
timed = and_then answers (and_then asks_pages (and_then reports_due turns_due))

-- ---- what comes in

abbrev pub takes : DrawopValue → Transition
takes d see p =
    let v = see [] in
    if holds v d.name || is_full v then performs (Arrives d) see p
    else and_then (performs (Arrives d)) (learned d.name (is_asked v d.name)) see p

-- an echo tells a delay, which is bounded
abbrev pub measures : ℕ → Option ℕ → Transition
measures sender None see p = still see p
measures sender (Some micros) see p = record {
  policy = after_echo micros p;
  lines = if nat_eq (bounded micros) micros then [] else Calls (SetDelay sender (bounded micros)) ∷ [];
}

abbrev pub hears_session : ℕ → ℕ → PageId → List MarkValue → List Echo → Transition
hears_session sender sent page marks echoes see p =
    let v = see [] in
    let own = own_marks v.me (nat_lt v.now p.ready) marks in
    let echo = own_echo v.me echoes in
    and_then (performs (Calls (Hear (Session sender sent page own echo)))) (and_then (measures sender (echoed_delay v.now echo)) (want_told (told_names v.me page marks))) see p

abbrev pub hears_some : ℕ → PageId → List MarkValue → Transition
hears_some sender page [] = still
hears_some sender page (m ∷ marks) = performs (Calls (Hear (PageState sender page (m ∷ marks))))

abbrev pub hears_state : ℕ → PageId → List MarkValue → Transition
hears_state sender page marks see p =
    let v = see [] in
    let own = own_marks v.me (nat_lt v.now p.ready) marks in
    and_then (hears_some sender page own) (want_told (told_names v.me page marks)) see (after_state v.now p)

-- For a name that is held the delay to the asker counts, and for another that to its source.
abbrev pub hears_request : ℕ → NameValue → Transition
hears_request asker name see p =
    let v = see [] in
    let source = if holds v name then asker else name.source in
    record { policy = p; lines = lending source (v.delay source) p.usual (Calls (Hear (Request asker name))) }

abbrev pub takes_question : Transition
takes_question see p =
    let v = see [] in
    if is_to_answer v.now (nat_lt 0 (length v.held)) p.questions
    then still see (after_taking_up v.now p)
    else still see p

-- nothing, for what names this member as its sender
abbrev pub of_other : ℕ → Transition → Transition
of_other sender does see p = if nat_eq sender (see []).me then still see p else does see p

abbrev pub hears : Datagram → Transition
hears (Draw d) = takes d
hears (Session sender sent page marks echoes) = of_other sender (hears_session sender sent page marks echoes)
hears (PageState sender page marks) = of_other sender (hears_state sender page marks)
hears (Request asker name) = of_other asker (hears_request asker name)
hears (AskPages asker) = of_other asker takes_question

-- ---- the lines of a kept host

-- a datagram came
abbrev pub came : ℕ → Datagram → Transition
came now v = and_then (performs (Calls (Tick now))) (and_then (hears v) timed)

-- time goes on
abbrev pub ticks : ℕ → Transition
ticks now = and_then (performs (Calls (Tick now))) timed

-- its user draws; a board that is full then asks for nothing
abbrev pub ends_full : Transition
ends_full see p = if is_full (see []) then end see p else still see p

-- what its user drew pays as what came, if it was asked for
abbrev pub drew : DrawopValue → View → Policy → Policy
drew d v p = if is_asked v d.name then after_drawing p else p

abbrev pub draws : DrawopValue → Transition
draws d see p = performs (Says (Draw d)) see (drew d (see []) p)

-- its next drawing on a page
abbrev pub drawing : View → PageId → ℕ → Op → DrawopValue
drawing v page time op = record { name = name_of page v.me (v.known page + 1); time = drawing_time v.held page time; op = op }

abbrev pub draws_it : PageId → ℕ → Op → Transition
draws_it page time op see p = draws (drawing (see []) page time op) see p

abbrev pub adds : ℕ → PageId → ℕ → Op → Transition
adds now page time op = and_then (performs (Calls (Tick now))) (and_then (draws_it page time op) (and_then ends_full timed))
