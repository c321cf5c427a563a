-- What the parts of a call leave as it was: turns, what is owed, the last report, and when the next report and the next turn are due.
use Rattle.std.proofs.Common.{◌≡◌, ℕ, zero, suc, ◌+◌, ◌/◌, ◌≤◌, Bool, true, false, cond, List, [], ◌∷◌, ◌++◌, ◌∙◌, Option, Some, None, arith, map, refl}
use Rattle.std.specs.Prelude.{◌||◌, ◌%◌, length, max, min, nat_eq, nat_le, nat_lt, take}
use Rattle.wb_names.specs.Values.{DrawopValue, MarkValue, NameValue}
use Rattle.wb_names.specs.declared.echo.Echo.{Echo}
use Rattle.wb_names.specs.declared.name.PageId.{PageId}
use Rattle.wb_codec.specs.declared.datagram.Datagram.{Datagram}
use Rattle.wb_codec.specs.declared.datagram.Datagram.TheVariants.{Draw, Session, Request, AskPages, PageState}
use Rattle.wb_gaps.specs.Answers.{pages_of, report_of}
use Rattle.wb_gaps.specs.Holes.{hole_after}
use Rattle.wb_gaps.specs.declared.holes.Hole.{Hole}
use Rattle.wb_policy.specs.declared.reports.Told.{Told}
use Rattle.wb_member.specs.declared.calls.Call.TheVariants.{Hear}
use Rattle.wb_keeping.specs.Fairness.{AnswersWhatIsHeld}
use Rattle.wb_policy.specs.Choices.{echoed_delay, own_echo, own_marks, told_names}
use Rattle.wb_keeping.specs.Kept.{Arrives, Doing, Line, Says, Transition, and_then, answers, asks_pages, end, hears, hears_session, hears_some, hears_state, is_begun, is_unasked, leap, leap_to, leaps_on, learned, measures, of_other, paid_for, performs, reports, reports_due, reports_either, reports_rest, state_of, still, takes, takes_question, turn, turn_if, turn_to, turns_due, turns_on, turns_past, want, want_near, want_told, hears_request, Calls}
use Rattle.wb_keeping.specs.Performing.{Keeping, after_doing, sees}
use Rattle.wb_policy.specs.Policy.{Policy, after_answer, after_beat, after_leaping, after_question, after_state, after_taking_up, after_turn, after_wanting, in_next_leaps, in_next_round}
use Rattle.wb_keeping.specs.Views.{View, holds, is_asked, is_full}
use Rattle.wb_policy.specs.Leaps.{far_name}
use Rattle.wb_recovery.specs.declared.limits.TheConstants.{MOST_TIMERS}
use Rattle.wb_policy.specs.Questions.{is_due, is_to_answer}
use Rattle.wb_policy.specs.Reports.{newest_now, next_report, rest_after}
use Rattle.wb_policy.specs.Turns.{name_in, nowhere}
use Rattle.wb_policy.specs.Wanting.{passes_on, young_count}
use Rattle.wb_policy.specs.Words.{word_of}
use Rattle.wb_keeping.proofs.Wanted.{is_wanted_here, lines_wanted, near_here, with_room_done}
use Rattle.wb_keeping.proofs.WantedNames.{lines_answer_held}

-- it answers for what it holds alone
pub answers_on : (does : Transition) (k : Keeping) → AnswersWhatIsHeld k.host → AnswersWhatIsHeld (after_doing does k).host
answers_on does k old name = lines_answer_held name (does (sees k.host) k.policy).lines k.host (old name)

-- what a policy told last
abbrev pub told_of : Policy → Told
told_of p = p.told

-- ---- what is due before a report, and a report

-- What a policy has due before it reports leaves its turns, its reports, their moments and what it owes.
pub record Leaves (p q : Policy) : Type 0 where
  pub turns : q.turns ≡ p.turns
  pub owed : q.owed ≡ p.owed
  pub due : q.reports.due ≡ p.reports.due
  pub beat : q.pace.due ≡ p.pace.due
  pub told : told_of q ≡ told_of p

either : (p : Policy) (b : Bool) (x y : Doing) → Leaves p x.policy → Leaves p y.policy → Leaves p (cond b x y).policy
either p true x y l m = l
either p false x y l m = m

pub answers_leave : (see : List Line → View) (p : Policy) → Leaves p (answers see p).policy
answers_leave see p =
    let v = see [] in
    either p (is_due v.now p.questions.answer) (record { policy = after_answer v.now (length (take 64 (pages_of v.held))) p; lines = map (λ (page : PageId). Says (state_of v page)) (take 64 (pages_of v.held)) }) (still see p)
    (record { turns = refl; owed = refl; due = refl; beat = refl; told = refl }) (record { turns = refl; owed = refl; due = refl; beat = refl; told = refl })

pub asks_leave : (see : List Line → View) (p : Policy) → Leaves p (asks_pages see p).policy
asks_leave see p =
    let v = see [] in
    either p (is_due v.now p.questions.ask) (record { policy = after_question v.now p; lines = Says (AskPages v.me) ∷ [] }) (still see p)
    (record { turns = refl; owed = refl; due = refl; beat = refl; told = refl }) (record { turns = refl; owed = refl; due = refl; beat = refl; told = refl })

-- a report leaves turns, their moment and what is owed
pub record LeavesTurns (p q : Policy) : Type 0 where
  pub turns : q.turns ≡ p.turns
  pub owed : q.owed ≡ p.owed
  pub beat : q.pace.due ≡ p.pace.due

rest_leaves : (marks : List MarkValue) (see : List Line → View) (p : Policy) → LeavesTurns p (reports_rest marks see p).policy
rest_leaves [] see p = record { turns = refl; owed = refl; beat = refl }
rest_leaves (m ∷ marks) see p = record { turns = refl; owed = refl; beat = refl }

either_leaves : (name : Option NameValue) (see : List Line → View) (p : Policy) → LeavesTurns p (reports_either name see p).policy
either_leaves None see p = rest_leaves (rest_after p.told.until p.told.last (report_of (see []).held p.told.page)) see p
either_leaves (Some name) see p = record { turns = refl; owed = refl; beat = refl }

pub reports_leave : (see : List Line → View) (p : Policy) → LeavesTurns p (reports_due see p).policy
reports_leave see p = by (nat_le p.reports.due (see []).now) where
  by : (b : Bool) → LeavesTurns p (let d : Doing = cond b (reports see p) (still see p) in d.policy)
  by true = either_leaves (newest_now (see []).held p.told) see p
  by false = record { turns = refl; owed = refl; beat = refl }

-- a report is followed by the next within 96 seconds, and a second later at least
pub next_soon : (now sum word : ℕ) → next_report now (min (max sum 2000000) 64000000) (word % (min (max sum 2000000) 64000000 + 1)) ≤ now + 96000000
next_soon now sum word = by (min (max sum 2000000) 64000000) (omega arith) where
  under : (a b : ℕ) → a % (b + 1) ≤ b
  under a b = omega arith

  by : (mean : ℕ) → mean ≤ 64000000 → next_report now mean (word % (mean + 1)) ≤ now + 96000000
  by mean le = let few = under word mean in omega (arith, le, few)

rest_soon : (marks : List MarkValue) (see : List Line → View) (p : Policy) → (reports_rest marks see p).policy.reports.due ≤ (see []).now + 96000000
rest_soon [] see p = next_soon (see []).now _ (word_of p.words)
rest_soon (m ∷ marks) see p = next_soon (see []).now _ (word_of p.words)

either_soon : (name : Option NameValue) (see : List Line → View) (p : Policy) → (reports_either name see p).policy.reports.due ≤ (see []).now + 96000000
either_soon None see p = rest_soon (rest_after p.told.until p.told.last (report_of (see []).held p.told.page)) see p
either_soon (Some name) see p = next_soon (see []).now _ (word_of p.words)

pub reports_soon : (see : List Line → View) (p : Policy) → (reports see p).policy.reports.due ≤ (see []).now + 96000000
reports_soon see p = either_soon (newest_now (see []).held p.told) see p

pub next_late : (now sum drawn : ℕ) → now + 1000000 ≤ next_report now (min (max sum 2000000) 64000000) drawn
next_late now sum drawn = by (min (max sum 2000000) 64000000) (omega arith) where
  by : (mean : ℕ) → 2000000 ≤ mean → now + 1000000 ≤ now + mean / 2 + drawn
  by mean le = omega (arith, le)

rest_late : (marks : List MarkValue) (see : List Line → View) (p : Policy) → (see []).now + 1000000 ≤ (reports_rest marks see p).policy.reports.due
rest_late [] see p = next_late (see []).now _ _
rest_late (m ∷ marks) see p = next_late (see []).now _ _

either_late : (name : Option NameValue) (see : List Line → View) (p : Policy) → (see []).now + 1000000 ≤ (reports_either name see p).policy.reports.due
either_late None see p = rest_late (rest_after p.told.until p.told.last (report_of (see []).held p.told.page)) see p
either_late (Some name) see p = next_late (see []).now _ _

pub reports_late : (see : List Line → View) (p : Policy) → (see []).now + 1000000 ≤ (reports see p).policy.reports.due
reports_late see p = either_late (newest_now (see []).held p.told) see p

-- ---- what is heard, asked for and turned to tells nothing, and puts neither a report nor a turn off

pub record SameReports (p q : Policy) : Type 0 where
  pub due : q.reports.due ≡ p.reports.due
  pub beat : q.pace.due ≡ p.pace.due
  pub told : told_of q ≡ told_of p

same : (p : Policy) → SameReports p p
same p = record { due = refl; beat = refl; told = refl }

behind : (p q r : Policy) → SameReports p q → SameReports q r → SameReports p r
behind p q r one other = record { due = other.due ∙ one.due; beat = other.beat ∙ one.beat; told = other.told ∙ one.told }

choose : (p : Policy) (b : Bool) (x y : Doing) → SameReports p x.policy → SameReports p y.policy → SameReports p (cond b x y).policy
choose p true x y s t = s
choose p false x y s t = t

abbrev pub TellsNothing : Transition → Type 0
TellsNothing does = (see : List Line → View) (p : Policy) → SameReports p (does see p).policy

both : (first second : Transition) → TellsNothing first → TellsNothing second → TellsNothing (and_then first second)
both first second f s see p =
    let one = first see p in
    let view : List Line → View = λ (lines : List Line). see (one.lines ++ lines) in
    behind p one.policy (second view one.policy).policy (f see p) (s view one.policy)

want_tells : (name : NameValue) (anew : Bool) → TellsNothing (want name anew)
want_tells name anew see p =
    choose p (is_wanted_here name anew see p) (record { policy = after_wanting (see []).now p; lines = lines_wanted name anew see p }) (still see p)
    (record { due = refl; beat = refl; told = refl }) (same p)

told_tells : (names : List NameValue) → TellsNothing (want_told names)
told_tells [] see p = same p
told_tells (name ∷ names) see p = both (want name true) (want_told names) (want_tells name true) (told_tells names) see p

near_tells : (names : List NameValue) → TellsNothing (want_near names)
near_tells [] see p = same p
near_tells (name ∷ names) see p =
    choose p (is_unasked (see []) name) (cond (is_begun (want name false see p)) (and_then (want name false) (want_near names) see p) (still see p)) (want_near names see p)
    (choose p (is_begun (want name false see p)) (and_then (want name false) (want_near names) see p) (still see p)
    (both (want name false) (want_near names) (want_tells name false) (near_tells names) see p) (same p))
    (near_tells names see p)

-- the same from another policy on, which reported nothing
from : (p q r : Policy) → q.reports.due ≡ p.reports.due → q.pace.due ≡ p.pace.due → told_of q ≡ told_of p → SameReports q r → SameReports p r
from p q r due beat told s = behind p q r (record { due = due; beat = beat; told = told }) s

turn_to_tells : (next first : Option Hole) → TellsNothing (turn_to next first)
turn_to_tells (Some h) first see p = from p (after_turn h p) _ refl refl refl (want_tells (name_in p.turns h) true see (after_turn h p))
turn_to_tells None (Some h) see p =
    let q = in_next_round p in
    from p (after_turn h q) _ refl refl refl (want_tells (name_in q.turns h) true see (after_turn h q))
turn_to_tells None None see p = record { due = refl; beat = refl; told = refl }

pub turn_tells : TellsNothing turn
turn_tells see p = turn_to_tells (hole_after (see []).held p.turns.page p.turns.source p.turns.number) (hole_after (see []).held nowhere 0 0) see p

leap_to_tells : (next first : Option Hole) → TellsNothing (leap_to next first)
leap_to_tells (Some h) first see p = from p (after_leaping h p) _ refl refl refl (want_tells (far_name p.leaps h) true see (after_leaping h p))
leap_to_tells None (Some h) see p =
    let q = in_next_leaps p in
    from p (after_leaping h q) _ refl refl refl (want_tells (far_name q.leaps h) true see (after_leaping h q))
leap_to_tells None None see p = record { due = refl; beat = refl; told = refl }

leap_tells : TellsNothing leap
leap_tells see p = leap_to_tells (hole_after (see []).held p.leaps.page p.leaps.source p.leaps.number) (hole_after (see []).held nowhere 0 0) see p

leaps_on_tell : (most : ℕ) → TellsNothing (leaps_on most)
unfolding leaps_on
leaps_on_tell zero see p = same p
leaps_on_tell (suc more) see p =
    choose p (is_begun (leap see p)) (leap see p) (and_then leap (leaps_on more) see p) (leap_tells see p)
    (both leap (leaps_on more) leap_tells (leaps_on_tell more) see p)

turns_on_tell : (most : ℕ) → TellsNothing (turns_on most)
unfolding turns_on
turns_on_tell zero see p = same p
turns_on_tell (suc more) see p =
    choose p (is_begun (turn see p)) (turn see p) (and_then turn (turns_on more) see p) (turn_tells see p)
    (both turn (turns_on more) turn_tells (turns_on_tell more) see p)

turns_past_tell : TellsNothing turns_past
turns_past_tell see p =
    choose p (passes_on (young_count (see []).asked) p.owed (see []).now) (turns_on (MOST_TIMERS + 1) see p) (still see p) (turns_on_tell (MOST_TIMERS + 1) see p) (same p)

-- a turn by the clock puts the next one off, and tells nothing
pub turns_tell : (see : List Line → View) (p : Policy) → ((turns_due see p).policy.reports.due ≡ p.reports.due) × (told_of (turns_due see p).policy ≡ told_of p)
turns_tell see p = by (nat_le p.pace.due (see []).now) where
  q : Policy
  q = after_beat (see []).now p

  by : (b : Bool) → (let d : Doing = cond b (turn see q) (still see p) in (d.policy.reports.due ≡ p.reports.due) × (told_of d.policy ≡ told_of p))
  by true = let t = turn_tells see q in (t.due, t.told)
  by false = (refl, refl)

paid_tells : (was : Bool) (p : Policy) → SameReports p (paid_for was p)
paid_tells true p = record { due = refl; beat = refl; told = refl }
paid_tells false p = same p

turn_if_tells : (was : Bool) → TellsNothing (turn_if was)
turn_if_tells true see p = both (leaps_on 65) turns_past (leaps_on_tell 65) turns_past_tell see p
turn_if_tells false see p = same p

learned_tells : (name : NameValue) (was : Bool) → TellsNothing (learned name was)
learned_tells name was see p =
    let near = near_here name was see p in
    let paid = paid_for was p in
    choose p (is_full (see [])) (end see p) (with_room_done name was see p) (same p)
    (behind p paid _ (paid_tells was p) (both (want_near near) (turn_if was) (near_tells near) (turn_if_tells was) see paid))

takes_tells : (d : DrawopValue) → TellsNothing (takes d)
takes_tells d see p =
    let v = see [] in
    choose p (holds v d.name || is_full v) (performs (Arrives d) see p) (and_then (performs (Arrives d)) (learned d.name (is_asked v d.name)) see p) (same p)
    (both (performs (Arrives d)) (learned d.name (is_asked v d.name)) (λ see p. same p) (learned_tells d.name (is_asked v d.name)) see p)

measures_tells : (sender : ℕ) (delay : Option ℕ) → TellsNothing (measures sender delay)
measures_tells sender None see p = same p
measures_tells sender (Some micros) see p = record { due = refl; beat = refl; told = refl }

session_tells : (sender sent : ℕ) (page : PageId) (marks : List MarkValue) (echoes : List Echo) → TellsNothing (hears_session sender sent page marks echoes)
session_tells sender sent page marks echoes see p =
    let v = see [] in
    let echo = own_echo v.me echoes in
    let first = performs (Calls (Hear (Session sender sent page (own_marks v.me (nat_lt v.now p.ready) marks) echo))) in
    let second = measures sender (echoed_delay v.now echo) in
    let third = want_told (told_names v.me page marks) in
    both first (and_then second third) (λ see p. same p)
    (both second third (measures_tells sender (echoed_delay v.now echo)) (told_tells (told_names v.me page marks))) see p

some_tells : (sender : ℕ) (page : PageId) (marks : List MarkValue) → TellsNothing (hears_some sender page marks)
some_tells sender page [] see p = same p
some_tells sender page (m ∷ marks) see p = same p

state_tells : (sender : ℕ) (page : PageId) (marks : List MarkValue) → TellsNothing (hears_state sender page marks)
state_tells sender page marks see p =
    let v = see [] in
    let own = own_marks v.me (nat_lt v.now p.ready) marks in
    let q = after_state v.now p in
    from p q _ refl refl refl
    (both (hears_some sender page own) (want_told (told_names v.me page marks)) (some_tells sender page own) (told_tells (told_names v.me page marks)) see q)

other_tells : (sender : ℕ) (does : Transition) → TellsNothing does → TellsNothing (of_other sender does)
other_tells sender does tells see p = choose p (nat_eq sender (see []).me) (still see p) (does see p) (same p) (tells see p)

question_tells : TellsNothing takes_question
question_tells see p =
    let v = see [] in
    choose p (is_to_answer v.now (nat_lt 0 (length v.held)) p.questions) (still see (after_taking_up v.now p)) (still see p)
    (record { due = refl; beat = refl; told = refl }) (same p)

pub hears_tells : (v : Datagram) → TellsNothing (hears v)
hears_tells (Draw d) = takes_tells d
hears_tells (Session sender sent page marks echoes) = other_tells sender (hears_session sender sent page marks echoes) (session_tells sender sent page marks echoes)
hears_tells (PageState sender page marks) = other_tells sender (hears_state sender page marks) (state_tells sender page marks)
hears_tells (Request asker name) = other_tells asker (hears_request asker name) (λ see p. same p)
hears_tells (AskPages asker) = other_tells asker takes_question question_tells
