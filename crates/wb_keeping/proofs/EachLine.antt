-- What is so of each kind of line that a policy has its host perform is so of all lines of what it does.
use Rattle.std.proofs.Common.{◌≡◌, ℕ, zero, suc, Bool, true, false, cond, List, [], ◌∷◌, ◌++◌, Option, Some, None, length, map, refl}
use Rattle.std.specs.Prelude.{nat_eq, nat_le, take, ◌||◌, nat_lt}
use Rattle.wb_names.specs.Values.{MarkValue, NameValue, DrawopValue}
use Rattle.wb_names.specs.declared.echo.Echo.{Echo}
use Rattle.wb_names.specs.declared.name.PageId.{PageId}
use Rattle.wb_codec.specs.declared.datagram.Datagram.TheVariants.{Session, AskPages, Draw, Request, PageState}
use Rattle.wb_gaps.specs.Answers.{pages_of, report_of}
use Rattle.wb_gaps.specs.Holes.{hole_after}
use Rattle.wb_gaps.specs.declared.holes.Hole.{Hole}
use Rattle.wb_policy.specs.Delays.{bounded}
use Rattle.wb_recovery.specs.declared.limits.TheConstants.{UNKNOWN_DELAY}
use Rattle.wb_policy.specs.Choices.{echoed_delay, own_echo, own_marks, told_names}
use Rattle.wb_member.specs.declared.calls.Call.TheVariants.{Hear, SetDelay, Ask, Stop}
use Rattle.wb_keeping.specs.Kept.{Doing, Line, Says, Transition, and_then, answers, asks_pages, covers, end, ends_full, is_begun, is_unasked, leap, leap_to, leaps_on, learned, measures, paid_for, reports, reports_due, reports_either, reports_rest, room_lines, state_of, still, stops_one, timed, turn, turn_if, turn_to, turns_due, turns_on, turns_past, want, want_near, want_told, Arrives, hears, hears_session, hears_some, hears_state, of_other, performs, takes, takes_question, lending, hears_request, Calls}
use Rattle.wb_policy.specs.Policy.{Policy, after_answer, after_beat, after_leaping, after_question, after_turn, after_wanting, in_next_leaps, in_next_round, after_state, after_taking_up}
use Rattle.wb_keeping.specs.Views.{View, is_asked, is_full, holds}
use Rattle.wb_policy.specs.Leaps.{far_name}
use Rattle.wb_policy.specs.Questions.{is_due, is_to_answer}
use Rattle.wb_policy.specs.Reports.{newest_now, rest_after}
use Rattle.wb_policy.specs.Turns.{name_in, nowhere}
use Rattle.wb_policy.specs.Wanting.{giving_way, passes_on, young_count}
use Rattle.wb_policy.specs.declared.wanting.AskedName.{AskedName}
use Rattle.wb_keeping.proofs.Wanted.{is_wanted_here, lines_wanted, near_here, with_room_done}
use Rattle.wb_codec.specs.declared.datagram.Datagram.{Datagram}

abbrev pub Each : (Line → Type 0) → List Line → Type 0
Each P [] = Unit {0}
Each P (line ∷ lines) = P line × Each P lines

-- of each line that a transition gives, whatever is seen
abbrev pub DoesEach : (Line → Type 0) → Transition → Type 0
DoesEach P does = (see : List Line → View) (p : Policy) → Each P (does see p).lines

module _ (P : Line → Type 0) where
  pub each_both : (one other : List Line) → Each P one → Each P other → Each P (one ++ other)
  each_both [] other a b = b
  each_both (line ∷ one) other a b = (a.0, each_both one other a.1 b)

  pub then_each : (first second : Transition) → DoesEach P first → DoesEach P second → DoesEach P (and_then first second)
  then_each first second f s see p =
      each_both (first see p).lines _ (f see p) (s (λ (lines : List Line). see ((first see p).lines ++ lines)) (first see p).policy)

  choose : (b : Bool) (x y : Doing) → Each P x.lines → Each P y.lines → Each P (cond b x y).lines
  choose true x y p q = p
  choose false x y p q = q

  -- ---- the lines for a name that is wanted

  pub one_each : ((name : NameValue) → P (Calls (Stop name))) → (o : Option AskedName) → Each P (stops_one o)
  one_each stops None = tt
  one_each stops (Some a) = (stops a.name, tt)

  pub room_each : ((name : NameValue) → P (Calls (Stop name))) → (name : NameValue) (covered : Bool) (v : View) → Each P (room_lines name covered v)
  room_each stops name covered v = by (is_asked v name) where
    by : (a : Bool) → Each P (cond a (Calls (Stop name) ∷ []) (stops_one (giving_way covered v.asked)))
    by true = (stops name, tt)
    by false = one_each stops (giving_way covered v.asked)

  -- a line to which the usual delay is lent
  pub lent_each : (source delay usual : ℕ) (line : Line) → P (Calls (SetDelay source usual)) → P line → P (Calls (SetDelay source UNKNOWN_DELAY))
      → Each P (lending source delay usual line)
  lent_each source delay usual line lends is takes = by (nat_eq delay UNKNOWN_DELAY) where
    by : (b : Bool) → Each P (cond b (Calls (SetDelay source usual) ∷ line ∷ Calls (SetDelay source UNKNOWN_DELAY) ∷ []) (line ∷ []))
    by true = (lends, (is, (takes, tt)))
    by false = (is, tt)

  pub wanted_each : ((name : NameValue) → P (Calls (Stop name))) → (name : NameValue) → P (Calls (Ask name)) → (anew : Bool) (see : List Line → View) (p : Policy)
      → P (Calls (SetDelay name.source p.usual)) → P (Calls (SetDelay name.source UNKNOWN_DELAY)) → Each P (lines_wanted name anew see p)
  wanted_each stops name asks anew see p lends takes =
      let v = see [] in
      each_both (room_lines name (covers v p) v) (lending name.source (v.delay name.source) p.usual (Calls (Ask name))) (room_each stops name (covers v p) v)
      (lent_each name.source (v.delay name.source) p.usual (Calls (Ask name)) lends asks takes)

  -- ---- the pages that it tells

  pub states_each : (v : View) → ((page : PageId) → P (Says (state_of v page))) → (pages : List PageId)
      → Each P (map (λ (page : PageId). Says (state_of v page)) pages)
  states_each v says [] = tt
  states_each v says (page ∷ pages) = (says page, states_each v says pages)

-- ---- transitions

-- of each line but those with which time goes on, something comes in, constants change, or its user draws
pub record OfPolicy (P : Line → Type 0) : Type 0 where
  pub asks : (name : NameValue) → P (Calls (Ask name))
  pub stops : (name : NameValue) → P (Calls (Stop name))
  pub sets : (source micros : ℕ) → P (Calls (SetDelay source micros))
  pub states : (v : View) (page : PageId) → P (Says (state_of v page))
  pub asks_pages : (asker : ℕ) → P (Says (AskPages asker))
  pub reports : (sender sent : ℕ) (page : PageId) (marks : List MarkValue) (echoes : List Echo) → P (Says (Session sender sent page marks echoes))

module _ (P : Line → Type 0) (is : OfPolicy P) where
  pub want_each : (name : NameValue) (anew : Bool) → DoesEach P (want name anew)
  want_each name anew see p =
      choose P (is_wanted_here name anew see p) (record { policy = after_wanting (see []).now p; lines = lines_wanted name anew see p }) (still see p)
      (wanted_each P is.stops name (is.asks name) anew see p (is.sets name.source p.usual) (is.sets name.source UNKNOWN_DELAY)) tt

  pub told_each : (names : List NameValue) → DoesEach P (want_told names)
  told_each [] see p = tt
  told_each (name ∷ names) see p = then_each P (want name true) (want_told names) (want_each name true) (told_each names) see p

  near_each : (names : List NameValue) → DoesEach P (want_near names)
  near_each [] see p = tt
  near_each (name ∷ names) see p =
      choose P (is_unasked (see []) name) (cond (is_begun (want name false see p)) (and_then (want name false) (want_near names) see p) (still see p))
      (want_near names see p)
      (choose P (is_begun (want name false see p)) (and_then (want name false) (want_near names) see p) (still see p)
      (then_each P (want name false) (want_near names) (want_each name false) (near_each names) see p) tt)
      (near_each names see p)

  turn_to_each : (next first : Option Hole) → DoesEach P (turn_to next first)
  turn_to_each (Some hole) first see p = want_each (name_in p.turns hole) true see (after_turn hole p)
  turn_to_each None (Some hole) see p = want_each (name_in (in_next_round p).turns hole) true see (after_turn hole (in_next_round p))
  turn_to_each None None see p = tt

  pub turn_each : DoesEach P turn
  turn_each see p = turn_to_each (hole_after (see []).held p.turns.page p.turns.source p.turns.number) (hole_after (see []).held nowhere 0 0) see p

  stops_each : (asked : List AskedName) → Each P (map (λ (a : AskedName). Calls (Stop a.name)) asked)
  stops_each [] = tt
  stops_each (a ∷ asked) = (is.stops a.name, stops_each asked)

  end_each : DoesEach P end
  end_each see p = stops_each (see []).asked

  pub ends_each : DoesEach P ends_full
  ends_each see p = choose P (is_full (see [])) (end see p) (still see p) (end_each see p) tt

  leap_to_each : (next first : Option Hole) → DoesEach P (leap_to next first)
  leap_to_each (Some hole) first see p = want_each (far_name p.leaps hole) true see (after_leaping hole p)
  leap_to_each None (Some hole) see p = want_each (far_name (in_next_leaps p).leaps hole) true see (after_leaping hole (in_next_leaps p))
  leap_to_each None None see p = tt

  pub leap_each : DoesEach P leap
  leap_each see p = leap_to_each (hole_after (see []).held p.leaps.page p.leaps.source p.leaps.number) (hole_after (see []).held nowhere 0 0) see p

  pub leaps_on_each : (most : ℕ) → DoesEach P (leaps_on most)
  unfolding leaps_on
  leaps_on_each zero see p = tt
  leaps_on_each (suc more) see p =
      choose P (is_begun (leap see p)) (leap see p) (and_then leap (leaps_on more) see p) (leap_each see p)
      (then_each P leap (leaps_on more) leap_each (leaps_on_each more) see p)

  pub turns_on_each : (most : ℕ) → DoesEach P (turns_on most)
  unfolding turns_on
  turns_on_each zero see p = tt
  turns_on_each (suc more) see p =
      choose P (is_begun (turn see p)) (turn see p) (and_then turn (turns_on more) see p) (turn_each see p)
      (then_each P turn (turns_on more) turn_each (turns_on_each more) see p)

  past_each : DoesEach P turns_past
  past_each see p = choose P (passes_on (young_count (see []).asked) p.owed (see []).now) (turns_on 65 see p) (still see p) (turns_on_each 65 see p) tt

  turn_if_each : (was : Bool) → DoesEach P (turn_if was)
  turn_if_each true see p = then_each P (leaps_on 65) turns_past (leaps_on_each 65) past_each see p
  turn_if_each false see p = tt

  pub learned_each : (name : NameValue) (was : Bool) → DoesEach P (learned name was)
  learned_each name was see p =
      let paid = paid_for was p in
      let near = near_here name was see p in
      choose P (is_full (see [])) (end see p) (with_room_done name was see p) (end_each see p)
      (then_each P (want_near near) (turn_if was) (near_each near) (turn_if_each was) see paid)

  pub measures_each : (sender : ℕ) (delay : Option ℕ) → DoesEach P (measures sender delay)
  measures_each sender None see p = tt
  measures_each sender (Some micros) see p = by (nat_eq (bounded micros) micros) where
    by : (b : Bool) → Each P (cond b [] (Calls (SetDelay sender (bounded micros)) ∷ []))
    by true = tt
    by false = (is.sets sender (bounded micros), tt)

  -- ---- what is due

  pub answers_each : DoesEach P answers
  answers_each see p =
      let v = see [] in
      let pages = take 64 (pages_of v.held) in
      choose P (is_due v.now p.questions.answer) (record { policy = after_answer v.now (length (take 64 (pages_of v.held))) p; lines = map (λ (page : PageId). Says (state_of v page)) pages })
      (still see p) (states_each P v (is.states v) pages) tt

  pub asks_pages_each : DoesEach P asks_pages
  asks_pages_each see p =
      let v = see [] in
      choose P (is_due v.now p.questions.ask) (record { policy = after_question v.now p; lines = Says (AskPages v.me) ∷ [] }) (still see p)
      (is.asks_pages v.me, tt) tt

  rest_each : (marks : List MarkValue) → DoesEach P (reports_rest marks)
  rest_each [] see p = (is.reports _ _ _ _ _, tt)
  rest_each (m ∷ marks) see p = (is.reports _ _ _ _ _, tt)

  either_each : (name : Option NameValue) → DoesEach P (reports_either name)
  either_each None see p = rest_each (rest_after p.told.until p.told.last (report_of (see []).held p.told.page)) see p
  either_each (Some name) see p = (is.reports _ _ _ _ _, tt)

  pub reports_each : DoesEach P reports
  reports_each see p = either_each (newest_now (see []).held p.told) see p

  pub due_each : DoesEach P reports_due
  due_each see p =
      choose P (nat_le p.reports.due (see []).now) (reports see p) (still see p) (reports_each see p) tt

  pub turns_each : DoesEach P turns_due
  turns_each see p =
      let after = after_beat (see []).now p in
      choose P (nat_le p.pace.due (see []).now) (turn see after) (still see p) (turn_each see after) tt

  pub timed_each : DoesEach P timed
  timed_each =
      then_each P answers (and_then asks_pages (and_then reports_due turns_due)) answers_each
      (then_each P asks_pages (and_then reports_due turns_due) asks_pages_each (then_each P reports_due turns_due due_each turns_each))

-- ---- what comes in

module _ (P : Line → Type 0) (is : OfPolicy P) (heard : (v : Datagram) → P (Calls (Hear v))) where
  takes_each : (d : DrawopValue) → P (Arrives d) → DoesEach P (takes d)
  takes_each d arrives see p =
      let v = see [] in
      let learns = learned d.name (is_asked v d.name) in
      choose P (holds v d.name || is_full v) (performs (Arrives d) see p) (and_then (performs (Arrives d)) learns see p) (arrives, tt)
      (then_each P (performs (Arrives d)) learns (λ see p. (arrives, tt)) (learned_each P is d.name (is_asked v d.name)) see p)

  session_each : (sender sent : ℕ) (page : PageId) (marks : List MarkValue) (echoes : List Echo) → DoesEach P (hears_session sender sent page marks echoes)
  session_each sender sent page marks echoes see p =
      let v = see [] in
      let echo = own_echo v.me echoes in
      let hearing = Session sender sent page (own_marks v.me (nat_lt v.now p.ready) marks) echo in
      let second = measures sender (echoed_delay v.now echo) in
      let third = want_told (told_names v.me page marks) in
      then_each P (performs (Calls (Hear hearing))) (and_then second third) (λ see p. (heard hearing, tt))
      (then_each P second third (measures_each P is sender (echoed_delay v.now echo)) (told_each P is (told_names v.me page marks))) see p

  some_each : (sender : ℕ) (page : PageId) (marks : List MarkValue) → DoesEach P (hears_some sender page marks)
  some_each sender page [] see p = tt
  some_each sender page (m ∷ marks) see p = (heard (PageState sender page (m ∷ marks)), tt)

  state_each : (sender : ℕ) (page : PageId) (marks : List MarkValue) → DoesEach P (hears_state sender page marks)
  state_each sender page marks see p =
      let v = see [] in
      let own = own_marks v.me (nat_lt v.now p.ready) marks in
      let names = told_names v.me page marks in
      then_each P (hears_some sender page own) (want_told names) (some_each sender page own) (told_each P is names) see (after_state v.now p)

  request_each : (asker : ℕ) (name : NameValue) → DoesEach P (hears_request asker name)
  request_each asker name see p =
      let v = see [] in
      let source = cond (holds v name) asker name.source in
      lent_each P source (v.delay source) p.usual (Calls (Hear (Request asker name))) (is.sets source p.usual) (heard (Request asker name)) (is.sets source UNKNOWN_DELAY)

  question_each : DoesEach P takes_question
  question_each see p =
      let v = see [] in
      choose P (is_to_answer v.now (nat_lt 0 (length v.held)) p.questions) (still see (after_taking_up v.now p)) (still see p) tt tt

  other_each : (sender : ℕ) (does : Transition) → DoesEach P does → DoesEach P (of_other sender does)
  other_each sender does each see p = choose P (nat_eq sender (see []).me) (still see p) (does see p) tt (each see p)

  pub hears_each : (v : Datagram) → ((d : DrawopValue) → v ≡ Draw d → P (Arrives d)) → DoesEach P (hears v)
  hears_each (Draw d) arrives = takes_each d (arrives d refl)
  hears_each (Session sender sent page marks echoes) arrives =
      other_each sender (hears_session sender sent page marks echoes) (session_each sender sent page marks echoes)
  hears_each (PageState sender page marks) arrives = other_each sender (hears_state sender page marks) (state_each sender page marks)
  hears_each (Request asker name) arrives =
      other_each asker (hears_request asker name) (request_each asker name)
  hears_each (AskPages asker) arrives = other_each asker takes_question question_each
