-- What is so of each step of a policy is so of all that a kept host does.
use Rattle.std.proofs.Common.{◌≡◌, ℕ, zero, suc, ◌≤◌, Bool, true, false, cond, List, [], ◌∷◌, ◌++◌, inl, inr, length, map, refl, sym, subst}
use Rattle.std.specs.Prelude.{◌⊎◌, Option, Some, None, ◌||◌, nat_eq, nat_le, nat_lt, take}
use Rattle.std.proofs.lemmas.Bool.{leb-true}
use Rattle.wb_names.specs.Values.{DrawopValue, MarkValue, NameValue}
use Rattle.wb_names.specs.declared.echo.Echo.{Echo}
use Rattle.wb_names.specs.declared.name.PageId.{PageId}
use Rattle.wb_names.proofs.Faults.{first_none, unless_true}
use Rattle.wb_codec.specs.declared.datagram.Datagram.{Datagram}
use Rattle.wb_codec.specs.declared.datagram.Datagram.TheVariants.{Draw, Session, Request, AskPages, PageState}
use Rattle.wb_gaps.specs.Answers.{pages_of, report_of}
use Rattle.wb_gaps.specs.Holes.{hole_after}
use Rattle.wb_gaps.specs.declared.holes.Hole.{Hole}
use Rattle.wb_member.specs.Opened.{Opened, present}
use Rattle.wb_member.specs.declared.calls.Call.TheVariants.{Tick, Hear, SetDelay, Tune, Stop}
use Rattle.wb_policy.specs.Delays.{bounded}
use Rattle.wb_recovery.specs.declared.limits.TheConstants.{UNKNOWN_DELAY}
use Rattle.wb_recovery.specs.Timing.{are_constants}
use Rattle.wb_recovery.specs.declared.tuning.Tuning.{Tuning}
use Rattle.wb_policy.specs.Choices.{echoed_delay, last_source, own_echo, own_marks, told_names, until_in}
use Rattle.wb_keeping.specs.Kept.{Arrives, Doing, Line, Says, Transition, and_then, answers, asks_pages, draws, draws_it, drawing, end, ends_full, hears, hears_session, hears_some, hears_state, is_begun, is_unasked, leap, leap_to, leaps_on, learned, measures, performs, reports, reports_due, reports_either, reports_page, reports_rest, reports_turn, state_of, still, takes, takes_question, timed, turn, turn_if, turn_to, turns_due, turns_on, turns_past, want, want_near, want_told, hears_request, Calls}
use Rattle.wb_keeping.specs.Laws.{Added, AreTaken, Came, KeptLine, Ticked, Tuned, after_kept, doing_of, expand, fault_of}
use Rattle.wb_keeping.specs.Performing.{Keeping, after_doing, after_line, after_lines, sees, view_of}
use Rattle.wb_policy.specs.Policy.{Policy, after_answer, after_beat, after_came, after_drawing, after_leaping, after_question, after_state, after_taking_up, after_turn, in_next_leaps, in_next_round, after_echo}
use Rattle.wb_keeping.specs.Views.{View, holds, is_asked, is_full}
use Rattle.wb_policy.specs.Leaps.{far_name}
use Rattle.wb_policy.specs.Questions.{is_due, is_to_answer}
use Rattle.wb_policy.specs.Reports.{from_source, is_telling, is_untold, newest_now, page_after, rest_after, slice_after, told_in_turn, told_newest}
use Rattle.wb_policy.specs.Turns.{name_in, nowhere}
use Rattle.wb_policy.specs.Wanting.{passes_on, young_count}
use Rattle.wb_policy.specs.declared.leaps.Leaps.{Leaps}
use Rattle.wb_policy.specs.declared.reports.Told.{Told}
use Rattle.wb_policy.specs.declared.turns.Turns.{Turns}
use Rattle.wb_policy.specs.declared.wanting.AskedName.{AskedName}
use Rattle.wb_keeping.proofs.Performed.{after_both, seen_then}
use Rattle.wb_keeping.proofs.Wanted.{near_here, with_room_done}

-- a host with another policy; one that performed a line
abbrev pub with_policy : Policy → Keeping → Keeping
with_policy p k = record { host = k.host; policy = p }

abbrev pub having : Line → Keeping → Keeping
having line k = record { host = after_line line k.host; policy = k.policy }

-- a host that did what a policy said
abbrev pub having_done : Doing → Keeping → Keeping
having_done d k = record { host = after_lines d.lines k.host; policy = d.policy }

abbrev pub doing : Policy → List Line → Doing
doing p lines = record { policy = p; lines = lines }

-- A relation of a host, of lines that it performs, and of what it is afterwards. It holds of each step that is due or has its turn,
-- and of steps one after the other.
pub record HoldsOfDue (R : Keeping → List Line → Keeping → Type 0) : Type 0 where
  pub nothing : (k : Keeping) → R k [] k
  pub both : (k m n : Keeping) (one other : List Line) → R k one m → R m other n → R k (one ++ other) n
  pub wants : (name : NameValue) (anew : Bool) (k : Keeping) → R k (want name anew (sees k.host) k.policy).lines (after_doing (want name anew) k)
  pub turned : (t : Turns) (l : Leaps) (k : Keeping) → R k [] (with_policy (record k.policy { turns = t; leaps = l }) k)
  pub beats : (k : Keeping) → nat_le k.policy.pace.due (present k.host) ≡ true → R k [] (with_policy (after_beat (present k.host) k.policy) k)
  pub answers : (k : Keeping) → is_due (present k.host) k.policy.questions.answer ≡ true
      → R k (map (λ page. Says (state_of (view_of k.host) page)) (take 64 (pages_of k.host.is.held))) (having_done (doing (after_answer (present k.host) (length (take 64 (pages_of k.host.is.held))) k.policy) (map (λ page. Says (state_of (view_of k.host) page)) (take 64 (pages_of k.host.is.held)))) k)
  pub asks_pages : (k : Keeping) → is_due (present k.host) k.policy.questions.ask ≡ true → R k (Says (AskPages k.host.is.number) ∷ []) (with_policy (after_question (present k.host) k.policy) k)
  pub reports : (page : PageId) (then : Told) (told : Option ℕ) (k : Keeping) → nat_le k.policy.reports.due (present k.host) ≡ true
      → R k (reports_page page then (slice_after told (report_of k.host.is.held page)) (sees k.host) k.policy).lines (after_doing (reports_page page then (slice_after told (report_of k.host.is.held page))) k)

-- a drawop that comes pays nothing: it was not asked for, or is held, or the board is full, perhaps since it came
abbrev pub PaysNothing : DrawopValue → Keeping → Type 0
PaysNothing d k = (is_asked (view_of k.host) d.name ≡ false) ⊎ ((holds (view_of k.host) d.name ≡ true) ⊎ ((is_full (view_of k.host) ≡ true) ⊎ (is_full (view_of (having (Arrives d) k).host) ≡ true)))

-- It holds of each step of a policy.
pub record HoldsOfSteps (R : Keeping → List Line → Keeping → Type 0) : Type 0 where
  pub due : HoldsOfDue R
  pub ticks : (now : ℕ) (k : Keeping) → present k.host ≤ now → R k (Calls (Tick now) ∷ []) (having (Calls (Tick now)) k)
  pub arrives : (d : DrawopValue) (k : Keeping) → PaysNothing d k → R k (Arrives d ∷ []) (having (Arrives d) k)
  pub answered : (d : DrawopValue) (k : Keeping) → holds (view_of k.host) d.name ≡ false → is_asked (view_of k.host) d.name ≡ true → R k (Arrives d ∷ []) (with_policy (after_came k.policy) (having (Arrives d) k))
  pub hears : (v : Datagram) (k : Keeping) → R k (Calls (Hear v) ∷ []) (having (Calls (Hear v)) k)
  -- outside of `wants` only a full board gives names up
  pub stops : (name : NameValue) (k : Keeping) → is_full (view_of k.host) ≡ true → R k (Calls (Stop name) ∷ []) (having (Calls (Stop name)) k)
  pub sets : (source micros : ℕ) (k : Keeping) → R k (Calls (SetDelay source (bounded micros)) ∷ []) (having (Calls (SetDelay source (bounded micros))) k)
  pub lends : (source : ℕ) (k : Keeping) → R k (Calls (SetDelay source k.policy.usual) ∷ []) (having (Calls (SetDelay source k.policy.usual)) k)
  pub takes_back : (source : ℕ) (k : Keeping) → R k (Calls (SetDelay source UNKNOWN_DELAY) ∷ []) (having (Calls (SetDelay source UNKNOWN_DELAY)) k)
  pub tunes : (constants : Tuning) (k : Keeping) → are_constants constants ≡ true → R k (Calls (Tune constants) ∷ []) (having (Calls (Tune constants)) k)
  pub draws : (d : DrawopValue) (k : Keeping) → is_asked (view_of k.host) d.name ≡ false → R k (Says (Draw d) ∷ []) (having (Says (Draw d)) k)
  pub drawn : (d : DrawopValue) (k : Keeping) → is_asked (view_of k.host) d.name ≡ true → R k (Says (Draw d) ∷ []) (with_policy (after_drawing k.policy) (having (Says (Draw d)) k))
  pub measured : (micros : ℕ) (k : Keeping) → R k [] (with_policy (after_echo micros k.policy) k)
  pub told : (k : Keeping) → R k [] (with_policy (after_state (present k.host) k.policy) k)
  pub takes_up : (k : Keeping) → is_to_answer (present k.host) (nat_lt 0 (length k.host.is.held)) k.policy.questions ≡ true → R k [] (with_policy (after_taking_up (present k.host) k.policy) k)

-- The same, where a session message of another is one step with the delay that it tells.
pub record HoldsOfParts (R : Keeping → List Line → Keeping → Type 0) : Type 0 where
  pub due : HoldsOfDue R
  pub ticks : (now : ℕ) (k : Keeping) → present k.host ≤ now → R k (Calls (Tick now) ∷ []) (having (Calls (Tick now)) k)
  pub arrives : (d : DrawopValue) (k : Keeping) → PaysNothing d k → R k (Arrives d ∷ []) (having (Arrives d) k)
  pub answered : (d : DrawopValue) (k : Keeping) → holds (view_of k.host) d.name ≡ false → is_asked (view_of k.host) d.name ≡ true → R k (Arrives d ∷ []) (with_policy (after_came k.policy) (having (Arrives d) k))
  pub hears_request : (asker : ℕ) (name : NameValue) (k : Keeping) → R k (Calls (Hear (Request asker name)) ∷ []) (having (Calls (Hear (Request asker name))) k)
  pub lends : (source : ℕ) (k : Keeping) → R k (Calls (SetDelay source k.policy.usual) ∷ []) (having (Calls (SetDelay source k.policy.usual)) k)
  pub takes_back : (source : ℕ) (k : Keeping) → R k (Calls (SetDelay source UNKNOWN_DELAY) ∷ []) (having (Calls (SetDelay source UNKNOWN_DELAY)) k)
  pub hears_marks : (sender : ℕ) (page : PageId) (marks : List MarkValue) (k : Keeping) → R k (Calls (Hear (PageState sender page marks)) ∷ []) (having (Calls (Hear (PageState sender page marks))) k)
  pub hears_delay : (sender sent : ℕ) (page : PageId) (marks : List MarkValue) (echoes : List Echo) (k : Keeping) → nat_eq sender k.host.is.number ≡ false
      → let echo = own_echo k.host.is.number echoes in
      let m = having (Calls (Hear (Session sender sent page marks echo))) k in
      let d = measures sender (echoed_delay (present k.host) echo) (sees m.host) k.policy in
      R k (Calls (Hear (Session sender sent page marks echo)) ∷ d.lines) (having_done d m)
  pub stops : (name : NameValue) (k : Keeping) → is_full (view_of k.host) ≡ true → R k (Calls (Stop name) ∷ []) (having (Calls (Stop name)) k)
  pub tunes : (constants : Tuning) (k : Keeping) → are_constants constants ≡ true → R k (Calls (Tune constants) ∷ []) (having (Calls (Tune constants)) k)
  pub draws : (d : DrawopValue) (k : Keeping) → is_asked (view_of k.host) d.name ≡ false → R k (Says (Draw d) ∷ []) (having (Says (Draw d)) k)
  pub drawn : (d : DrawopValue) (k : Keeping) → is_asked (view_of k.host) d.name ≡ true → R k (Says (Draw d) ∷ []) (with_policy (after_drawing k.policy) (having (Says (Draw d)) k))
  pub told : (k : Keeping) → R k [] (with_policy (after_state (present k.host) k.policy) k)
  pub takes_up : (k : Keeping) → is_to_answer (present k.host) (nat_lt 0 (length k.host.is.held)) k.policy.questions ≡ true → R k [] (with_policy (after_taking_up (present k.host) k.policy) k)

-- what is so of each step is so of these
module _ (R : Keeping → List Line → Keeping → Type 0) (is : HoldsOfSteps R) where
  measured_holds : (sender : ℕ) (delay : Option ℕ) (k : Keeping) → let d = measures sender delay (sees k.host) k.policy in R k d.lines (having_done d k)
  measured_holds sender None k = is.due.nothing k
  measured_holds sender (Some micros) k = by (nat_eq (bounded micros) micros) where
    p : Policy
    p = after_echo micros k.policy

    by : (b : Bool) → let d = doing p (cond b [] (Calls (SetDelay sender (bounded micros)) ∷ [])) in R k d.lines (having_done d k)
    by true = is.measured micros k
    by false = is.due.both k (with_policy p k) (having_done (doing p (Calls (SetDelay sender (bounded micros)) ∷ [])) k) [] (Calls (SetDelay sender (bounded micros)) ∷ []) (is.measured micros k) (is.sets sender micros (with_policy p k))

  parts_hold : HoldsOfParts R
  parts_hold = record {
    due = is.due;
    ticks = is.ticks;
    arrives = is.arrives;
    answered = is.answered;
    hears_request = λ asker name k. is.hears (Request asker name) k;
    lends = is.lends;
    takes_back = is.takes_back;
    hears_marks = λ sender page marks k. is.hears (PageState sender page marks) k;
    hears_delay = λ sender sent page marks echoes k other.
        let echo = own_echo k.host.is.number echoes in
        let v = Session sender sent page marks echo in
        let m = having (Calls (Hear v)) k in
        let d = measures sender (echoed_delay (present k.host) echo) (sees m.host) k.policy in
        is.due.both k m (having_done d m) (Calls (Hear v) ∷ []) d.lines (is.hears v k) (measured_holds sender (echoed_delay (present k.host) echo) m);
    stops = is.stops;
    tunes = is.tunes;
    draws = is.draws;
    drawn = is.drawn;
    told = is.told;
    takes_up = is.takes_up;
  }

pub either : (P : Doing → Type 0) (b : Bool) (one other : Doing) → (b ≡ true → P one) → (b ≡ false → P other) → P (cond b one other)
either P true one other first second = first refl
either P false one other first second = second refl

module _ (R : Keeping → List Line → Keeping → Type 0) where
  -- it holds of what a policy says that its host does, from a host on
  abbrev pub HoldsOf : Keeping → Doing → Type 0
  HoldsOf k d = R k d.lines (having_done d k)

  abbrev pub HoldsAt : Transition → Keeping → Type 0
  HoldsAt does k = HoldsOf k (does (sees k.host) k.policy)

  abbrev pub Holds : Transition → Type 0
  Holds does = (k : Keeping) → HoldsAt does k

module _ (R : Keeping → List Line → Keeping → Type 0) (is : HoldsOfDue R) where
  still_holds : Holds R still
  still_holds k = is.nothing k

  -- one after the other
  behind : (k : Keeping) (d e : Doing) → HoldsOf R k d → HoldsOf R (having_done d k) e → HoldsOf R k (doing e.policy (d.lines ++ e.lines))
  behind k d e one other =
      let joined = is.both k (having_done d k) (having_done e (having_done d k)) d.lines e.lines one other in
      subst (λ (h : Opened). R k (d.lines ++ e.lines) (record { host = h; policy = e.policy })) (sym (after_both d.lines e.lines k.host)) joined

  then_at : (first second : Transition) (k : Keeping) → HoldsAt R first k → HoldsAt R second (after_doing first k) → HoldsAt R (and_then first second) k
  then_at first second k one other =
      let d = first (sees k.host) k.policy in
      subst (λ (see : List Line → View). HoldsOf R k (doing (second see d.policy).policy (d.lines ++ (second see d.policy).lines))) (sym (seen_then d.lines k.host))
      (behind k d (second (sees (having_done d k).host) d.policy) one other)

  then_holds : (first second : Transition) → Holds R first → Holds R second → Holds R (and_then first second)
  then_holds first second one other k = then_at first second k (one k) (other (after_doing first k))

  -- the same from another policy on, to which a step leads
  from_policy : (p : Policy) (k : Keeping) (d : Doing) → R k [] (with_policy p k) → HoldsOf R (with_policy p k) d → HoldsOf R k d
  from_policy p k d step it = is.both k (with_policy p k) (having_done d k) [] d.lines step it

  -- ---- what is wanted

  pub told_holds : (names : List NameValue) → Holds R (want_told names)
  told_holds [] = still_holds
  told_holds (name ∷ names) = then_holds (want name true) (want_told names) (is.wants name true) (told_holds names)

  near_holds : (names : List NameValue) → Holds R (want_near names)
  near_holds [] k = is.nothing k
  near_holds (name ∷ names) k =
      let see = sees k.host in
      let p = k.policy in
      either (HoldsOf R k) (is_unasked (see []) name) (cond (is_begun (want name false see p)) (and_then (want name false) (want_near names) see p) (still see p)) (want_near names see p)
      (λ unasked. either (HoldsOf R k) (is_begun (want name false see p)) (and_then (want name false) (want_near names) see p) (still see p)
      (λ begun. then_holds (want name false) (want_near names) (is.wants name false) (near_holds names) k) (λ not_begun. is.nothing k))
      (λ asked. near_holds names k)

  turn_to_holds : (next first : Option Hole) → Holds R (turn_to next first)
  turn_to_holds (Some h) first k =
      let p = after_turn h k.policy in
      from_policy p k (want (name_in k.policy.turns h) true (sees k.host) p) (is.turned p.turns p.leaps k) (is.wants (name_in k.policy.turns h) true (with_policy p k))
  turn_to_holds None (Some h) k =
      let q = in_next_round k.policy in
      let p = after_turn h q in
      from_policy p k (want (name_in q.turns h) true (sees k.host) p) (is.turned p.turns p.leaps k) (is.wants (name_in q.turns h) true (with_policy p k))
  turn_to_holds None None k = is.turned (in_next_round k.policy).turns k.policy.leaps k

  pub turn_holds : Holds R turn
  turn_holds k = turn_to_holds (hole_after k.host.is.held k.policy.turns.page k.policy.turns.source k.policy.turns.number) (hole_after k.host.is.held nowhere 0 0) k

  leap_to_holds : (next first : Option Hole) → Holds R (leap_to next first)
  leap_to_holds (Some h) first k =
      let p = after_leaping h k.policy in
      from_policy p k (want (far_name k.policy.leaps h) true (sees k.host) p) (is.turned p.turns p.leaps k) (is.wants (far_name k.policy.leaps h) true (with_policy p k))
  leap_to_holds None (Some h) k =
      let q = in_next_leaps k.policy in
      let p = after_leaping h q in
      from_policy p k (want (far_name q.leaps h) true (sees k.host) p) (is.turned p.turns p.leaps k) (is.wants (far_name q.leaps h) true (with_policy p k))
  leap_to_holds None None k = is.turned k.policy.turns (in_next_leaps k.policy).leaps k

  pub leap_holds : Holds R leap
  leap_holds k = leap_to_holds (hole_after k.host.is.held k.policy.leaps.page k.policy.leaps.source k.policy.leaps.number) (hole_after k.host.is.held nowhere 0 0) k

  pub leaps_on_hold : (most : ℕ) → Holds R (leaps_on most)
  unfolding leaps_on
  leaps_on_hold zero k = is.nothing k
  leaps_on_hold (suc more) k =
      either (HoldsOf R k) (is_begun (leap (sees k.host) k.policy)) (leap (sees k.host) k.policy) (and_then leap (leaps_on more) (sees k.host) k.policy)
      (λ begun. leap_holds k) (λ not_begun. then_holds leap (leaps_on more) leap_holds (leaps_on_hold more) k)

  pub turns_on_hold : (most : ℕ) → Holds R (turns_on most)
  unfolding turns_on
  turns_on_hold zero k = is.nothing k
  turns_on_hold (suc more) k =
      either (HoldsOf R k) (is_begun (turn (sees k.host) k.policy)) (turn (sees k.host) k.policy) (and_then turn (turns_on more) (sees k.host) k.policy)
      (λ begun. turn_holds k) (λ not_begun. then_holds turn (turns_on more) turn_holds (turns_on_hold more) k)

  pub turns_past_hold : Holds R turns_past
  turns_past_hold k =
      either (HoldsOf R k) (passes_on (young_count (view_of k.host).asked) k.policy.owed (present k.host)) (turns_on 65 (sees k.host) k.policy) (still (sees k.host) k.policy) (λ paid. turns_on_hold 65 k) (λ unpaid. is.nothing k)

  -- ---- what is due

  answers_hold : Holds R answers
  answers_hold k =
      let lines = map (λ page. Says (state_of (view_of k.host) page)) (take 64 (pages_of k.host.is.held)) in
      either (HoldsOf R k) (is_due (present k.host) k.policy.questions.answer) (doing (after_answer (present k.host) (length (take 64 (pages_of k.host.is.held))) k.policy) lines) (still (sees k.host) k.policy) (is.answers k) (λ later. is.nothing k)

  asks_pages_hold : Holds R asks_pages
  asks_pages_hold k =
      either (HoldsOf R k) (is_due (present k.host) k.policy.questions.ask) (doing (after_question (present k.host) k.policy) (Says (AskPages k.host.is.number) ∷ [])) (still (sees k.host) k.policy) (is.asks_pages k) (λ later. is.nothing k)

  rest_holds : (k : Keeping) → nat_le k.policy.reports.due (present k.host) ≡ true → (marks : List MarkValue) → marks ≡ rest_after k.policy.told.until k.policy.told.last (report_of k.host.is.held k.policy.told.page) → HoldsAt R (reports_rest marks) k
  rest_holds k due [] e =
      let page = page_after k.policy.told.page (pages_of k.host.is.held) in
      let marks = report_of k.host.is.held page in
      is.reports page (told_in_turn page (until_in marks) (slice_after None marks)) None k due
  rest_holds k due (m ∷ marks) e = by (is_telling t.until t.last) e where
    t : Told
    t = k.policy.told

    slice : List MarkValue
    slice = slice_after t.last (report_of k.host.is.held t.page)

    by : (b : Bool) → m ∷ marks ≡ cond b slice [] → HoldsAt R (reports_turn t.page t.until (m ∷ marks)) k
    by true e = subst (λ (marks : List MarkValue). HoldsAt R (reports_turn t.page t.until marks) k) (sym e) (is.reports t.page (told_in_turn t.page t.until slice) t.last k due)
    by false e = absurd cc

  either_holds : (k : Keeping) → nat_le k.policy.reports.due (present k.host) ≡ true → (name : Option NameValue) → HoldsAt R (reports_either name) k
  either_holds k due None = rest_holds k due (rest_after k.policy.told.until k.policy.told.last (report_of k.host.is.held k.policy.told.page)) refl
  either_holds k due (Some name) =
      let marks = report_of k.host.is.held name.page in
      is.reports name.page (told_newest k.policy.told) (cond (is_untold (last_source None (slice_after None marks)) name.source) (from_source name.source) None) k due

  reports_due_hold : Holds R reports_due
  reports_due_hold k =
      either (HoldsOf R k) (nat_le k.policy.reports.due (present k.host)) (reports (sees k.host) k.policy) (still (sees k.host) k.policy)
      (λ due. either_holds k due (newest_now k.host.is.held k.policy.told)) (λ later. is.nothing k)

  turns_due_hold : Holds R turns_due
  turns_due_hold k =
      let p = after_beat (present k.host) k.policy in
      either (HoldsOf R k) (nat_le k.policy.pace.due (present k.host)) (turn (sees k.host) p) (still (sees k.host) k.policy)
      (λ due. from_policy p k (turn (sees k.host) p) (is.beats k due) (turn_holds (with_policy p k))) (λ later. is.nothing k)

  pub timed_holds : Holds R timed
  timed_holds =
      then_holds answers (and_then asks_pages (and_then reports_due turns_due)) answers_hold
      (then_holds asks_pages (and_then reports_due turns_due) asks_pages_hold (then_holds reports_due turns_due reports_due_hold turns_due_hold))

module _ (R : Keeping → List Line → Keeping → Type 0) (is : HoldsOfParts R) where
  stops_hold : (asked : List AskedName) (k : Keeping) → is_full (view_of k.host) ≡ true → HoldsOf R k (doing k.policy (map (λ (a : AskedName). Calls (Stop a.name)) asked))
  stops_hold [] k full = is.due.nothing k
  stops_hold (a ∷ asked) k full = is.due.both k (having (Calls (Stop a.name)) k) (having_done (doing k.policy (map (λ (a : AskedName). Calls (Stop a.name)) (a ∷ asked))) k) (Calls (Stop a.name) ∷ []) (map (λ (a : AskedName). Calls (Stop a.name)) asked) (is.stops a.name k full) (stops_hold asked (having (Calls (Stop a.name)) k) full)

  end_holds : (k : Keeping) → is_full (view_of k.host) ≡ true → HoldsAt R end k
  end_holds k full = stops_hold (view_of k.host).asked k full

  -- a drawop came that was asked for, which pays; one came that was not
  asked_holds : (name : NameValue) (k : Keeping) → HoldsOf R (with_policy (after_came k.policy) k) (with_room_done name true (sees k.host) k.policy)
  asked_holds name k =
      let see = sees k.host in
      let paid = with_policy (after_came k.policy) k in
      let near = near_here name true see k.policy in
      then_holds R is.due (want_near near) (turn_if true) (near_holds R is.due near) (then_holds R is.due (leaps_on 65) turns_past (leaps_on_hold R is.due 65) (turns_past_hold R is.due)) paid

  unasked_holds : (name : NameValue) (k : Keeping) → HoldsOf R k (with_room_done name false (sees k.host) k.policy)
  unasked_holds name k =
      let see = sees k.host in
      let near = near_here name false see k.policy in
      then_holds R is.due (want_near near) (turn_if false) (near_holds R is.due near) is.due.nothing k

  ends_hold : Holds R ends_full
  ends_hold k = either (HoldsOf R k) (is_full (view_of k.host)) (end (sees k.host) k.policy) (still (sees k.host) k.policy) (λ full. end_holds k full) (λ room. is.due.nothing k)

  -- ---- what comes in

  -- a drawop that is new
  came_in : (d : DrawopValue) (k : Keeping) (was : Bool) → is_asked (view_of k.host) d.name ≡ was → holds (view_of k.host) d.name ≡ false → HoldsAt R (and_then (performs (Arrives d)) (learned d.name was)) k
  came_in d k was asked lacks =
      let m = having (Arrives d) k in
      let see = sees m.host in
      either (λ (e : Doing). HoldsOf R k (doing e.policy (Arrives d ∷ e.lines))) (is_full (view_of m.host)) (end see m.policy) (with_room_done d.name was see m.policy)
      (λ full. is.due.both k m (having_done (end see m.policy) m) (Arrives d ∷ []) (end see m.policy).lines (is.arrives d k (inr (inr (inr full)))) (end_holds m full))
      (λ room. by was asked) where
        room_left : Bool → Doing
        room_left b = with_room_done d.name b (sees (having (Arrives d) k).host) k.policy

        by : (b : Bool) → is_asked (view_of k.host) d.name ≡ b → HoldsOf R k (doing (room_left b).policy (Arrives d ∷ (room_left b).lines))
        by true e =
            let m = having (Arrives d) k in
            is.due.both k (with_policy (after_came k.policy) m) (having_done (room_left true) m) (Arrives d ∷ []) (room_left true).lines (is.answered d k lacks e) (asked_holds d.name m)
        by false e =
            let m = having (Arrives d) k in
            is.due.both k m (having_done (room_left false) m) (Arrives d ∷ []) (room_left false).lines (is.arrives d k (inl e)) (unasked_holds d.name m)

  takes_holds : (d : DrawopValue) → Holds R (takes d)
  takes_holds d k = by (holds (view_of k.host) d.name) refl where
    new : Doing
    new = and_then (performs (Arrives d)) (learned d.name (is_asked (view_of k.host) d.name)) (sees k.host) k.policy

    by : (b : Bool) → holds (view_of k.host) d.name ≡ b → HoldsOf R k (cond (b || is_full (view_of k.host)) (performs (Arrives d) (sees k.host) k.policy) new)
    by true e = is.arrives d k (inr (inl e))
    by false e = either (HoldsOf R k) (is_full (view_of k.host)) (performs (Arrives d) (sees k.host) k.policy) new (λ full. is.arrives d k (inr (inr (inl full)))) (λ room. came_in d k (is_asked (view_of k.host) d.name) refl e)

  session_holds : (sender sent : ℕ) (page : PageId) (marks : List MarkValue) (echoes : List Echo) (k : Keeping) → nat_eq sender k.host.is.number ≡ false → HoldsAt R (hears_session sender sent page marks echoes) k
  session_holds sender sent page marks echoes k other =
      let v = view_of k.host in
      let own = own_marks v.me (nat_lt v.now k.policy.ready) marks in
      let echo = own_echo v.me echoes in
      let line = Calls (Hear (Session sender sent page own echo)) in
      let names = told_names v.me page marks in
      let m = having line k in
      let two = measures sender (echoed_delay v.now echo) (sees m.host) k.policy in
      let behind = having_done two m in
      let three = want_told names (sees behind.host) two.policy in
      let joined : R k (line ∷ (two.lines ++ three.lines)) (having_done three behind) = is.due.both k behind (having_done three behind) (line ∷ two.lines) three.lines (is.hears_delay sender sent page own echoes k other) (told_holds R is.due names behind) in
      let there = subst (λ (h : Opened). R k (line ∷ (two.lines ++ three.lines)) (record { host = h; policy = three.policy })) (sym (after_both two.lines three.lines m.host)) joined in
      subst (λ (see : List Line → View). let e = want_told names see two.policy in HoldsOf R k (doing e.policy (line ∷ (two.lines ++ e.lines)))) (sym (seen_then two.lines m.host)) there

  some_hold : (sender : ℕ) (page : PageId) (marks : List MarkValue) → Holds R (hears_some sender page marks)
  some_hold sender page [] k = is.due.nothing k
  some_hold sender page (m ∷ marks) k = is.hears_marks sender page (m ∷ marks) k

  state_holds : (sender : ℕ) (page : PageId) (marks : List MarkValue) → Holds R (hears_state sender page marks)
  state_holds sender page marks k =
      let v = view_of k.host in
      let own = own_marks v.me (nat_lt v.now k.policy.ready) marks in
      let p = after_state v.now k.policy in
      let does = and_then (hears_some sender page own) (want_told (told_names v.me page marks)) in
      from_policy R is.due p k (does (sees k.host) p) (is.told k) (then_holds R is.due (hears_some sender page own) (want_told (told_names v.me page marks)) (some_hold sender page own) (told_holds R is.due (told_names v.me page marks)) (with_policy p k))

  question_holds : Holds R takes_question
  question_holds k =
      let p = after_taking_up (present k.host) k.policy in
      either (HoldsOf R k) (is_to_answer (present k.host) (nat_lt 0 (length k.host.is.held)) k.policy.questions) (still (sees k.host) p) (still (sees k.host) k.policy)
      (λ takes. is.takes_up k takes) (λ not_taken. is.due.nothing k)

  request_holds : (asker : ℕ) (name : NameValue) → Holds R (hears_request asker name)
  request_holds asker name k = by (nat_eq ((view_of k.host).delay source) UNKNOWN_DELAY) where
    source : ℕ
    source = cond (holds (view_of k.host) name) asker name.source

    v : Datagram
    v = Request asker name

    by : (b : Bool) → HoldsOf R k (doing k.policy (cond b (Calls (SetDelay source k.policy.usual) ∷ Calls (Hear v) ∷ Calls (SetDelay source UNKNOWN_DELAY) ∷ []) (Calls (Hear v) ∷ [])))
    by true =
        let one = having (Calls (SetDelay source k.policy.usual)) k in
        let two = having (Calls (Hear v)) one in
        let three = having (Calls (SetDelay source UNKNOWN_DELAY)) two in
        is.due.both k one three (Calls (SetDelay source k.policy.usual) ∷ []) (Calls (Hear v) ∷ Calls (SetDelay source UNKNOWN_DELAY) ∷ []) (is.lends source k)
        (is.due.both one two three (Calls (Hear v) ∷ []) (Calls (SetDelay source UNKNOWN_DELAY) ∷ []) (is.hears_request asker name one) (is.takes_back source two))
    by false = is.hears_request asker name k

  of_other_holds : (sender : ℕ) (does : Transition) (k : Keeping) → (nat_eq sender k.host.is.number ≡ false → HoldsAt R does k) → HoldsOf R k (cond (nat_eq sender k.host.is.number) (still (sees k.host) k.policy) (does (sees k.host) k.policy))
  of_other_holds sender does k it = either (HoldsOf R k) (nat_eq sender k.host.is.number) (still (sees k.host) k.policy) (does (sees k.host) k.policy) (λ own. is.due.nothing k) it

  hears_holds : (v : Datagram) → Holds R (hears v)
  hears_holds (Draw d) k = takes_holds d k
  hears_holds (Session sender sent page marks echoes) k = of_other_holds sender (hears_session sender sent page marks echoes) k (session_holds sender sent page marks echoes k)
  hears_holds (PageState sender page marks) k = of_other_holds sender (hears_state sender page marks) k (λ other. state_holds sender page marks k)
  hears_holds (Request asker name) k = of_other_holds asker (hears_request asker name) k (λ other. request_holds asker name k)
  hears_holds (AskPages asker) k = of_other_holds asker takes_question k (λ other. question_holds k)

  -- its user draws what it had asked for, or something else
  drawing_holds : (d : DrawopValue) (k : Keeping) → HoldsAt R (draws d) k
  drawing_holds d k = by (is_asked (view_of k.host) d.name) refl where
    by : (b : Bool) → is_asked (view_of k.host) d.name ≡ b → HoldsOf R k (doing (cond b (after_drawing k.policy) k.policy) (Says (Draw d) ∷ []))
    by true e = is.drawn d k e
    by false e = is.draws d k e

  -- ---- lines

  pub line_of_parts : (line : KeptLine) (k : Keeping) → fault_of line k ≡ None → HoldsAt R (doing_of line) k
  line_of_parts (Came now v) k none =
      let first = performs (Calls (Tick now)) in
      let later = leb-true _ _ (unless_true (nat_le (present k.host) now) _ (first_none _ _ none)) in
      then_at R is.due first (and_then (hears v) timed) k (is.ticks now k later) (then_holds R is.due (hears v) timed (hears_holds v) (timed_holds R is.due) (after_doing first k))
  line_of_parts (Ticked now) k none =
      let later = leb-true _ _ (unless_true (nat_le (present k.host) now) _ (first_none _ _ none)) in
      then_at R is.due (performs (Calls (Tick now))) timed k (is.ticks now k later) (timed_holds R is.due (after_doing (performs (Calls (Tick now))) k))
  line_of_parts (Added now page time op) k none =
      let first = performs (Calls (Tick now)) in
      let second = draws_it page time op in
      let later = leb-true _ _ (unless_true (nat_le (present k.host) now) _ (first_none _ _ (first_none _ _ none))) in
      then_at R is.due first (and_then second (and_then ends_full timed)) k (is.ticks now k later)
      (then_holds R is.due second (and_then ends_full timed) (λ k. drawing_holds (drawing (view_of k.host) page time op) k) (then_holds R is.due ends_full timed ends_hold (timed_holds R is.due)) (after_doing first k))
  line_of_parts (Tuned constants) k none = is.tunes constants k (unless_true (are_constants constants) _ none)

  -- all that a kept host does
  pub all_parts_hold : (lines : List KeptLine) (k : Keeping) → AreTaken lines k → R k (expand lines k) (after_kept lines k)
  all_parts_hold [] k taken = is.due.nothing k
  all_parts_hold (line ∷ lines) k taken =
      let next = after_doing (doing_of line) k in
      is.due.both k next (after_kept lines next) (doing_of line (sees k.host) k.policy).lines (expand lines next) (line_of_parts line k taken.0) (all_parts_hold lines next taken.1)

pub line_holds : (R : Keeping → List Line → Keeping → Type 0) → HoldsOfSteps R → (line : KeptLine) (k : Keeping) → fault_of line k ≡ None
    → let d = doing_of line (sees k.host) k.policy in R k d.lines (having_done d k)
line_holds R is line k none = line_of_parts R (parts_hold R is) line k none

pub all_hold : (R : Keeping → List Line → Keeping → Type 0) → HoldsOfSteps R → (lines : List KeptLine) (k : Keeping) → AreTaken lines k → R k (expand lines k) (after_kept lines k)
all_hold R is lines k taken = all_parts_hold R (parts_hold R is) lines k taken
