-- A host that hears a report of a number that it lacks asks for it.
use Rattle.std.proofs.Common.{◌≡◌, ℕ, suc, ◌+◌, ◌*◌, ◌≤◌, Bool, true, false, cond, List, [], ◌∷◌, ◌∙◌, Option, Some, None, ap, arith, eqb-true, length, map, refl, subst, sym, true≢false}
use Rattle.std.specs.Prelude.{◌&&◌, Contains, IfSome, filter, is_some, max, min, nat_eq, nat_le, nat_lt, not, take}
use Rattle.std.proofs.lemmas.List.Sums.{count_by-le-length, length-filter}
use Rattle.wb_names.specs.History.{name_of}
use Rattle.wb_names.specs.Values.{MarkValue, NameValue}
use Rattle.wb_names.specs.declared.echo.Echo.{Echo}
use Rattle.wb_names.specs.declared.name.PageId.{PageId}
use Rattle.wb_codec.specs.declared.datagram.Datagram.{Datagram}
use Rattle.wb_codec.specs.declared.datagram.Datagram.TheVariants.{Session}
use Rattle.wb_gaps.specs.Answers.{pages_of}
use Rattle.wb_recovery.specs.Events.{Event, due_asks, names_of, timers_of, word_for, constants_after}
use Rattle.wb_recovery.specs.Stopping.{got_each, is_received, receipts}
use Rattle.wb_recovery.specs.Timing.{backed_off, fired_ask}
use Rattle.wb_recovery.specs.declared.missed.Received.{Received}
use Rattle.wb_recovery.specs.declared.timers.AskTimer.{AskTimer}
use Rattle.wb_recovery.specs.declared.timers.Timers.{Timers}
use Rattle.wb_recovery.specs.declared.tuning.Tuning.{Tuning}
use Rattle.wb_recovery.proofs.StoppedNames.{not_received, received_stops, timers_receipts}
use Rattle.wb_keeper.specs.GivingUp.{level as level_in}
use Rattle.wb_keeper.specs.Keeper.{delay_to, received_of}
use Rattle.wb_keeper.specs.Ticks.{stopped_after}
use Rattle.wb_progress.specs.Bounds.{IsAskNear}
use Rattle.wb_progress.specs.Keepers.{farthest, greatest_constants}
use Rattle.wb_progress.specs.Repairs.{asking_wait}
use Rattle.wb_progress.proofs.Calls.{backed_level}
use Rattle.wb_progress.proofs.KeeperBounds.{keepers_are_bounded}
use Rattle.wb_progress.proofs.OneCall.{not_standing}
use Rattle.wb_member.specs.Judged.{is_full}
use Rattle.wb_member.specs.Opened.{Opened, asks_for, due_count, events, has_room_for, heard, present, ticked}
use Rattle.wb_member.specs.Random.{words_of}
use Rattle.wb_member.specs.declared.calls.Call.TheVariants.{Tick, Hear, SetDelay}
use Rattle.wb_policy.specs.declared.limits.TheConstants.{COST}
use Rattle.wb_policy.specs.Delays.{bounded}
use Rattle.wb_keeping.specs.Fairness.{AnswersWhatIsHeld}
use Rattle.wb_policy.specs.Choices.{echoed_delay, own_echo, own_marks, told_names}
use Rattle.wb_keeping.specs.Kept.{Transition, and_then, came, hears, hears_session, measures, performs, still, timed, want_told, Line, Calls}
use Rattle.wb_keeping.specs.Performing.{Keeping, after_doing, after_lines, sees, view_of}
use Rattle.wb_policy.specs.Policy.{Policy, after_echo}
use Rattle.wb_keeping.specs.Views.{holds}
use Rattle.wb_keeping.proofs.EachStep.{having, HoldsOfDue, having_done, timed_holds}
use Rattle.wb_keeping.proofs.Performed.{then_after}
use Rattle.wb_keeping.proofs.StandingTimers.{keeps}
use Rattle.wb_keeping.proofs.WantedNames.{lines_answer_held}
use Rattle.wb_kept_progress.proofs.Asking.{IsAskedAnew, IsNew, MayBeAsked, no_level, stays_asked, told_is_asked}
use Rattle.wb_kept_progress.proofs.Lines.{IsSmall, are_small, does_rest}
use Rattle.wb_kept_progress.proofs.Repairs.{IsFine, came_after}
use Rattle.wb_keeping.proofs.EachLine.{measures_each, timed_each, told_each}
use Rattle.wb_keeping.proofs.Saying.{says_after}
use Rattle.std.proofs.lemmas.Bool.{false_from_ne_true, le-leb}
use Rattle.wb_progress.proofs.Repairs.{asking_bound}
use Rattle.std.proofs.lemmas.Option.{none-some, same_Some}
use Rattle.std.proofs.Math.Nat.{le_refl}

-- ---- behind a long wait no timer is new

-- a timer that fired was backed off
fired_is_old : (t : Tuning) (now word : ℕ) (o : Option AskTimer) → IfSome o (λ a. a.due ≤ now) → level_in (fired_ask t now word o) ≡ Some 0 → ⊥
fired_is_old t now word None due new = none-some 0 new
fired_is_old t now word (Some a) due new = by (nat_le a.due now) (le-leb a.due now due) new where
  by : (b : Bool) → b ≡ true → level_in (Some (cond b (backed_off t a now a.delay word) a)) ≡ Some 0 → ⊥
  by true e new = backed_level a.level (same_Some (min (a.level + 1) 16) 0 new)
  by false e new = true≢false (sym e)

module _ (k : Keeping) (fine : IsFine k) (now : ℕ) (late : present k.host + asking_wait ≤ now) where
  all_due : (n : NameValue) → IfSome (timers_of k.host.is.constants (events k.host) n).ask (λ a. a.due ≤ now)
  all_due n = from (timers_of k.host.is.constants (events k.host) n).ask (keepers_are_bounded k.host.is.number k.host.is.constants k.host.is.calls fine.constants fine.goes.orderly n).ask where
    from : (o : Option AskTimer) → IfSome o (IsAskNear greatest_constants farthest (present k.host)) → IfSome o (λ a. a.due ≤ now)
    from None near = tt
    from (Some a) near =
        let b = asking_bound a.level 32 a.delay near.level (le_refl 32) near.delay in
        let due = near.due in
        omega (arith, b, due, late)

  none_is_new : (n : NameValue) → IsNew (ticked now k.host) n → ⊥
  none_is_new n new = by (is_received received n) refl where
    t : Tuning
    t = k.host.is.constants

    s : Timers
    s = timers_of t (events k.host) n

    received : List Received
    received = received_of (delay_to k.host.is.number k.host.is.calls) (stopped_after k.host.is.number t k.host.is.calls k.host.is.held)

    after : List Event
    after = receipts now (events k.host) received

    word : ℕ
    word = word_for (words_of k.host.random (due_count now k.host)) (due_asks (names_of after) (λ m. timers_of t after m) now) n

    c : Tuning
    c = constants_after t after

    then : timers_of t after n ≡ got_each now n s received
    then = timers_receipts t now (events k.host) received n

    fired : level_in (fired_ask c now word (got_each now n s received).ask) ≡ Some 0
    fired = ap (λ (s : Timers). level_in (fired_ask c now word s.ask)) (sym then) ∙ new

    by : (b : Bool) → is_received received n ≡ b → ⊥
    by true e = none-some 0 (sym (ap (λ (o : Option AskTimer). level_in (fired_ask c now word o)) (not_standing (got_each now n s received) (received_stops now n s received e)).ask) ∙ fired)
    by false e = fired_is_old c now word s.ask (all_due n) (ap (λ (s : Timers). level_in (fired_ask c now word s.ask)) (sym (not_received now n s received e)) ∙ fired)

some_level : (o : Option AskTimer) → level_in o ≡ Some 0 → is_some o ≡ true
some_level None e = absurd (none-some 0 e)
some_level (Some a) e = refl

-- ---- it hears who reports, and how far away that is

hearing_may : (sender sent : ℕ) (page : PageId) (marks : List MarkValue) (echoes : List Echo) (k : Keeping) (n : NameValue) (used : ℕ) → MayBeAsked k n used → MayBeAsked (having (Calls (Hear (Session sender sent page marks echoes))) k) n used
hearing_may sender sent page marks echoes k n used may = by (has_room_for v k.host) where
  v : Datagram
  v = Session sender sent page marks echoes

  by : (b : Bool) → MayBeAsked (record { host = cond b (heard v k.host) k.host; policy = k.policy }) n used
  by true = record { names = may.names; are = record { all = may.are.all; paid = may.are.paid }; none = may.none; lacks = may.lacks; room = may.room; answers = may.answers; paid = may.paid }
  by false = may

measures_may : (sender : ℕ) (delay : Option ℕ) (k : Keeping) (n : NameValue) (used : ℕ) → MayBeAsked k n used → MayBeAsked (after_doing (measures sender delay) k) n used
measures_may sender None k n used may = may
measures_may sender (Some micros) k n used may = by (nat_eq (bounded micros) micros) where
  p : Policy
  p = after_echo micros k.policy

  by : (b : Bool) → MayBeAsked (record { host = after_lines (cond b [] (Calls (SetDelay sender (bounded micros)) ∷ [])) k.host; policy = p }) n used
  by true = record { names = may.names; are = record { all = may.are.all; paid = may.are.paid }; none = may.none; lacks = may.lacks; room = may.room; answers = may.answers; paid = may.paid }
  by false = record { names = may.names; are = record { all = may.are.all; paid = may.are.paid }; none = may.none; lacks = may.lacks; room = may.room; answers = may.answers; paid = may.paid }

-- ---- what is due after that

asked_as : (k m : Keeping) (n : NameValue) → m.host ≡ k.host → m.policy.owed ≡ k.policy.owed → IsAskedAnew k n → IsAskedAnew m n
asked_as k m n same owed is = record {
  names = is.names;
  are = record {
    all = λ x new. is.are.all x (subst (λ (h : Opened). IsNew h x) same new);
    paid =
        let p = is.are.paid in
        let now = ap present same in
        at_most (present k.host) (present m.host) k.policy.owed m.policy.owed (length is.names) p now owed;
  };
  new = subst (λ (h : Opened). IsNew h n) (sym same) is.new;
} where
  at_most : (now later owed owes names : ℕ) → now + names * COST ≤ max owed now → later ≡ now → owes ≡ owed → later + names * COST ≤ max owes later
  at_most now later owed owes names p e f = omega (arith, p, e, f)

abbrev StaysAsked : NameValue → Keeping → List Line → Keeping → Type 0
StaysAsked n k lines m = IsAskedAnew k n → IsAskedAnew m n

due_asked : (n : NameValue) → HoldsOfDue (StaysAsked n)
due_asked n = record {
  nothing = λ k is. is;
  both = λ k m l one other a b is. b (a is);
  wants = λ name anew k is. stays_asked name anew k n is;
  turned = λ t l k is. asked_as k _ n refl refl is;
  beats = λ k due is. asked_as k _ n refl refl is;
  answers = λ k due is. asked_as k _ n (says_after (view_of k.host) (take 64 (pages_of k.host.is.held)) k.host) refl is;
  asks_pages = λ k due is. asked_as k _ n refl refl is;
  reports = λ page until told k due is. asked_as k _ n refl refl is;
}

-- ---- a report comes

at_most_all : (me : ℕ) (page : PageId) (marks : List MarkValue) → length (told_names me page marks) ≤ length marks
at_most_all me page marks =
    let p : MarkValue → Bool = λ m. not (nat_eq m.source me && nat_le 2147483648 m.high) in
    let counts = length-filter p marks in
    let few = count_by-le-length p marks in
    let same = mapped (filter p marks) in
    omega (arith, counts, few, same) where
      mapped : (marks : List MarkValue) → length (map (λ (m : MarkValue). name_of page m.source m.high) marks) ≡ length marks
      mapped [] = refl
      mapped (m ∷ marks) = ap suc (mapped marks)

-- After a wait above each wait of a timer, and if all names are paid for, it asks for each in the report that it lacks.
module _ (k : Keeping) (fine : IsFine k) (answering : AnswersWhatIsHeld k.host) (now : ℕ) (late : present k.host + asking_wait ≤ now) (owed : k.policy.owed ≤ now) (sender sent : ℕ) (page : PageId) (marks : List MarkValue) (echoes : List Echo) (other : sender ≡ k.host.is.number → ⊥) (small : length marks ≤ 64) (n : NameValue)
    (told : Contains (told_names k.host.is.number page marks) n) (lacks : holds (view_of k.host) n ≡ false) (room : is_full k.host ≡ false) (none : asks_for n k.host ≡ false) where
  abbrev m : Keeping
  m = having (Calls (Tick now)) k

  abbrev own : List MarkValue
  own = own_marks k.host.is.number (nat_lt now k.policy.ready) marks

  abbrev echo : List Echo
  echo = own_echo k.host.is.number echoes

  abbrev first : Transition
  first = performs (Calls (Hear (Session sender sent page own echo)))

  abbrev second : Transition
  second = measures sender (echoed_delay now echo)

  abbrev third : Transition
  third = want_told (told_names k.host.is.number page marks)

  may : MayBeAsked m n 0
  may = record {
    names = [];
    are = record { all = λ x new. absurd (none_is_new k fine now late x new); paid = nothing now k.policy.owed };
    none = no_level (timers_of m.host.is.constants (events m.host) n).ask (false_from_ne_true (is_some (timers_of m.host.is.constants (events m.host) n).ask) (λ stands. true≢false (sym (keeps (Calls (Tick now)) k.host refl n stands) ∙ none)));
    lacks = lacks;
    room = room;
    answers = λ x. lines_answer_held x (Calls (Tick now) ∷ []) k.host (answering x);
    paid = upto now k.policy.owed owed;
  } where
    nothing : (now owed : ℕ) → now + 0 * COST ≤ max owed now
    nothing now owed = omega arith

    upto : (now owed : ℕ) → owed ≤ now → owed ≤ now + 0 * COST
    upto now owed le = omega (arith, le)

  abbrev one : Keeping
  one = after_doing first m

  abbrev two : Keeping
  two = after_doing second one

  abbrev three : Keeping
  three = after_doing third two

  heard_so : after_doing (hears (Session sender sent page marks echoes)) m ≡ three
  heard_so =
      ap (λ (b : Bool). having_done (cond b (still (sees m.host) m.policy) (hears_session sender sent page marks echoes (sees m.host) m.policy)) m) (false_from_ne_true (nat_eq sender k.host.is.number) (λ same. other (eqb-true sender k.host.is.number same)))
      ∙ then_after first (and_then second third) m
      ∙ then_after second third one

  pub report_so : after_doing (came now (Session sender sent page marks echoes)) k ≡ after_doing timed three
  report_so = came_after now (Session sender sent page marks echoes) k ∙ ap (after_doing timed) heard_so

  -- what it holds stays
  pub report_holds : (after_doing (came now (Session sender sent page marks echoes)) k).host.is.held ≡ k.host.is.held
  report_holds =
      let a = does_rest second (measures_each IsSmall are_small sender (echoed_delay now echo)) one in
      let b = does_rest third (told_each IsSmall are_small (told_names k.host.is.number page marks)) two in
      let c = does_rest timed (timed_each IsSmall are_small) three in
      ap (λ (x : Keeping). x.host.is.held) report_so ∙ c.held ∙ b.held ∙ a.held ∙ by (has_room_for (Session sender sent page own echo) m.host) where
        by : (b : Bool) → (cond b (heard (Session sender sent page own echo) m.host) m.host).is.held ≡ k.host.is.held
        by true = refl
        by false = refl

  asked_three : IsAskedAnew three n
  asked_three =
      let le = at_most_all k.host.is.number page marks in
      told_is_asked (told_names k.host.is.number page marks) two n 0 told (omega (arith, le, small)) (measures_may sender (echoed_delay now echo) one n 0 (hearing_may sender sent page own echo m n 0 may))

  pub report_asks : asks_for n (after_doing (came now (Session sender sent page marks echoes)) k).host ≡ true
  report_asks =
      let last = after_doing timed three in
      let is = timed_holds (StaysAsked n) (due_asked n) three asked_three in
      subst (λ (x : Keeping). asks_for n x.host ≡ true) (sym report_so) (some_level (timers_of last.host.is.constants (events last.host) n).ask is.new)
