-- Two hosts whose keepers learned the same names in other orders: each line prints the same there, and leads to two such hosts.
use Rattle.std.proofs.Common.{◌≡◌, ℕ, Bool, true, false, cond, List, [], ◌∷◌, ◌++◌, length, Option, Some, None, refl, sym, ap, ap₂, ◌∙◌, subst, filter, map, nat_le, not, ◌||◌}
use Rattle.wb_names.specs.Faults.{fault_unless}
use Rattle.wb_names.specs.Values.{NameValue, MarkValue}
use Rattle.wb_names.specs.declared.name.PageId.{PageId}
use Rattle.wb_names.specs.declared.echo.Echo.{Echo}
use Rattle.wb_codec.specs.declared.datagram.Datagram.{Datagram}
use Rattle.wb_codec.specs.declared.datagram.Datagram.TheVariants.{Session as SessionMessage}
use Rattle.wb_gaps.specs.Answers.{gaps_of, report_of}
use Rattle.wb_recovery.specs.Events.{Event, asking, due_asks, due_answers, actions_of, names_of as timer_names, timers_of}
use Rattle.wb_recovery.specs.Stopping.{receipts}
use Rattle.wb_recovery.specs.declared.plan.Action.{Action}
use Rattle.wb_recovery.specs.declared.plan.Action.TheVariants as actions
use Rattle.wb_recovery.specs.declared.timers.Timers.{Timers}
use Rattle.wb_keeper.specs.GivingUp.{is_asked, is_timed}
use Rattle.wb_keeper.specs.Hearing.{marks_heard, asks_for_held, answers_to, has_room}
use Rattle.wb_keeper.specs.Keeper.{KeeperCall, Hear, Miss, GoOn, Report, GiveUp, SetDelay, SetConstants, delay_to, received_of, holds, is_own}
use Rattle.wb_keeper.specs.Missing.{wanted, names_in_gaps}
use Rattle.wb_keeper.specs.Sessions.{echoes_of}
use Rattle.wb_keeper.specs.Ticks.{sends_for, stopped_after}
use Rattle.wb_keeper.specs.declared.keep_fault.KeepFault.{KeepFault}
use Rattle.wb_keeper.specs.declared.keep_fault.KeepFault.TheVariants.{BackInTime, TooMany}
use Rattle.wb_member.specs.Calls.{after_call, fault_of}
use Rattle.wb_member.specs.Members.{calling as told}
use Rattle.wb_member.specs.Opened.{Opened, present, events, due_count, sent_by, wanted_of, has_room_for, heard, may_ask, words_for, word_at}
use Rattle.wb_member.specs.Questions.{Told, answer_by, answer_to}
use Rattle.wb_member.specs.Random.{word_of, words_of, after_words}
use Rattle.wb_member.specs.declared.calls.Call.{Call}
use Rattle.wb_member.specs.declared.calls.Call.TheVariants as calls
use Rattle.wb_member.specs.declared.calls.Found.TheVariants.{Nothing, Missing, MayAsk, WasAsked}
use Rattle.wb_member.specs.declared.questions.Query.{Query}
use Rattle.wb_commands.specs.Acts.{Act, does, fails, unless, tells, question_act, called, act}
use Rattle.wb_commands.specs.Answers.{answer_text}
use Rattle.wb_commands.specs.SentLines.{call_text, done_text}
use Rattle.wb_commands.specs.declared.command.Command.{Command}
use Rattle.wb_commands.specs.declared.command.Command.TheVariants.{Call as Calls, Question}
use Rattle.wb_script.proofs.Refusals.{unless_both}
use Rattle.wb_script.proofs.Retold.{CallsAlike, EventsAlike, calls_after, moment_alike, delays_alike, marks_alike, echoes_alike, receipts_alike}

-- a host whose keeper accepted these calls in place of its own
abbrev pub retold : Opened → List KeeperCall → Opened
retold host calls = record { is = record host.is { calls = calls }; random = host.random }

-- The other is this host, but for the orders in which it learned names.
pub record HostsRetold (one other : Opened) : Type 0 where
  pub calls : List KeeperCall
  pub is : other ≡ retold one calls
  pub alike : CallsAlike one.is.calls calls

-- They print the same, and lead to two such hosts; or they are refused alike.
abbrev pub DoRetold : Act → Act → Type 0
DoRetold (does next text) (does next' text') = HostsRetold next next' × (text ≡ text')
DoRetold (fails e) (fails e') = e ≡ e'
DoRetold one other = ⊥

-- once the keeper accepted a call, for which `words` random words were taken
abbrev calling : KeeperCall → ℕ → Opened → Opened
calling call words host = record { is = told call host.is; random = after_words host.random words }

module _ (host : Opened) (others : List KeeperCall) (a : CallsAlike host.is.calls others) where
  abbrev other : Opened
  other = retold host others

  same_present : present host ≡ present other
  same_present = moment_alike host.is.calls others a

  same_events : EventsAlike (events host) (events other)
  same_events = a.events host.is.number

  same_marks : marks_heard host.is.number host.is.calls ≡ marks_heard host.is.number others
  same_marks = marks_alike host.is.number host.is.calls others a

  same_delays : delay_to host.is.number host.is.calls ≡ delay_to host.is.number others
  same_delays = delays_alike host.is.number host.is.calls others a

  stays : HostsRetold host other
  stays = record { calls = others; is = refl; alike = a }

  -- ---- questions

  same_answer : (query : Query) → answer_to query host ≡ answer_to query other
  same_answer query =
      ap₂ (λ (marks : PageId → List MarkValue) (heard : List PageId). answer_by host.is.number marks heard host.is.held query) same_marks (a.pages host.is.number)

  asks : (query : Query) → DoRetold (question_act query host) (question_act query other)
  asks query = subst (λ (said : Told). DoRetold (question_act query host) (tells other (answer_text said))) (same_answer query) (by (answer_text (answer_to query host))) where
    by : (text : Option (List ℕ)) → DoRetold (tells host text) (tells other text)
    by (Some text) = (stays, refl)
    by None = refl

  -- ---- calls

  -- It is refused alike, leads to two such hosts, and prints the same.
  record CallRetold (call : Call) : Type 0 where
    fault : fault_of call host ≡ fault_of call other
    after : HostsRetold (after_call call host) (after_call call other)
    text : call_text call host ≡ call_text call other

  -- once the keeper accepted a call
  told_alike : (call call' : KeeperCall) (words words' : ℕ) → call ≡ call' → words ≡ words' → HostsRetold (calling call words host) (calling call' words' other)
  told_alike call call' words words' same count = record {
    calls = call' ∷ others;
    is = ap (λ (n : ℕ). calling call' n other) (sym count);
    alike = subst (λ (c : KeeperCall). CallsAlike (call ∷ host.is.calls) (c ∷ others)) same (calls_after call host.is.calls others a);
  }

  by_test : (b b' : Bool) (next next' : Opened) → b ≡ b' → HostsRetold next next' → HostsRetold (cond b next host) (cond b' next' other)
  by_test true true next next' e h = h
  by_test false false next next' e h = stays
  by_test true false next next' e h = absurd cc
  by_test false true next next' e h = absurd cc

  same_timers : timers_of host.is.constants (events host) ≡ timers_of host.is.constants (events other)
  same_timers = same_events.timers host.is.constants

  abbrev stopping : Opened → List NameValue
  stopping h = stopped_after h.is.number h.is.constants h.is.calls h.is.held

  same_stopping : stopping host ≡ stopping other
  same_stopping =
      ap₂ (λ (names : List NameValue) (timers : NameValue → Timers). filter (holds host.is.held) (asking names timers)) same_events.names same_timers

  same_due : (now : ℕ) → due_count now host ≡ due_count now other
  same_due now = ap₂ (λ (names : List NameValue) (timers : NameValue → Timers). length (due_asks names timers now)) same_events.names same_timers

  abbrev came : Opened → (ℕ → ℕ) → List NameValue → ℕ → List Event
  came h delays stopped now = receipts now (events h) (received_of delays stopped)

  same_sent : (now : ℕ) → sent_by now host ≡ sent_by now other
  same_sent now =
      let me = host.is.number in
      let t = host.is.constants in
      let delays = delay_to me host.is.calls in
      let alike = receipts_alike now (received_of delays (stopping host)) (events host) (events other) same_events in
      let actions : actions_of t (came host delays (stopping host) now) now ≡ actions_of t (came other delays (stopping host) now) now =
      ap₂ (λ (names : List NameValue) (timers : NameValue → Timers). map actions.Ask (due_asks names timers now) ++ map actions.Answer (due_answers names timers now)) alike.names (alike.timers t) in
      ap (λ (actions : List Action). sends_for me host.is.held actions)
      (actions ∙ ap₂ (λ (d : ℕ → ℕ) (stopped : List NameValue). actions_of t (came other d stopped now) now) same_delays same_stopping)

  same_wanted : (page : PageId) → wanted_of page host ≡ wanted_of page other
  same_wanted page =
      let t = host.is.constants in
      let gaps : (PageId → List MarkValue) → List NameValue = λ marks. names_in_gaps page (gaps_of host.is.held page (marks page)) in
      ap₂ (λ (names : List NameValue) (timers : NameValue → Timers). wanted timers (length (asking names timers)) (gaps (marks_heard host.is.number host.is.calls))) same_events.names same_timers
      ∙ ap (λ (marks : PageId → List MarkValue). wanted (timers_of t (events other)) (length (asking (timer_names (events other)) (timers_of t (events other)))) (gaps marks)) same_marks

  call_retold : (call : Call) → CallRetold call
  call_retold (calls.Tick now) =
      let going : Opened → KeeperCall = λ h. GoOn now (words_of h.random (due_count now h)) (stopping h) in
      record {
        fault = ap (λ (moment : ℕ). fault_unless (nat_le moment now) BackInTime) same_present;
        after = told_alike (going host) (going other) (due_count now host) (due_count now other)
            (ap₂ (λ (count : ℕ) (stopped : List NameValue). GoOn now (words_of host.random count) stopped) (same_due now) same_stopping) (same_due now);
        text = ap (λ (sent : List Datagram). done_text sent Nothing) (same_sent now);
      }
  call_retold (calls.Hear v) =
      let hearing : ℕ → KeeperCall = λ now. Hear now v (word_at v host.random) (asks_for_held host.is.held v) in
      let room : has_room_for v host ≡ has_room_for v other = ap (λ (marks : PageId → List MarkValue). is_own host.is.number v || has_room marks v) same_marks in
      record {
        fault = ap (λ (b : Bool). fault_unless b TooMany) room;
        after = by_test (has_room_for v host) (has_room_for v other) (heard v host) (heard v other) room
            (told_alike (hearing (present host)) (hearing (present other)) (words_for v) (words_for v) (ap hearing same_present) refl);
        text = ap (λ (b : Bool). done_text (cond b (answers_to host.is.number host.is.held v) []) Nothing) room;
      }
  call_retold (calls.SetDelay source micros) = record { fault = refl; after = told_alike (SetDelay source micros) (SetDelay source micros) 0 0 refl refl; text = refl }
  call_retold (calls.Tune constants) = record { fault = refl; after = told_alike (SetConstants constants) (SetConstants constants) 0 0 refl refl; text = refl }
  call_retold (calls.Look page) =
      let missing : ℕ → List NameValue → KeeperCall = λ now names. Miss now names (words_of host.random (length names)) in
      let count : length (wanted_of page host) ≡ length (wanted_of page other) = ap length (same_wanted page) in
      record {
        fault = refl;
        after = told_alike (missing (present host) (wanted_of page host)) (missing (present other) (wanted_of page other)) (length (wanted_of page host)) (length (wanted_of page other)) (ap₂ missing same_present (same_wanted page)) count;
        text = ap (λ (n : ℕ). done_text [] (Missing n)) count;
      }
  call_retold (calls.Session page) =
      let message : ℕ → List Echo → Datagram = λ now echoes. SessionMessage host.is.number now page (report_of host.is.held page) echoes in
      let echoes : echoes_of host.is.number host.is.calls (present host) ≡ echoes_of host.is.number others (present other) =
      echoes_alike host.is.number host.is.calls others (present host) a ∙ ap (echoes_of host.is.number others) same_present in
      record {
        fault = refl;
        after = told_alike (Report (present host)) (Report (present other)) 0 0 (ap Report same_present) refl;
        text = ap₂ (λ (now : ℕ) (es : List Echo). done_text (message now es ∷ []) Nothing) same_present echoes;
      }
  call_retold (calls.Ask name) =
      let missing : ℕ → KeeperCall = λ now. Miss now (name ∷ []) (word_of host.random ∷ []) in
      let may : may_ask name host ≡ may_ask name other = ap (λ (timers : NameValue → Timers). not (holds host.is.held name || is_timed timers name)) same_timers in
      record {
        fault = refl;
        after = by_test (may_ask name host) (may_ask name other) (calling (missing (present host)) 1 host) (calling (missing (present other)) 1 other) may
            (told_alike (missing (present host)) (missing (present other)) 1 1 (ap missing same_present) refl);
        text = ap (λ (begun : Bool). done_text [] (MayAsk begun)) may;
      }
  call_retold (calls.Stop name) =
      let giving : ℕ → (NameValue → Timers) → KeeperCall = λ now timers. GiveUp now name (is_asked timers name) in
      record {
        fault = refl;
        after = told_alike (giving (present host) (timers_of host.is.constants (events host))) (giving (present other) (timers_of host.is.constants (events other))) 0 0 (ap₂ giving same_present same_timers) refl;
        text = ap (λ (timers : NameValue → Timers). done_text [] (WasAsked (is_asked timers name))) same_timers;
      }

  calls_retold : (call : Call) → DoRetold (called call host) (called call other)
  calls_retold call =
      let c = call_retold call in
      let does' : Opened → Act = λ h. does (after_call call h) (call_text call h) in
      subst (λ (fault : Option KeepFault). DoRetold (called call host) (unless fault (does' other))) c.fault
      (unless_both DoRetold (λ e. refl) (fault_of call host) (does' host) (does' other) (c.after, c.text))

  pub act_retold : (line : Command) → DoRetold (act line host) (act line other)
  act_retold (Question query) = asks query
  act_retold (Calls call) = calls_retold call
  act_retold line = (stays, refl)
