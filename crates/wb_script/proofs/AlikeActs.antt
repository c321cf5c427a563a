-- Two hosts that differ in the order of what they hold, at most: each line prints the same there, and leads to two such hosts.
use Rattle.std.proofs.Common.{◌≡◌, ℕ, Bool, true, false, cond, List, [], ◌∷◌, length, Option, Some, None, refl, sym, ap, ap₂, ◌∙◌, subst, filter, map, not, ◌||◌, filter_map}
use Rattle.wb_names.specs.Values.{NameValue, DrawopValue, MarkValue}
use Rattle.wb_names.specs.declared.gap.Gap.{Gap}
use Rattle.wb_codec.specs.declared.datagram.Datagram.{Datagram}
use Rattle.wb_codec.specs.declared.datagram.Datagram.TheVariants.{PageState, Session as SessionMessage}
use Rattle.wb_gaps.specs.declared.page_reports.PageReport.{PageReport}
use Rattle.wb_recovery.specs.declared.plan.Action.{Action}
use Rattle.wb_recovery.specs.Events.{asking, actions_of, timers_of, names_of as timer_names}
use Rattle.wb_recovery.specs.Stopping.{receipts}
use Rattle.wb_keeper.specs.GivingUp.{is_timed}
use Rattle.wb_keeper.specs.Keeper.{KeeperCall, Hear, Miss, GoOn, delay_to, received_of, holds}
use Rattle.wb_keeper.specs.Hearing.{marks_heard, asks_for_held, asks_for_pages}
use Rattle.wb_keeper.specs.Known.{pages_heard}
use Rattle.wb_keeper.specs.Missing.{wanted, names_in_gaps}
use Rattle.wb_keeper.specs.Sessions.{echoes_of}
use Rattle.wb_keeper.specs.declared.keep_fault.KeepFault.{KeepFault}
use Rattle.wb_member.specs.Calls.{after_call, fault_of}
use Rattle.wb_member.specs.Members.{calling as told}
use Rattle.wb_member.specs.Opened.{Opened, present, board_of, events, due_count, wanted_of, has_room_for, heard, may_ask, words_for, word_at}
use Rattle.wb_member.specs.Questions.{Told, answer_to}
use Rattle.wb_member.specs.Random.{word_of, words_of, after_words}
use Rattle.wb_member.specs.declared.calls.Call.{Call}
use Rattle.wb_member.specs.declared.calls.Call.TheVariants.{Tick, Hear as HearCall, Look, Session, Ask}
use Rattle.wb_member.specs.declared.calls.Found.TheVariants.{Nothing, Missing, MayAsk}
use Rattle.wb_member.specs.declared.questions.Query.{Query}
use Rattle.wb_member.proofs.KeptBoards.{calls_keep_boards}
use Rattle.wb_commands.specs.Acts.{Act, does, fails, unless, tells, question_act, called, act}
use Rattle.wb_commands.specs.Answers.{answer_text}
use Rattle.wb_commands.specs.SentLines.{call_text, done_text}
use Rattle.wb_commands.specs.declared.command.Command.{Command}
use Rattle.wb_commands.specs.declared.command.Command.TheVariants.{Call as Calls, Question}
use Rattle.wb_script.proofs.AlikeHistories.{same_holds, same_sent, same_asks, same_gaps, same_report, same_reports, same_answer}
use Rattle.wb_script.proofs.FreeArrivals.{AreAlike}
use Rattle.wb_script.proofs.Refusals.{unless_both}

-- a host that holds these in place of what it held
abbrev pub holding : Opened → List DrawopValue → Opened
holding host drawops = record { is = record host.is { held = drawops }; random = host.random }

-- They print the same and leave their boards; but for the order of what is held, they lead to the same host.
abbrev pub DoAlike : Opened → List DrawopValue → Act → Act → Type 0
DoAlike host drawops (does next text) (does next' text') = (board_of next ≡ board_of host) × (next' ≡ holding next drawops) × (text ≡ text')
DoAlike host drawops (fails e) (fails e') = e ≡ e'
DoAlike host drawops one other = ⊥

-- once the keeper accepted a call, for which `words` random words were taken
abbrev calling : KeeperCall → ℕ → Opened → Opened
calling call words host = record { is = told call host.is; random = after_words host.random words }

module _ (host : Opened) (drawops : List DrawopValue) (a : AreAlike host.is.held drawops) where
  abbrev other : Opened
  other = holding host drawops

  -- ---- questions

  asks : (query : Query) → DoAlike host drawops (question_act query host) (question_act query other)
  asks query = subst (λ (said : Told). DoAlike host drawops (question_act query host) (tells other (answer_text said)))
      (same_answer host.is.held drawops a host.is.number (marks_heard host.is.number host.is.calls) (pages_heard host.is.number host.is.calls) query)
      (told (answer_text (answer_to query host))) where
        told : (text : Option (List ℕ)) → DoAlike host drawops (tells host text) (tells other text)
        told (Some text) = (refl, refl, refl)
        told None = refl

  -- ---- calls

  -- It is refused alike. But for the order of what is held, it leads to the same host, and it prints the same.
  record CallAlike (call : Call) : Type 0 where
    fault : fault_of call host ≡ fault_of call other
    after : after_call call other ≡ holding (after_call call host) drawops
    text : call_text call host ≡ call_text call other

  -- once the keeper accepted a call, which each may have told something else of what it holds
  told_alike : (call call' : KeeperCall) (words : ℕ) → call ≡ call' → calling call' words other ≡ holding (calling call words host) drawops
  told_alike call call' words same = ap (λ (c : KeeperCall). calling c words other) (sym same)

  by_test : (b : Bool) (next next' : Opened) → next' ≡ holding next drawops → cond b next' other ≡ holding (cond b next host) drawops
  by_test true next next' same = same
  by_test false next next' same = refl

  same_held : holds host.is.held ≡ holds drawops
  same_held = same_holds host.is.held drawops a

  abbrev stopping : (NameValue → Bool) → List NameValue
  stopping held = filter held (asking (timer_names (events host)) (timers_of host.is.constants (events host)))

  abbrev sent_with : (Action → Option Datagram) → (NameValue → Bool) → ℕ → List Datagram
  sent_with sends held now = filter_map sends (actions_of host.is.constants (receipts now (events host) (received_of (delay_to host.is.number host.is.calls) (stopping held))) now)

  abbrev ticking : ℕ → (NameValue → Bool) → KeeperCall
  ticking now held = GoOn now (words_of host.random (due_count now host)) (stopping held)

  call_alike : (call : Call) → CallAlike call
  call_alike (Tick now) = record {
    fault = refl;
    after = told_alike (ticking now (holds host.is.held)) (ticking now (holds drawops)) (due_count now host) (ap (ticking now) same_held);
    text = ap₂ (λ (sends : Action → Option Datagram) (held : NameValue → Bool). done_text (sent_with sends held now) Nothing) (same_sent host.is.held drawops a host.is.number) same_held;
  }
  call_alike (HearCall v) =
      let hear : Bool → KeeperCall = λ held. Hear (present host) v (word_at v host.random) held in
      let sent : List PageReport → List Datagram = λ reports. cond (asks_for_pages host.is.number v) (map (λ r. PageState host.is.number r.page r.marks) reports) [] in
      record {
        fault = refl;
        after = by_test (has_room_for v host) (heard v host) (heard v other)
            (told_alike (hear (asks_for_held host.is.held v)) (hear (asks_for_held drawops v)) (words_for v) (ap hear (same_asks host.is.held drawops a v)));
        text = ap (λ (reports : List PageReport). done_text (cond (has_room_for v host) (sent reports) []) Nothing) (same_reports host.is.held drawops a);
      }
  call_alike (Look page) =
      let wants : wanted_of page host ≡ wanted_of page other =
      ap (λ (gaps : List Gap). wanted (timers_of host.is.constants (events host)) (length (asking (timer_names (events host)) (timers_of host.is.constants (events host)))) (names_in_gaps page gaps))
      (same_gaps host.is.held drawops a page (marks_heard host.is.number host.is.calls page)) in
      record {
        fault = refl;
        after = ap (λ (names : List NameValue). calling (Miss (present host) names (words_of host.random (length names))) (length names) other) (sym wants);
        text = ap (λ (names : List NameValue). done_text [] (Missing (length names))) wants;
      }
  call_alike (Session page) = record {
    fault = refl;
    after = refl;
    text = ap (λ (marks : List MarkValue). done_text (SessionMessage host.is.number (present host) page marks (echoes_of host.is.number host.is.calls (present host)) ∷ []) Nothing) (same_report host.is.held drawops a page);
  }
  call_alike (Ask name) =
      let missing : Opened → Opened = λ h. calling (Miss (present host) (name ∷ []) (word_of host.random ∷ [])) 1 h in
      let may : may_ask name host ≡ may_ask name other = ap (λ (held : NameValue → Bool). not (held name || is_timed (timers_of host.is.constants (events host)) name)) same_held in
      record {
        fault = refl;
        after = ap (λ (b : Bool). cond b (missing other) other) (sym may) ∙ by_test (may_ask name host) (missing host) (missing other) refl;
        text = ap (λ (begun : Bool). done_text [] (MayAsk begun)) may;
      }
  call_alike call = record { fault = refl; after = refl; text = refl }

  calls_alike : (call : Call) → DoAlike host drawops (called call host) (called call other)
  calls_alike call =
      let c = call_alike call in
      let does' : Opened → Act = λ h. does (after_call call h) (call_text call h) in
      subst (λ (fault : Option KeepFault). DoAlike host drawops (called call host) (unless fault (does' other))) c.fault
      (unless_both (DoAlike host drawops) (λ e. refl) (fault_of call host) (does' host) (does' other) ((calls_keep_boards call host).board, c.after, c.text))

  -- ---- each line

  pub act_alike : (line : Command) → DoAlike host drawops (act line host) (act line other)
  act_alike (Question query) = asks query
  act_alike (Calls call) = calls_alike call
  act_alike line = (refl, refl, refl)
