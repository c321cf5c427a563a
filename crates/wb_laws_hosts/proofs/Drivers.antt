-- Lines of honest drivers are honest steps.
use Rattle.std.proofs.Common.{◌≡◌, ◌⊎◌, ℕ, Bool, true, false, cond, List, [], ◌∷◌, Option, Some, None, Result, Ok, Err, ap, eqb-true, inl, inr, map, refl, subst, sym, ◌∙◌}
use Rattle.std.specs.Prelude.{Contains, IfOk, nat_eq}
use Rattle.wb_names.specs.Values.{DrawopValue}
use Rattle.wb_codec.specs.declared.datagram.Datagram.TheVariants as datagrams
use Rattle.wb_recovery.specs.declared.tuning.Tuning.{Tuning}
use Rattle.wb_lines.specs.Input.{InputLine}
use Rattle.wb_lines.specs.Taking.{met}
use Rattle.wb_words.specs.declared.adding.Adding.{Adding}
use Rattle.wb_member.specs.Lines.{Line, Arrives, Calls, Says}
use Rattle.wb_member.specs.Opened.{Opened}
use Rattle.wb_member.specs.declared.calls.Call.TheVariants as calls
use Rattle.wb_keeping.specs.Kept.{Transition, adds, came, ticks}
use Rattle.wb_keeping.specs.Performing.{Keeping, sees}
use Rattle.wb_keeping.specs.Refusing.{add_fault, came_fault, tick_fault}
use Rattle.wb_keeping.specs.declared.kept_fault.KeptFault.{KeptFault}
use Rattle.wb_keeping.proofs.EachLine.{Each}
use Rattle.wb_commands.specs.declared.command.Command.{Command}
use Rattle.wb_commands.specs.declared.command.Command.TheVariants as lines
use Rattle.wb_dialog.specs.declared.fault.Refusal.{Refusal}
use Rattle.wb_dialog.specs.declared.fault.Refusal.TheVariants as refusals
use Rattle.wb_dialog.specs.declared.line.DriverLine.{DriverLine}
use Rattle.wb_dialog.specs.declared.line.DriverLine.TheVariants.{Script, Say, Keep, Came, Add}
use Rattle.wb_dialog.specs.Dialog.{goes_out, refuses, says_line}
use Rattle.wb_dialog.specs.Boards.{BoardValue}
use Rattle.wb_dialog.specs.Hosting.{Host, Driven, Kept, Reply, prints, denies, as_driven, kept_does, kept_reply, reply, reply_to, board_after}
use Rattle.wb_laws_sessions.specs.Drawn.{AreHonest, WasHeld, drawn_at}
use Rattle.wb_laws_machines.specs.Honest.{IsAbove}
use Rattle.wb_laws_sessions.specs.Sessions.{Step, host_at, steps_then}
use Rattle.wb_laws_sessions.specs.Members.{Deed, Does}
use Rattle.wb_laws_sessions.proofs.Honest.{IsGiven, drawing_is_honest, given_is_honest, opening_is_honest}
use Rattle.wb_laws_sessions.proofs.Several.{number_at}
use Rattle.wb_laws_kept.proofs.Honest.{adds_honest, came_given, lines_honest, ticks_given}
use Rattle.wb_laws_hosts.specs.Drivers.{HonestReportsTellShows, IsHeldOrNext, IsHonestLine, HostKnowsItsOwn, LinesAreHonestSteps}
use Rattle.wb_laws_hosts.specs.Texts.{TextEvent, EventAt, HaveNumbers, IsMemberAt, Starts, Takes, deeds_by, deeds_doing, deeds_driven, deeds_first, deeds_kept, deeds_of_event, deeds_said, hosting_at, steps_of_texts}
use Rattle.wb_laws_hosts.proofs.Agreeing.{reports_tell_shows}
use Rattle.wb_laws_hosts.proofs.DriverLines as drivers
use Rattle.wb_laws_hosts.proofs.DriverLines.{met_fits}
use Rattle.wb_laws_hosts.proofs.TextSessions.{texts_are_sessions}

-- a line hands in a drawop
abbrev HandsInBy : DriverLine → DrawopValue → Type 0
HandsInBy line d = (line ≡ Script (lines.Arrive d)) ⊎ ((now : ℕ) × (line ≡ Came now (datagrams.Draw d)))

module _ (numbers : ℕ → ℕ) (place : ℕ) (older : List Step) (honest : AreHonest numbers older) where
  abbrev Goes : List Deed → Type 0
  Goes deeds = AreHonest numbers (steps_then 0 place deeds older)

  by_reply : (r : Reply) (deeds : List Deed) → Goes deeds → Goes (deeds_by r deeds)
  by_reply (prints next text) deeds goes = goes
  by_reply (denies e) deeds goes = honest

  -- ---- before a board is open

  opens : (tuning : Tuning) (line : DriverLine) → drivers.Fits line → Goes (deeds_first tuning line)
  opens tuning (Script (lines.Board member cells workers seed)) fit = (opening_is_honest numbers older 0 place tuning cells seed fit.1, honest)
  opens tuning line fit = honest

  module _ (line : DriverLine) (fit : drivers.Fits line) (comes : (d : DrawopValue) → HandsInBy line d → WasHeld numbers older d) where
    -- one line that draws nothing
    given : (one : Line) → IsGiven (HandsInBy line) one → Goes (Does one ∷ [])
    given one is = (given_is_honest numbers older 0 place (HandsInBy line) comes one is, honest)

    -- several
    all_given : (lines : List Line) → Each (IsGiven (HandsInBy line)) lines → Goes (map Does lines)
    all_given lines each = lines_honest numbers 0 place (HandsInBy line) lines older honest comes each

    -- ---- at a host that its driver drives

    module _ (tuning : Tuning) (host : Opened) (board : Option BoardValue) (there : host ≡ host_at numbers older place) (says : (d : DrawopValue) → line ≡ Say (datagrams.Draw d) → IsHeldOrNext (drawn_at numbers older place) (Some (Driven host board)) d) where
      abbrev GoesBy : DriverLine → Type 0
      GoesBy said = Goes (deeds_by (reply_to tuning (Some (Driven host board)) said) (deeds_driven said))

      one : (said : DriverLine) → Goes (deeds_driven said) → GoesBy said
      one said goes = by_reply (reply_to tuning (Some (Driven host board)) said) (deeds_driven said) goes

      script : (said : Command) → line ≡ Script said → GoesBy (Script said)
      script (lines.Arrive d) is = one (Script (lines.Arrive d)) (given (Arrives d) (inl is))
      script (lines.Call call) is = one (Script (lines.Call call)) (given (Calls call) tt)
      script said is = one (Script said) honest

      drawing : (d : DrawopValue) → line ≡ Say (datagrams.Draw d) → GoesBy (Say (datagrams.Draw d))
      drawing d is = by (nat_eq d.name.source host.is.number) refl where
        in_range : drivers.Fits (Say (datagrams.Draw d))
        in_range = subst drivers.Fits is fit

        new : Contains (host_at numbers older place).is.held d ⊎ IsAbove (drawn_at numbers older place) d.name
        new = subst (λ (h : Opened). IsHeldOrNext (drawn_at numbers older place) (Some (Driven h board)) d) there (says d is)

        by : (b : Bool) → nat_eq d.name.source host.is.number ≡ b
            → Goes (deeds_by (as_driven (board_after (Say (datagrams.Draw d)) board) (cond b (goes_out (datagrams.Draw d) host) (refuses refusals.Member))) (Does (Says (datagrams.Draw d)) ∷ []))
        by true own = (
          drawing_is_honest numbers older 0 place d
              (eqb-true d.name.source host.is.number own ∙ ap (λ (h : Opened). h.is.number) there ∙ number_at numbers older place) in_range.name.positive new,
          honest,
        )
        by false own = honest

      driven : (said : DriverLine) → line ≡ said → GoesBy said
      driven (Script said) is = script said is
      driven (Say (datagrams.Draw d)) is = drawing d is
      driven (Say v) is = one (Say v) (given (Says v) tt)
      driven said is = one said honest

    -- ---- at a self-managing host

    module _ (k : Keeping) (there : host_at numbers older place ≡ k.host) (knows : (a : Adding) → line ≡ Add a → HostKnowsItsOwn (drawn_at numbers older place) (Some (Kept k)) a.page) where
      unless_denied : (fault : Option KeptFault) (doing : Transition) (text : List ℕ) → Goes (deeds_doing doing k) → Goes (deeds_by (kept_does fault doing text k) (deeds_doing doing k))
      unless_denied (Some fault) doing text goes = honest
      unless_denied None doing text goes = goes

      asked : (r : Reply) → Goes (deeds_by r [])
      asked r = by_reply r [] honest

      kept_script : (said : Command) → Goes (deeds_by (kept_reply (Script said) k) (deeds_kept (Script said) k))
      kept_script (lines.Call (calls.Tick now)) = unless_denied (tick_fault now k) (ticks now) []
          (all_given (ticks now (sees k.host) k.policy).lines (ticks_given (HandsInBy line) now (sees k.host) k.policy))
      kept_script (lines.Call (calls.Tune constants)) = given (Calls (calls.Tune constants)) tt
      kept_script (lines.Question query) = asked (kept_reply (Script (lines.Question query)) k)
      kept_script said = honest

      kept : (said : DriverLine) → line ≡ said → Goes (deeds_by (kept_reply said k) (deeds_kept said k))
      kept (Script said) is = kept_script said
      kept (Came now v) is = unless_denied (came_fault now v k) (came now v) _
          (all_given (came now v (sees k.host) k.policy).lines (came_given (HandsInBy line) now v (λ d same. inr (now, is ∙ ap (Came now) same)) (sees k.host) k.policy))
      kept (Add a) is = unless_denied (add_fault a.moment a.page a.time a.op k) (adds a.moment a.page a.time a.op) _
          (adds_honest numbers 0 place older honest k there a.page (knows a is) a.moment a.time a.op k.policy)
      kept said is = honest

  -- ---- one line

  module _ (tuning : Tuning) (said : Result DriverLine Refusal) where
    line_goes : (s : Option Host) → IsMemberAt (host_at numbers older place) s
        → ((line : DriverLine) (d : DrawopValue) → said ≡ Ok line → HandsInBy line d → WasHeld numbers older d)
        → ((d : DrawopValue) → said ≡ Ok (Say (datagrams.Draw d)) → IsHeldOrNext (drawn_at numbers older place) s d)
        → ((a : Adding) → said ≡ Ok (Add a) → HostKnowsItsOwn (drawn_at numbers older place) s a.page)
        → (read : Result DriverLine Refusal) → said ≡ read → IfOk read drivers.Fits → Goes (deeds_by (reply tuning s read) (deeds_said tuning s read))
    line_goes s is comes says knows (Err e) same fits = by_reply (reply tuning s (Err e)) [] honest
    line_goes None is comes says knows (Ok line) same fits = by_reply (reply tuning None (Ok line)) (deeds_first tuning line) (opens tuning line fits)
    line_goes (Some (Driven host board)) is comes says knows (Ok line) same fits =
        driven line fits (λ d hands. comes line d same hands) tuning host board is (λ d e. says d (same ∙ ap (λ (l : DriverLine). ok l) e)) line refl
      where
        ok : DriverLine → Result DriverLine Refusal
        ok l = Ok l
    line_goes (Some (Kept k)) is comes says knows (Ok line) same fits = kept_line line same fits where
      ok : DriverLine → Result DriverLine Refusal
      ok l = Ok l

      kept_line : (line : DriverLine) → said ≡ Ok line → drivers.Fits line → Goes (deeds_by (reply tuning (Some (Kept k)) (Ok line)) (deeds_said tuning (Some (Kept k)) (Ok line)))
      kept_line (Keep rate listen) same fits = honest
      kept_line line same fits = kept line fits (λ d hands. comes line d same hands) k (sym is) (λ a e. knows a (same ∙ ap ok e)) line refl

event_goes : (numbers : ℕ → ℕ) (older : List EventAt) (place : ℕ) → HaveNumbers numbers older → AreHonest numbers (steps_of_texts older) → (event : TextEvent)
    → ((line : InputLine) → event ≡ Takes line → IsHonestLine numbers older place line) → AreHonest numbers (steps_then 0 place (deeds_of_event event (hosting_at older place)) (steps_of_texts older))
event_goes numbers older place numbered honest (Starts tuning) lines_are = honest
event_goes numbers older place numbered honest (Takes line) lines_are =
    let s = hosting_at older place in
    let said = says_line (met line) in
    let is = lines_are line refl in
    line_goes numbers place (steps_of_texts older) honest s.tuning said s.host (texts_are_sessions numbers older numbered place)
    (λ l d same hands. is.comes d (handed said l d same hands)) is.says is.adds said refl (met_fits (met line))
  where
    handed : (said : Result DriverLine Refusal) (l : DriverLine) (d : DrawopValue) → said ≡ Ok l → HandsInBy l d → (said ≡ Ok (Script (lines.Arrive d))) ⊎ ((now : ℕ) × (said ≡ Ok (Came now (datagrams.Draw d))))
    handed said l d same (inl e) = inl (same ∙ ap (λ (x : DriverLine). let r : Result DriverLine Refusal = Ok x in r) e)
    handed said l d same (inr (now, e)) = inr (now, same ∙ ap (λ (x : DriverLine). let r : Result DriverLine Refusal = Ok x in r) e)

pub lines_are_honest_steps : LinesAreHonestSteps
lines_are_honest_steps numbers [] numbered are = tt
lines_are_honest_steps numbers (e ∷ older) numbered are = event_goes numbers older e.place numbered.1 (lines_are_honest_steps numbers older numbered.1 are.1) e.event are.0

pub honest_reports_tell_shows : HonestReportsTellShows
honest_reports_tell_shows numbers events apart numbered are = reports_tell_shows numbers events apart numbered (lines_are_honest_steps numbers events numbered are)
