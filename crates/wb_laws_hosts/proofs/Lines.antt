-- What one line makes of a host, and what is printed for it, as the deeds of a member.
use Rattle.std.proofs.Common.{◌≡◌, ℕ, Bool, true, false, cond, List, [], ◌∷◌, ◌++◌, Option, Some, None, Result, Ok, Err, append-nil, ap, refl, sym, subst, ◌∙◌}
use Rattle.std.specs.Prelude.{nat_eq, unwrap_or}
use Rattle.wb_names.specs.Arrivals.{Outcome, New, Again, Clash, Left}
use Rattle.wb_names.specs.Values.{DrawopValue}
use Rattle.wb_codec.specs.declared.datagram.Datagram.{Datagram}
use Rattle.wb_codec.specs.declared.datagram.Datagram.TheVariants as datagrams
use Rattle.wb_recovery.specs.declared.tuning.Tuning.{Tuning}
use Rattle.wb_member.specs.Calls.{after_call, fault_of, found_by, sent_by_call}
use Rattle.wb_member.specs.Lines.{Calls, Line, said_where}
use Rattle.wb_member.specs.Opened.{Opened, becomes}
use Rattle.wb_member.specs.Questions.{answer_to}
use Rattle.wb_keeping.specs.Kept.{Transition, adds, came, performs, ticks}
use Rattle.wb_keeping.specs.Performing.{Keeping, sees}
use Rattle.wb_keeping.specs.Refusing.{add_fault, came_as, came_fault, drawn_as, tick_fault}
use Rattle.wb_keeping.specs.declared.kept_fault.KeptFault.{KeptFault}
use Rattle.wb_member.specs.declared.calls.Call.{Call}
use Rattle.wb_member.specs.declared.calls.Call.TheVariants as calls
use Rattle.wb_commands.specs.Acts.{Act, does, tells}
use Rattle.wb_commands.specs.Answers.{answer_text}
use Rattle.wb_commands.specs.SentLines.{call_text, found_text, send_line, sends_text}
use Rattle.wb_commands.specs.declared.command.Command.{Command}
use Rattle.wb_commands.specs.declared.command.Command.TheVariants as lines
use Rattle.wb_dialog.specs.declared.fault.Refusal.{Refusal}
use Rattle.wb_dialog.specs.declared.fault.Refusal.TheVariants as refusals
use Rattle.wb_dialog.specs.declared.line.DriverLine.{DriverLine}
use Rattle.wb_dialog.specs.declared.line.DriverLine.TheVariants.{Script, Say, Keep, Came, Add}
use Rattle.wb_dialog.specs.Dialog.{Answer, answer_at, answered, goes_out, refuses, said_text, speaker}
use Rattle.wb_dialog.specs.Boards.{BoardValue}
use Rattle.wb_dialog.specs.Hosting.{Host, Driven, Kept, Reply, prints, denies, as_driven, begins, came_text, host_after, kept_does, kept_reply, kept_shows, reply, reply_to, board_after, unsent_text}
use Rattle.wb_laws_sessions.specs.Sessions.{after_deeds, sent_by_deeds}
use Rattle.wb_laws_sessions.specs.Members.{Deed, Opens}
use Rattle.wb_laws_sessions.proofs.Several.{after_performed, sent_performed}
use Rattle.wb_script.proofs.Refusals.{unless_both}
use Rattle.wb_laws_hosts.specs.Texts.{IsMemberAt, IsOf, deeds_by, deeds_doing, deeds_driven, deeds_kept, deeds_of_line, deeds_said}
use Rattle.wb_laws_hosts.specs.Telling.{told_driven, told_first, told_kept, told_of, told_said, told_saying}

-- the member that a host is
abbrev pub member_in : Host → Opened
member_in (Driven host board) = host
member_in (Kept k) = k.host

-- It leads to the member after these deeds, and prints what they send, and then its answer; or it is refused.
abbrev pub LedTo : Opened → List Datagram → Reply → List ℕ → Type 0
LedTo later sent (prints next text) told = IsMemberAt later next × (text ≡ sends_text sent ++ told)
LedTo later sent (denies e) told = Unit {0}

abbrev pub Led : Opened → Reply → List Deed → List ℕ → Type 0
Led host r deeds told = LedTo (after_deeds deeds host) (sent_by_deeds deeds host) r told

-- one datagram is sent, and no answer follows it
one : (v : Datagram) → send_line v ≡ sends_text (v ∷ []) ++ []
one v = sym (append-nil (sends_text (v ∷ [])) ∙ append-nil (send_line v))

-- ---- at a host that its driver drives

module _ (host : Opened) (board : Option BoardValue) where
  abbrev Leads : Answer → List Deed → List ℕ → Type 0
  Leads a deeds told = Led host (as_driven board a) deeds told

  call_led : (call : Call) → Leads (answer_at (Script (lines.Call call)) host) (deeds_driven (Script (lines.Call call))) (found_text (found_by call host))
  call_led call =
      let done : Act = does (after_call call host) (call_text call host) in
      unless_both (λ (a b : Act). Leads (answered a) (deeds_driven (Script (lines.Call call))) (found_text (found_by call host))) (λ e. tt) (fault_of call host) done done
      (refl, ap (λ (sent : List Datagram). sends_text sent ++ found_text (found_by call host)) (sym (append-nil (sent_by_call call host))))

  tells_it : (text : Option (List ℕ)) → Leads (answered (tells host text)) [] (unwrap_or text [])
  tells_it (Some text) = (refl, refl)
  tells_it None = tt

  script_led : (line : Command) → Leads (answer_at (Script line) host) (deeds_driven (Script line)) (told_driven (Script line) host)
  script_led (lines.Board member cells workers seed) = tt
  script_led (lines.Call call) = call_led call
  script_led (lines.Question query) = tells_it (answer_text (answer_to query host))
  script_led line = (refl, refl)

  said_led : (d : DrawopValue) (o : Outcome) → said_text d o ≡ sends_text (said_where d o ++ []) ++ unsent_text o
  said_led d (New place) = one (datagrams.Draw d)
  said_led d (Again place) = one (datagrams.Draw d)
  said_led d (Clash place) = refl
  said_led d Left = refl

  goes_led : (v : Datagram) → Leads (goes_out v host) (deeds_driven (Say v)) (told_saying v host)
  goes_led (datagrams.Draw d) = (refl, said_led d (becomes d host))
  goes_led v = (refl, one v)

  says_led : (v : Datagram) → Leads (answer_at (Say v) host) (deeds_driven (Say v)) (told_driven (Say v) host)
  says_led v = from (nat_eq (speaker v) host.is.number) where
    from : (mine : Bool) → Leads (cond mine (goes_out v host) (refuses refusals.Member)) (deeds_driven (Say v)) (told_saying v host)
    from true = goes_led v
    from false = tt

  driven_led : (line : DriverLine) → Leads (answer_at line host) (deeds_driven line) (told_driven line host)
  driven_led (Script line) = script_led line
  driven_led (Say v) = says_led v
  driven_led line = search

-- ---- at a self-managing host

module _ (k : Keeping) where
  does_led : (fault : Option KeptFault) (doing : Transition) (text : List ℕ) → Led k.host (kept_does fault doing text k) (deeds_doing doing k) text
  does_led (Some fault) doing text = tt
  does_led None doing text =
      let performed : List Line = (doing (sees k.host) k.policy).lines in
      (sym (after_performed performed k.host), ap (λ (sent : List Datagram). sends_text sent ++ text) (sym (sent_performed performed k.host)))

  shows_led : (text : Option (List ℕ)) → Led k.host (kept_shows k (answered (tells k.host text))) [] (unwrap_or text [])
  shows_led (Some text) = (refl, refl)
  shows_led None = tt

  kept_script_led : (line : Command) → Led k.host (kept_reply (Script line) k) (deeds_kept (Script line) k) (told_kept (Script line) k)
  kept_script_led (lines.Call (calls.Tick now)) = does_led (tick_fault now k) (ticks now) []
  kept_script_led (lines.Call (calls.Tune constants)) = does_led None (performs (Calls (calls.Tune constants))) []
  kept_script_led (lines.Question query) = shows_led (answer_text (answer_to query k.host))
  kept_script_led lines.Skip = (refl, refl)
  kept_script_led line = tt

  kept_led : (line : DriverLine) → Led k.host (kept_reply line k) (deeds_kept line k) (told_kept line k)
  kept_led (Script line) = kept_script_led line
  kept_led (Came now v) = does_led (came_fault now v k) (came now v) (came_text v (came_as v k.host))
  kept_led (Add a) = does_led (add_fault a.moment a.page a.time a.op k) (adds a.moment a.page a.time a.op) (unsent_text (drawn_as a.page a.time a.op k.host))
  kept_led line = search

-- ---- at a host of either kind

begins_led : (rate listen : ℕ) (host : Opened) (board : Option BoardValue) → Led host (begins rate listen host board) [] []
begins_led rate listen host None = tt
begins_led rate listen host (Some board) = (refl, refl)

open_led : (tuning : Tuning) (h : Host) (line : DriverLine) → Led (member_in h) (reply_to tuning (Some h) line) (deeds_of_line tuning (Some h) line) (told_of (Some h) line)
open_led tuning (Driven host board) (Keep rate listen) = begins_led rate listen host board
open_led tuning (Driven host board) line = driven_led host (board_after line board) line
open_led tuning (Kept k) (Keep rate listen) = tt
open_led tuning (Kept k) line = kept_led k line

-- before a board is open: it is of the member whose number it has
first_led : (tuning : Tuning) (member : Opened) (line : DriverLine) → IsOf member.is.number None (Ok line) → Led member (reply_to tuning None line) (deeds_of_line tuning None line) (told_first line)
first_led tuning member (Script (lines.Board number cells workers seed)) is = (ap (λ (n : ℕ). opened_as n) is, refl) where
  opened_as : ℕ → Opened
  opened_as n = after_deeds (Opens tuning cells seed ∷ []) (record { is = record member.is { number = n }; random = member.random })
first_led tuning member (Script lines.Skip) is = (tt, refl)
first_led tuning member line is = search

pub said_led_at : (tuning : Tuning) (h : Host) (said : Result DriverLine Refusal) → Led (member_in h) (reply tuning (Some h) said) (deeds_said tuning (Some h) said) (told_said (Some h) said)
said_led_at tuning h (Ok line) = open_led tuning h line
said_led_at tuning h (Err e) = tt

pub first_led_at : (tuning : Tuning) (member : Opened) (said : Result DriverLine Refusal) → IsOf member.is.number None said → Led member (reply tuning None said) (deeds_said tuning None said) (told_said None said)
first_led_at tuning member (Ok line) is = first_led tuning member line is
first_led_at tuning member (Err e) is = tt

-- ---- what is there after a line, and what was printed

pub led_after : (s : Option Host) (member : Opened) (r : Reply) (deeds : List Deed) (told : List ℕ) → IsMemberAt member s → Led member r deeds told → IsMemberAt (after_deeds (deeds_by r deeds) member) (host_after s r)
led_after s member (prints next text) deeds told is led = led.0
led_after s member (denies e) deeds told is led = is

pub line_after : (tuning : Tuning) (s : Option Host) (member : Opened) (said : Result DriverLine Refusal) → IsOf member.is.number s said → IsMemberAt member s → IsMemberAt (after_deeds (deeds_by (reply tuning s said) (deeds_said tuning s said)) member) (host_after s (reply tuning s said))
line_after tuning None member said of is = led_after None member (reply tuning None said) (deeds_said tuning None said) (told_said None said) is (first_led_at tuning member said of)
line_after tuning (Some (Driven host board)) member said of is =
    let h : Host = Driven host board in
    led_after (Some h) member (reply tuning (Some h) said) (deeds_said tuning (Some h) said) (told_said (Some h) said) is (subst (λ (m : Opened). Led m (reply tuning (Some h) said) (deeds_said tuning (Some h) said) (told_said (Some h) said)) is (said_led_at tuning h said))
line_after tuning (Some (Kept k)) member said of is =
    let h : Host = Kept k in
    led_after (Some h) member (reply tuning (Some h) said) (deeds_said tuning (Some h) said) (told_said (Some h) said) is (subst (λ (m : Opened). Led m (reply tuning (Some h) said) (deeds_said tuning (Some h) said) (told_said (Some h) said)) is (said_led_at tuning h said))
