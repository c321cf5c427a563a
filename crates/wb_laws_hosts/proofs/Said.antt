-- What is sent, and what is held, was said by its source.
use Rattle.std.proofs.Common.{◌≡◌, ℕ, List, [], ◌∷◌, Option, Some, None, Result, Ok, ap, refl, sym, subst, ◌∙◌, ⊎_elim}
use Rattle.std.specs.Prelude.{Contains}
use Rattle.wb_names.specs.Values.{DrawopValue}
use Rattle.wb_names.proofs.Listings.{Contains-none}
use Rattle.wb_codec.specs.declared.datagram.Datagram.{Datagram}
use Rattle.wb_codec.specs.declared.datagram.Datagram.TheVariants.{Draw}
use Rattle.wb_recovery.specs.declared.tuning.Tuning.{Tuning}
use Rattle.wb_lines.specs.Taking.{met}
use Rattle.wb_member.specs.Lines.{Says}
use Rattle.wb_member.specs.Opened.{Opened}
use Rattle.wb_commands.specs.declared.command.Command.TheVariants as lines
use Rattle.wb_dialog.specs.declared.fault.Refusal.{Refusal}
use Rattle.wb_dialog.specs.declared.line.DriverLine.{DriverLine}
use Rattle.wb_dialog.specs.declared.line.DriverLine.TheVariants.{Script}
use Rattle.wb_dialog.specs.Dialog.{says_line}
use Rattle.wb_dialog.specs.Hosting.{Host, Driven, Kept, Hosting, reply}
use Rattle.wb_laws_sessions.specs.Drawn.{WasDrawn, drawn_at}
use Rattle.wb_laws_sessions.specs.Sessions.{Step, host_at, sent, sent_by_deeds, steps_then}
use Rattle.wb_laws_sessions.specs.Members.{Deed, Does, member, Opens}
use Rattle.wb_laws_sessions.proofs.Drawn.{held_was_drawn, names_mean_one, once_held_was_drawn}
use Rattle.wb_laws_sessions.proofs.Sending.{one_of}
use Rattle.wb_laws_sessions.proofs.Sent.{sent_was_held}
use Rattle.wb_laws_sessions.proofs.Several.{DrawnThen, drawn_then, sent_then}
use Rattle.wb_laws_hosts.specs.Laws.{HeldWasSaid, IsOpenHost, SentOnce, SentWasSaid, WasSaid, WasSentByLine}
use Rattle.wb_laws_hosts.specs.Texts.{TextEvent, EventAt, HaveNumbers, IsMemberAt, Starts, Takes, deeds_at, deeds_by, deeds_of_event, deeds_said, hosting_at, sent_at_host, steps_of_texts}
use Rattle.wb_laws_hosts.proofs.TextSessions.{older_numbered, texts_are_sessions, texts_behind}
use Rattle.wb_laws_machines.proofs.Traces.{sent_later}
use Rattle.wb_laws_machines.specs.Machines.{part, whole}

-- ---- what lines send is sent by their steps

open_sends : (h : Option Host) (member : Opened) (deeds : List Deed) (v : Datagram) → IsMemberAt member h → Contains (sent_at_host h deeds) v → Contains (sent_by_deeds deeds member) v
open_sends None member deeds v is c = absurd (Contains-none v c)
open_sends (Some (Driven host board)) member deeds v is c = subst (λ (m : Opened). Contains (sent_by_deeds deeds m) v) is c
open_sends (Some (Kept k)) member deeds v is c = subst (λ (m : Opened). Contains (sent_by_deeds deeds m) v) is c

module _ (numbers : ℕ → ℕ) where
  pub was_sent : (events : List EventAt) → HaveNumbers numbers events → (v : Datagram) → WasSentByLine events v → Contains (sent numbers (steps_of_texts events)) v
  was_sent events numbered v w =
      let now : List EventAt = w.e ∷ w.older in
      let there : HaveNumbers numbers now = older_numbered numbers w.behind numbered in
      let deeds = deeds_at (hosting_at w.older w.e.place) w.line in
      let by = open_sends (hosting_at w.older w.e.place).host (host_at numbers (steps_of_texts w.older) w.e.place) deeds v (texts_are_sessions numbers w.older there.1 w.e.place) w.out in
      let here : Contains (sent numbers (steps_of_texts now)) v = subst (λ (e : TextEvent). Contains (sent numbers (steps_then 0 w.e.place (deeds_of_event e (hosting_at w.older w.e.place)) (steps_of_texts w.older))) v) (sym w.takes)
      (sent_then numbers 0 w.e.place deeds (steps_of_texts w.older) v by) in
      sent_later member numbers v (texts_behind w.behind) here

  -- ---- what was drawn was said

  longer : (events : List EventAt) (e : EventAt) (d : DrawopValue) → WasSaid numbers events d → WasSaid numbers (e ∷ events) d
  longer events e d w = record {
    sent = record { e = w.sent.e; older = w.sent.older; behind = part w.sent.behind; line = w.sent.line; takes = w.sent.takes; out = w.sent.out };
    source = w.source;
    said = w.said;
  }

  -- before a board is open nothing is said
  first_none : (tuning : Tuning) (said : Result DriverLine Refusal) (v : Datagram) → Contains (deeds_by (reply tuning None said) (deeds_said tuning None said)) (Does (Says v)) → ⊥
  first_none tuning (Ok (Script (lines.Board member cells workers seed))) v c = let e = one_of (Opens tuning cells seed) (Does (Says v)) c in cc
  first_none tuning said v c = Contains-none (Does (Says v)) c

  sent_here : (tuning : Tuning) (s : Option Host) (said : Result DriverLine Refusal) (member : Opened) (v : Datagram) → IsMemberAt member s
      → let deeds = deeds_by (reply tuning s said) (deeds_said tuning s said) in Contains deeds (Does (Says v)) → Contains (sent_by_deeds deeds member) v → Contains (sent_at_host s deeds) v
  sent_here tuning None said member v is by c = absurd (first_none tuning said v by)
  sent_here tuning (Some (Driven host board)) said member v is by c = subst (λ (m : Opened). Contains (sent_by_deeds (deeds_by (reply tuning (Some (Driven host board)) said) (deeds_said tuning (Some (Driven host board)) said)) m) v) (sym is) c
  sent_here tuning (Some (Kept k)) said member v is by c = subst (λ (m : Opened). Contains (sent_by_deeds (deeds_by (reply tuning (Some (Kept k)) said) (deeds_said tuning (Some (Kept k)) said)) m) v) (sym is) c

  pub drawn_was_said : (events : List EventAt) → HaveNumbers numbers events → (k : ℕ) (d : DrawopValue) → d.name.source ≡ numbers k → Contains (drawn_at numbers (steps_of_texts events) k) d → WasSaid numbers events d
  drawn_was_said [] numbered k d own c = absurd (Contains-none d c)
  drawn_was_said (e ∷ older) numbered k d own c = ⊎_elim
      (λ (now : DrawnThen numbers 0 e.place (deeds_of_event e.event s) (steps_of_texts older) k d). by e.event refl now)
      (λ (before : Contains (drawn_at numbers (steps_of_texts older) k) d). longer older e d (drawn_was_said older numbered.1 k d own before))
      (drawn_then numbers 0 e.place (deeds_of_event e.event s) (steps_of_texts older) k d c) where
        s : Hosting
        s = hosting_at older e.place

        by : (event : TextEvent) → e.event ≡ event → DrawnThen numbers 0 e.place (deeds_of_event event s) (steps_of_texts older) k d → WasSaid numbers (e ∷ older) d
        by (Starts tuning) is now = absurd (Contains-none (Does (Says (Draw d))) now.said)
        by (Takes line) is now = record {
          sent = record {
            e = e;
            older = older;
            behind = whole;
            line = line;
            takes = is;
            out = sent_here s.tuning s.host (says_line (met line)) (host_at numbers (steps_of_texts older) e.place) (Draw d) (texts_are_sessions numbers older numbered.1 e.place) now.said now.sent;
          };
          source = own ∙ ap numbers (sym now.here);
          said = now.said;
        }

  was_drawn_said : (events : List EventAt) → HaveNumbers numbers events → (d : DrawopValue) → WasDrawn numbers (steps_of_texts events) d → WasSaid numbers events d
  was_drawn_said events numbered d (k, own, c) = drawn_was_said events numbered k d (sym own) c

-- an open host is the member at its place
pub open_is : (h : Option Host) (member host : Opened) → IsMemberAt member h → IsOpenHost h host → host ≡ member
open_is None member host is it = absurd it
open_is (Some (Driven other board)) member host is it = sym it ∙ is
open_is (Some (Kept k)) member host is it = sym it ∙ is

pub sent_was_said : SentWasSaid
sent_was_said numbers events numbered honest d w =
    let steps = steps_of_texts events in
    was_drawn_said numbers events numbered d (once_held_was_drawn numbers steps honest d (sent_was_held numbers steps d (was_sent numbers events numbered (Draw d) w)))

pub held_was_said : HeldWasSaid
held_was_said numbers events numbered honest i host it d c =
    let steps = steps_of_texts events in
    let same : host ≡ host_at numbers steps i = open_is (hosting_at events i).host (host_at numbers steps i) host (texts_are_sessions numbers events numbered i) it in
    was_drawn_said numbers events numbered d (held_was_drawn numbers steps honest i d (subst (λ (h : Opened). Contains h.is.held d) same c))

pub sent_once : SentOnce
sent_once numbers events apart numbered honest d e one other same =
    let steps = steps_of_texts events in
    names_mean_one numbers steps apart honest d e
    (once_held_was_drawn numbers steps honest d (sent_was_held numbers steps d (was_sent numbers events numbered (Draw d) one)))
    (once_held_was_drawn numbers steps honest e (sent_was_held numbers steps e (was_sent numbers events numbered (Draw e) other))) same
