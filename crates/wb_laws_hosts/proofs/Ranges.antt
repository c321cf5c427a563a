-- What a host of either kind holds is in range, after any lines.
use Rattle.std.proofs.Common.{◌≡◌, ◌<◌, ◌^◌, ℕ, Bool, true, false, cond, List, [], ◌∷◌, Option, Some, None, Result, Ok, Err, arith, ltb-true, map, refl, subst, sym, ⊎_elim}
use Rattle.std.specs.Prelude.{All, Contains, IfOk, nat_eq, nat_lt}
use Rattle.std.specs.Option.{option_map}
use Rattle.std.proofs.lemmas.List.Elements.{All-nil, All-contains}
use Rattle.wb_names.specs.Drawing.{op_fault}
use Rattle.wb_names.specs.Faults.{fault_unless, first_of}
use Rattle.wb_names.specs.declared.fault.FieldFault.{FieldFault}
use Rattle.wb_names.proofs.Faults.{first_none, unless_true}
use Rattle.wb_codec.specs.Ranges.{IsDatagram, IsDrawop}
use Rattle.wb_codec.specs.declared.datagram.Datagram.{Datagram}
use Rattle.wb_codec.specs.declared.datagram.Datagram.TheVariants as datagrams
use Rattle.wb_recovery.specs.declared.tuning.Tuning.{Tuning}
use Rattle.wb_lines.specs.Input.{InputLine}
use Rattle.wb_lines.specs.Taking.{met}
use Rattle.wb_member.specs.Lines.{Line, Says, Arrives, Calls}
use Rattle.wb_member.specs.Opened.{Opened, last_number}
use Rattle.wb_member.specs.declared.calls.Call.TheVariants as calls
use Rattle.wb_keeping.specs.Kept.{Transition, adds, came, drawing, ends_full, hears, ticks, timed, drew}
use Rattle.wb_keeping.specs.Performing.{Keeping, sees, view_of}
use Rattle.wb_keeping.specs.Refusing.{add_fault, came_fault, drawing_fault, tick_fault, waits_fault}
use Rattle.wb_keeping.specs.declared.kept_fault.KeptFault.{KeptFault}
use Rattle.wb_keeping.specs.declared.kept_fault.KeptFault.TheVariants.{Numbers, Operation}
use Rattle.wb_keeping.proofs.EachLine.{DoesEach, Each, OfPolicy, ends_each, hears_each, then_each, timed_each}
use Rattle.wb_commands.specs.declared.command.Command.{Command}
use Rattle.wb_commands.specs.declared.command.Command.TheVariants as lines
use Rattle.wb_words.specs.declared.adding.Adding.{Adding}
use Rattle.wb_dialog.specs.declared.fault.Refusal.{Refusal}
use Rattle.wb_dialog.specs.declared.line.DriverLine.{DriverLine}
use Rattle.wb_dialog.specs.declared.line.DriverLine.TheVariants.{Script, Say, Keep, Came, Add}
use Rattle.wb_dialog.specs.Dialog.{says_line}
use Rattle.wb_dialog.specs.Hosting.{Host, Driven, Kept, Hosting, Reply, prints, denies, host_after, hosting_after, hosting_from, kept_does, kept_reply, reply, reply_of, reply_to, unopened}
use Rattle.wb_laws_sessions.specs.Members.{drawn_by, Deed, Does, after_deed}
use Rattle.wb_laws_sessions.specs.Sessions.{after_deeds}
use Rattle.wb_laws_sessions.proofs.Deeds.{ComesBy, deed_brings, deed_draws, number_after}
use Rattle.wb_laws_hosts.specs.Closings.{HoldsLines}
use Rattle.wb_laws_hosts.specs.Laws.{BoardsAreInRange, IsOpenHost}
use Rattle.wb_laws_hosts.specs.Texts.{TextEvent, EventAt, IsMemberAt, Starts, Takes, deeds_at, deeds_by, deeds_doing, deeds_driven, deeds_first, deeds_kept, deeds_of_line, deeds_said, hosting_after_event, hosting_at}
use Rattle.wb_laws_hosts.specs.Telling.{told_said}
use Rattle.wb_laws_hosts.proofs.DriverLines as drivers
use Rattle.wb_laws_hosts.proofs.DriverLines.{met_fits}
use Rattle.wb_laws_hosts.proofs.AddedLines.{IsAdding}
use Rattle.wb_laws_hosts.proofs.Lines.{led_after, member_in, said_led_at}
use Rattle.wb_laws_hosts.proofs.OneLines.{board_lines}
use Rattle.wb_laws_sessions.proofs.CallActs.{all_from}

-- ---- what a deed brings onto a board

abbrev pub BringsBy : Deed → Type 0
BringsBy (Does (Arrives d)) = IsDrawop d
BringsBy (Does (Says (datagrams.Draw d))) = IsDrawop d
BringsBy deed = Unit {0}

abbrev pub Brings : Line → Type 0
Brings line = BringsBy (Does line)

-- its number and what it holds are in range
pub record InRange (host : Opened) : Type 0 where
  pub me : host.is.number < 2 ^ 32
  pub board : All IsDrawop host.is.held

pub deed_in_range : (deed : Deed) (host : Opened) → BringsBy deed → InRange host → InRange (after_deed deed host)
deed_in_range deed host brings f = record {
  me = subst (λ (n : ℕ). n < 2 ^ 32) (sym (number_after deed host)) f.me;
  board = all_from IsDrawop (after_deed deed host).is.held (λ d c. ⊎_elim
      (λ (was : Contains host.is.held d). All-contains IsDrawop host.is.held d f.board was)
      (λ (comes : ComesBy deed host d). ⊎_elim
      (λ (arrives : deed ≡ Does (Arrives d)). subst BringsBy arrives brings)
      (λ (draws : Contains (drawn_by deed host) d). subst BringsBy (deed_draws deed host d draws).said brings)
      comes)
      (deed_brings deed host d c));
}

abbrev pub EachBrings : List Deed → Type 0
EachBrings [] = Unit {0}
EachBrings (deed ∷ deeds) = BringsBy deed × EachBrings deeds

deeds_in_range : (deeds : List Deed) (host : Opened) → EachBrings deeds → InRange host → InRange (after_deeds deeds host)
deeds_in_range [] host brings f = f
deeds_in_range (deed ∷ deeds) host brings f = deeds_in_range deeds (after_deed deed host) brings.1 (deed_in_range deed host brings.0 f)

performed_bring : (performed : List Line) → Each Brings performed → EachBrings (map Does performed)
performed_bring [] each = tt
performed_bring (line ∷ performed) each = (each.0, performed_bring performed each.1)

-- ---- lines of a driver

driven_brings : (line : DriverLine) → drivers.Fits line → EachBrings (deeds_driven line)
driven_brings (Script line) fit = script line fit where
  script : (line : Command) → drivers.Fits (Script line) → EachBrings (deeds_driven (Script line))
  script (lines.Arrive d) fit = (fit, tt)
  script (lines.Call call) fit = (tt, tt)
  script line fit = tt
driven_brings (Say v) fit = (says v fit, tt) where
  says : (v : Datagram) → IsDatagram v → Brings (Says v)
  says (datagrams.Draw d) fit = fit
  says v fit = tt
driven_brings line fit = tt

-- ---- lines of a policy

of_policy : OfPolicy Brings
of_policy = record {
  asks = λ name. tt;
  stops = λ name. tt;
  sets = λ source micros. tt;
  states = λ v page. tt;
  asks_pages = λ asker. tt;
  reports = λ sender sent page marks echoes. tt;
}

timed_brings : DoesEach Brings timed
timed_brings = timed_each Brings of_policy

came_brings : (now : ℕ) (v : Datagram) → IsDatagram v → DoesEach Brings (came now v)
came_brings now v fit see p = (
  tt,
  then_each Brings (hears v) timed
      (hears_each Brings of_policy (λ v. tt) v (λ d is. subst IsDatagram is fit)) timed_brings (λ (performed : List Line). see (Calls (calls.Tick now) ∷ performed)) p,
)

ticks_bring : (now : ℕ) → DoesEach Brings (ticks now)
ticks_bring now see p = (tt, timed_brings (λ (performed : List Line). see (Calls (calls.Tick now) ∷ performed)) p)

tail_none : (x : Option KeptFault) (rest : List (Option KeptFault)) → first_of (x ∷ rest) ≡ None → first_of rest ≡ None
tail_none None rest e = e
tail_none (Some f) rest e = absurd cc

mapped_none : (o : Option FieldFault) → option_map Operation o ≡ None → o ≡ None
mapped_none None e = refl
mapped_none (Some f) e = absurd cc

module _ (k : Keeping) (f : InRange k.host) where
  -- a drawing that is not refused
  drawn_in_range : (a : Adding) → IsAdding a → add_fault a.moment a.page a.time a.op k ≡ None → IsDrawop (drawing (view_of k.host) a.page a.time a.op)
  drawn_in_range a fit none =
      let faults = drawing_fault a.page a.time a.op k in
      let fault : faults ≡ None = first_none faults [] (tail_none (waits_fault a.moment k) (faults ∷ []) none) in
      let left = fault_unless (nat_lt (last_number a.page k.host) 4294967295) Numbers in
      let d = drawing (view_of k.host) a.page a.time a.op in
      let op = option_map Operation (op_fault d.name a.op) in
      let lt = ltb-true (last_number a.page k.host) 4294967295 (unless_true (nat_lt (last_number a.page k.host) 4294967295) Numbers (first_none left (op ∷ []) fault)) in
      record {
        name = record { source = f.me; page = fit.page; positive = omega arith; seq = omega (arith, lt) };
        time = omega arith;
        lawful = mapped_none (op_fault d.name a.op) (first_none op [] (tail_none left (op ∷ []) fault));
        target = fit.target;
      }

  adds_bring : (a : Adding) → IsAdding a → add_fault a.moment a.page a.time a.op k ≡ None → Each Brings (adds a.moment a.page a.time a.op (sees k.host) k.policy).lines
  adds_bring a fit none = (tt, (drawn_in_range a fit none, then_each Brings ends_full timed (ends_each Brings of_policy) timed_brings (λ (performed : List Line). sees k.host (Calls (calls.Tick a.moment) ∷ (Says (datagrams.Draw (drawing (view_of k.host) a.page a.time a.op)) ∷ performed))) (drew (drawing (view_of k.host) a.page a.time a.op) (sees k.host (Calls (calls.Tick a.moment) ∷ [])) k.policy)))

  -- nothing is asked of a line that is refused
  unless_denied : (fault : Option KeptFault) (doing : Transition) (text : List ℕ) → (fault ≡ None → Each Brings (doing (sees k.host) k.policy).lines) → EachBrings (deeds_by (kept_does fault doing text k) (deeds_doing doing k))
  unless_denied (Some fault) doing text brings = tt
  unless_denied None doing text brings = performed_bring (doing (sees k.host) k.policy).lines (brings refl)

  no_deeds : (r : Reply) → EachBrings (deeds_by r [])
  no_deeds (prints next text) = tt
  no_deeds (denies e) = tt

  kept_script_brings : (line : Command) → EachBrings (deeds_by (kept_reply (Script line) k) (deeds_kept (Script line) k))
  kept_script_brings (lines.Call (calls.Tick now)) = unless_denied (tick_fault now k) (ticks now) [] (λ none. ticks_bring now (sees k.host) k.policy)
  kept_script_brings (lines.Call (calls.Tune constants)) = (tt, tt)
  kept_script_brings (lines.Question query) = no_deeds (kept_reply (Script (lines.Question query)) k)
  kept_script_brings line = tt

  kept_brings : (line : DriverLine) → drivers.Fits line → EachBrings (deeds_by (kept_reply line k) (deeds_kept line k))
  kept_brings (Script line) fit = kept_script_brings line
  kept_brings (Came now v) fit = unless_denied (came_fault now v k) (came now v) _ (λ none. came_brings now v fit.1 (sees k.host) k.policy)
  kept_brings (Add a) fit = unless_denied (add_fault a.moment a.page a.time a.op k) (adds a.moment a.page a.time a.op) _ (adds_bring a fit)
  kept_brings line fit = tt

-- ---- a line of either kind

by_reply : (r : Reply) (deeds : List Deed) → EachBrings deeds → EachBrings (deeds_by r deeds)
by_reply (prints next text) deeds brings = brings
by_reply (denies e) deeds brings = tt

open_brings : (tuning : Tuning) (h : Host) (line : DriverLine) → InRange (member_in h) → drivers.Fits line → EachBrings (deeds_by (reply_to tuning (Some h) line) (deeds_of_line tuning (Some h) line))
open_brings tuning (Driven host board) line f fit = by_reply (reply_to tuning (Some (Driven host board)) line) (deeds_driven line) (driven_brings line fit)
open_brings tuning (Kept k) (Keep rate listen) f fit = tt
open_brings tuning (Kept k) line f fit = kept_brings k f line fit

-- ---- hosts after lines

abbrev pub Holds : Option Host → Type 0
Holds None = Unit {0}
Holds (Some (Driven host board)) = InRange host
Holds (Some (Kept k)) = InRange k.host

is_held : (h : Option Host) (member : Opened) → IsMemberAt member h → InRange member → Holds h
is_held None member is f = tt
is_held (Some (Driven host board)) member is f = subst InRange (sym is) f
is_held (Some (Kept k)) member is f = subst InRange (sym is) f

-- a board that was just opened
first_holds : (tuning : Tuning) (line : DriverLine) → drivers.Fits line → Holds (host_after None (reply_to tuning None line))
first_holds tuning (Script (lines.Board member cells workers seed)) fit = record { me = fit.0; board = All-nil IsDrawop }
first_holds tuning line fit = tt

module _ (tuning : Tuning) where
  led_holds : (h : Host) (said : Result DriverLine Refusal) → InRange (member_in h) → EachBrings (deeds_by (reply tuning (Some h) said) (deeds_said tuning (Some h) said)) → IsMemberAt (member_in h) (Some h) → Holds (host_after (Some h) (reply tuning (Some h) said))
  led_holds h said f brings is =
      let r = reply tuning (Some h) said in
      let deeds = deeds_said tuning (Some h) said in
      is_held (host_after (Some h) r) (after_deeds (deeds_by r deeds) (member_in h))
      (led_after (Some h) (member_in h) r deeds (told_said (Some h) said) is (said_led_at tuning h said))
      (deeds_in_range (deeds_by r deeds) (member_in h) brings f)

  said_brings : (h : Host) (said : Result DriverLine Refusal) → InRange (member_in h) → IfOk said drivers.Fits → EachBrings (deeds_by (reply tuning (Some h) said) (deeds_said tuning (Some h) said))
  said_brings h (Ok line) f fit = open_brings tuning h line f fit
  said_brings h (Err e) f fit = tt

  pub said_holds : (s : Option Host) (said : Result DriverLine Refusal) → Holds s → IfOk said drivers.Fits → Holds (host_after s (reply tuning s said))
  said_holds None (Ok line) f fit = first_holds tuning line fit
  said_holds None (Err e) f fit = tt
  said_holds (Some (Driven host board)) said f fit = led_holds (Driven host board) said f (said_brings (Driven host board) said f fit) refl
  said_holds (Some (Kept k)) said f fit = led_holds (Kept k) said f (said_brings (Kept k) said f fit) refl

pub line_brings : (s : Hosting) (line : InputLine) → Holds s.host → EachBrings (deeds_at s line)
line_brings s line h = by s.host h where
  first_brings : (said : Result DriverLine Refusal) → EachBrings (deeds_by (reply s.tuning None said) (deeds_said s.tuning None said))
  first_brings (Err e) = tt
  first_brings (Ok line) = by_reply (reply s.tuning None (Ok line)) (deeds_of_line s.tuning None line) (opening line) where
    opening : (line : DriverLine) → EachBrings (deeds_first s.tuning line)
    opening (Script (lines.Board member cells workers seed)) = (tt, tt)
    opening line = tt

  by : (o : Option Host) → Holds o → EachBrings (deeds_by (reply s.tuning o (says_line (met line))) (deeds_said s.tuning o (says_line (met line))))
  by None h = first_brings (says_line (met line))
  by (Some (Driven host board)) h = said_brings s.tuning (Driven host board) (says_line (met line)) h (met_fits (met line))
  by (Some (Kept k)) h = said_brings s.tuning (Kept k) (says_line (met line)) h (met_fits (met line))

from_holds : (s : Hosting) (older : List InputLine) → Holds s.host → Holds (hosting_from s older).host
from_holds s [] h = h
from_holds s (line ∷ older) h = from_holds (hosting_after s (reply_of s (met line))) older (said_holds s.tuning s.host (says_line (met line)) h (met_fits (met line)))

event_holds : (e : TextEvent) (s : Hosting) → Holds s.host → Holds (hosting_after_event e s).host
event_holds (Starts tuning) s h = tt
event_holds (Takes line) s h = said_holds s.tuning s.host (says_line (met line)) h (met_fits (met line))

pub hosts_hold : (events : List EventAt) (i : ℕ) → Holds (hosting_at events i).host
hosts_hold [] i = tt
hosts_hold (e ∷ older) i = by (hosts_hold older i) (nat_eq e.place i) where
  by : Holds (hosting_at older i).host → (b : Bool) → Holds (cond b (hosting_after_event e.event (hosting_at older i)) (hosting_at older i)).host
  by rest true = event_holds e.event (hosting_at older i) rest
  by rest false = rest

-- ---- laws

in_range : (h : Option Host) (member : Opened) → Holds h → IsOpenHost h member → All IsDrawop member.is.held
in_range None member f is = absurd is
in_range (Some (Driven host board)) member f is = subst (λ (m : Opened). All IsDrawop m.is.held) is f.board
in_range (Some (Kept k)) member f is = subst (λ (m : Opened). All IsDrawop m.is.held) is f.board

pub boards_are_in_range : BoardsAreInRange
boards_are_in_range events i member is = in_range (hosting_at events i).host member (hosts_hold events i) is

holds_lines : (s : Option Host) → Holds s → HoldsLines s
holds_lines None h = tt
holds_lines (Some (Driven host board)) h = board_lines host.is.held h.board
holds_lines (Some (Kept k)) h = board_lines k.host.is.held h.board

pub hosts_hold_lines : (tuning : Tuning) (older : List InputLine) → HoldsLines (hosting_from (unopened tuning) older).host
hosts_hold_lines tuning older = holds_lines _ (from_holds (unopened tuning) older tt)

pub sessions_hold_lines : (events : List EventAt) (i : ℕ) → HoldsLines (hosting_at events i).host
sessions_hold_lines events i = holds_lines _ (hosts_hold events i)
