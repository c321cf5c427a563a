-- Sessions of hosts that are driven by texts: what each line of an input makes of the host at its
-- place, and which deeds of a member that is. A host may be driven by its driver, or self-managing.
use Rattle.std.specs.Prelude.{◌≡◌, ℕ, List, [], ◌∷◌, ◌++◌, Contains, map, Option, Some, None, Result, Ok, Err, nat_eq, if◌then◌else◌}
use Rattle.wb_codec.specs.declared.datagram.Datagram.{Datagram}
use Rattle.wb_recovery.specs.declared.tuning.Tuning.{Tuning}
use Rattle.wb_lines.specs.Input.{InputLine}
use Rattle.wb_lines.specs.Taking.{met}
use Rattle.wb_commands.specs.declared.command.Command.{Command}
use Rattle.wb_commands.specs.declared.command.Command.TheVariants as lines
use Rattle.wb_commands.specs.SentLines.{send_line}
use Rattle.wb_member.specs.Lines.{Arrives, Calls, Says}
use Rattle.wb_member.specs.Opened.{Opened}
use Rattle.wb_member.specs.declared.calls.Call.TheVariants as calls
use Rattle.wb_keeping.specs.Kept.{Transition, adds, came, performs, ticks}
use Rattle.wb_keeping.specs.Performing.{Keeping, sees}
use Rattle.wb_dialog.specs.declared.fault.Refusal.{Refusal}
use Rattle.wb_dialog.specs.declared.line.DriverLine.{DriverLine}
use Rattle.wb_dialog.specs.declared.line.DriverLine.TheVariants as driver
use Rattle.wb_dialog.specs.Dialog.{says_line}
use Rattle.wb_dialog.specs.Hosting.{Host, Driven, Kept, Hosting, Reply, prints, denies, hosting_after, reply_of, unopened}
use Rattle.wb_laws_sessions.specs.Sessions.{Step, host_at, sent_by_deeds, steps_then}
use Rattle.wb_laws_sessions.specs.Members.{Deed, Does, Opens}
use Rattle.wb_laws_machines.specs.Machines.{◌⊑◌}

-- A process starts, and the one before it at its place is gone; or it is handed a line.
pub data TextEvent : Type 0 where
  Starts : (tuning : Tuning) → TextEvent
  Takes : (line : InputLine) → TextEvent

pub record EventAt : Type 0 where
  pub place : ℕ
  pub event : TextEvent

abbrev pub hosting_after_event : TextEvent → Hosting → Hosting
hosting_after_event (Starts tuning) s = unopened tuning
hosting_after_event (Takes line) s = hosting_after s (reply_of s (met line))

-- the host at a place after events, of which the newest is the first
abbrev pub hosting_at : List EventAt → ℕ → Hosting
hosting_at [] i = unopened (record { c1 = 2; c2 = 2; d1 = 1; d2 = 1 })
hosting_at (e ∷ older) i =
    if nat_eq e.place i then hosting_after_event e.event (hosting_at older i) else hosting_at older i

-- ---- the deeds of a line that is not refused

-- before a board is open
abbrev pub deeds_opening : Tuning → Command → List Deed
deeds_opening tuning (lines.Board member cells workers seed) = Opens tuning cells seed ∷ []
deeds_opening tuning line = []

abbrev pub deeds_first : Tuning → DriverLine → List Deed
deeds_first tuning (driver.Script line) = deeds_opening tuning line
deeds_first tuning line = []

-- at a host that its driver drives: a line that acts is one deed
abbrev pub deeds_in_script : Command → List Deed
deeds_in_script (lines.Arrive d) = Does (Arrives d) ∷ []
deeds_in_script (lines.Call call) = Does (Calls call) ∷ []
deeds_in_script line = []

abbrev pub deeds_driven : DriverLine → List Deed
deeds_driven (driver.Script line) = deeds_in_script line
deeds_driven (driver.Say v) = Does (Says v) ∷ []
deeds_driven line = []

-- at a self-managing host: the lines of its policy
abbrev pub deeds_doing : Transition → Keeping → List Deed
deeds_doing does k = map Does (does (sees k.host) k.policy).lines

abbrev pub kept_in_script : Command → Keeping → List Deed
kept_in_script (lines.Call (calls.Tick now)) k = deeds_doing (ticks now) k
kept_in_script (lines.Call (calls.Tune constants)) k = deeds_doing (performs (Calls (calls.Tune constants))) k
kept_in_script line k = []

abbrev pub deeds_kept : DriverLine → Keeping → List Deed
deeds_kept (driver.Script line) k = kept_in_script line k
deeds_kept (driver.Came now v) k = deeds_doing (came now v) k
deeds_kept (driver.Add a) k = deeds_doing (adds a.moment a.page a.time a.op) k
deeds_kept line k = []

abbrev pub deeds_of_line : Tuning → Option Host → DriverLine → List Deed
deeds_of_line tuning None line = deeds_first tuning line
deeds_of_line tuning (Some (Driven host board)) line = deeds_driven line
deeds_of_line tuning (Some (Kept k)) line = deeds_kept line k

-- a line that is refused is no deed
abbrev pub deeds_by : Reply → List Deed → List Deed
deeds_by (prints next text) deeds = deeds
deeds_by (denies e) deeds = []

abbrev pub deeds_said : Tuning → Option Host → Result DriverLine Refusal → List Deed
deeds_said tuning s (Ok line) = deeds_of_line tuning s line
deeds_said tuning s (Err e) = []

abbrev pub deeds_at : Hosting → InputLine → List Deed
deeds_at s line = deeds_by (reply_of s (met line)) (deeds_said s.tuning s.host (says_line (met line)))

abbrev pub deeds_of_event : TextEvent → Hosting → List Deed
deeds_of_event (Starts tuning) s = []
deeds_of_event (Takes line) s = deeds_at s line

-- ---- the session

-- No text has a time.
abbrev pub steps_of_texts : List EventAt → List Step
steps_of_texts [] = []
steps_of_texts (e ∷ older) =
    steps_then 0 e.place (deeds_of_event e.event (hosting_at older e.place)) (steps_of_texts older)

-- a board that is opened at a place is of the member there
abbrev pub IsOf : ℕ → Option Host → Result DriverLine Refusal → Type 0
IsOf number None (Ok (driver.Script (lines.Board member cells workers seed))) = member ≡ number
IsOf number s said = Unit {0}

abbrev pub IsNumbered : ℕ → TextEvent → Hosting → Type 0
IsNumbered number (Starts tuning) s = Unit {0}
IsNumbered number (Takes line) s = IsOf number s.host (says_line (met line))

abbrev pub HaveNumbers : (ℕ → ℕ) → List EventAt → Type 0
HaveNumbers numbers [] = Unit {0}
HaveNumbers numbers (e ∷ older) =
    IsNumbered (numbers e.place) e.event (hosting_at older e.place) × HaveNumbers numbers older

-- what is open at a place is this member
abbrev pub IsMemberAt : Opened → Option Host → Type 0
IsMemberAt member None = Unit {0}
IsMemberAt member (Some (Driven host board)) = host ≡ member
IsMemberAt member (Some (Kept k)) = k.host ≡ member

-- The host at each place is the member there, whether its driver drives it or it is self-managing,
-- through every start of its process.
abbrev pub TextsAreSessions : Type 0
TextsAreSessions = (numbers : ℕ → ℕ) (events : List EventAt) → HaveNumbers numbers events
    → (i : ℕ) → IsMemberAt (host_at numbers (steps_of_texts events) i) (hosting_at events i).host

-- ---- what a line sends

-- the datagrams of the deeds of a line, at the host that is open
abbrev pub sent_at_host : Option Host → List Deed → List Datagram
sent_at_host None deeds = []
sent_at_host (Some (Driven host board)) deeds = sent_by_deeds deeds host
sent_at_host (Some (Kept k)) deeds = sent_by_deeds deeds k.host

abbrev pub sent_for_line : Hosting → InputLine → List Datagram
sent_for_line s line = sent_at_host s.host (deeds_at s line)

-- a datagram comes out: at some point a line is handed in for which its `send` line is printed
pub record CameOut (events : List EventAt) (v : Datagram) : Type 0 where
  pub e : EventAt
  pub older : List EventAt
  pub behind : (e ∷ older) ⊑ events
  pub line : InputLine
  pub takes : e.event ≡ Takes line
  pub out : Contains (map send_line (sent_for_line (hosting_at older e.place) line)) (send_line v)
