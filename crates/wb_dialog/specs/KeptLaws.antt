-- A self-managing host is a host whose driver hands in other lines: those of its policy.
use Rattle.std.specs.Prelude.{◌≡◌, ◌≤◌, ℕ, List, [], ◌∷◌, ◌++◌, Some, None}
use Rattle.wb_names.specs.declared.name.PageId.{PageId}
use Rattle.wb_names.specs.declared.parts.Op.{Op}
use Rattle.wb_codec.specs.declared.datagram.Datagram.{Datagram}
use Rattle.wb_codec.specs.declared.datagram.Datagram.TheVariants as datagrams
use Rattle.wb_board.specs.Counts.{MAX_CELLS}
use Rattle.wb_member.specs.Calls.{found_by}
use Rattle.wb_member.specs.Opened.{Opened, becomes}
use Rattle.wb_member.specs.declared.calls.Call.TheVariants as calls
use Rattle.wb_keeping.specs.Kept.{Arrives, Calls, Line, Says, adds, came, performs, ticks}
use Rattle.wb_keeping.specs.Performing.{Keeping, after_line, sees, sent_by_line}
use Rattle.wb_keeping.specs.Refusing.{add_fault, came_fault, tick_fault}
use Rattle.wb_commands.specs.SentLines.{found_text, sends_text}
use Rattle.wb_commands.specs.declared.command.Command.TheVariants as lines
use Rattle.wb_dialog.specs.declared.line.DriverLine.{DriverLine}
use Rattle.wb_commands.specs.declared.fault.LineFault.TheVariants as faults
use Rattle.wb_lines.specs.Input.{InputLine}
use Rattle.wb_words.specs.declared.adding.Adding.{Adding}
use Rattle.wb_recovery.specs.declared.tuning.Tuning.{Tuning}
use Rattle.wb_dialog.specs.declared.fault.Refusal.TheVariants as refusals
use Rattle.wb_dialog.specs.declared.line.DriverLine.TheVariants.{Script, Say, Add}
use Rattle.wb_dialog.specs.Dialog.{after, answer_at, batch_of}
use Rattle.wb_dialog.specs.Doing.{text_of}
use Rattle.wb_dialog.specs.Hosting.{Kept, denies, hosting_from, kept_reply, unopened, unsent_text}

-- the line of a driver that does the same
abbrev pub driver_line : Line → DriverLine
driver_line (Arrives d) = Script (lines.Arrive d)
driver_line (Calls call) = Script (lines.Call call)
driver_line (Says v) = Say v

-- what it prints beside the datagrams that it sends
abbrev pub told_said : Datagram → Opened → List ℕ
told_said (datagrams.Draw d) host = unsent_text (becomes d host)
told_said v host = []

abbrev pub told_by : Line → Opened → List ℕ
told_by (Arrives d) host = batch_of (becomes d host)
told_by (Calls call) host = found_text (found_by call host)
told_by (Says v) host = told_said v host

-- A host that its driver hands these lines comes to the same hosts, and prints a `send` line for each datagram of theirs.
abbrev pub IsDrivenBy : List Line → Opened → Type 0
IsDrivenBy [] host = Unit {0}
IsDrivenBy (line ∷ lines') host =
    let a = answer_at (driver_line line) host in
    (after (Some host) a ≡ Some (after_line line host)) × (text_of a ≡ sends_text (sent_by_line line host) ++ told_by line host) × IsDrivenBy lines' (after_line line host)

-- So it is with the lines of each call that a self-managing host does not refuse.
pub record KeptIsDriven : Type 0 where
  pub ticked : (k : Keeping) (now : ℕ) → tick_fault now k ≡ None → IsDrivenBy (ticks now (sees k.host) k.policy).lines k.host
  pub took : (k : Keeping) (now : ℕ) (v : Datagram) → came_fault now v k ≡ None → IsDrivenBy (came now v (sees k.host) k.policy).lines k.host
  pub tuned : (k : Keeping) (constants : Tuning) → IsDrivenBy (performs (Calls (calls.Tune constants)) (sees k.host) k.policy).lines k.host
  pub drew : (k : Keeping) (now : ℕ) (page : PageId) (time : ℕ) (op : Op) → add_fault now page time op k ≡ None → IsDrivenBy (adds now page time op (sees k.host) k.policy).lines k.host

-- On a board of no more cells than a line can tell no drawing is refused as too many, whatever was handed in
-- before.
abbrev pub AddIsNotTooMany : Type 0
AddIsNotTooMany = (tuning : Tuning) (before : List InputLine) (adding : Adding) (k : Keeping) → (hosting_from (unopened tuning) before).host ≡ Some (Kept k) → k.host.is.cells ≤ MAX_CELLS
    → kept_reply (Add adding) k ≡ denies (refusals.Line faults.TooMany) → ⊥
