-- What the code does for a line, by what the line is to do.
use Rattle.std.specs.Prelude.{◌≡◌, ℕ, List, [], ◌++◌, Option, Some, None, Result, Ok, Err, Vec}
use Rattle.std.specs.Global.{Global}
use Rattle.std.specs.declared.convert.Infallible.{Infallible}
use Rattle.wb_recovery.specs.declared.tuning.Tuning.{Tuning}
use Rattle.wb_lines.specs.Input.{BeginsWith}
use Rattle.wb_lines.specs.declared.fault.DriveFault.{DriveFault}
use Rattle.wb_lines.specs.declared.fault.DriveFault.TheVariants as drive_faults
use Rattle.wb_member.specs.Opened.{Opened}
use Rattle.wb_keeper.specs.declared.keep_fault.KeepFault.TheVariants as keep_faults
use Rattle.wb_keeping.specs.Performing.{IsKeptAt, Keeping, KeptValue}
use Rattle.wb_keeping.specs.declared.kept_fault.KeptFault.{KeptFault}
use Rattle.wb_keeping.specs.declared.kept_fault.KeptFault.TheVariants as kept_faults
use Rattle.wb_judging.specs.Judged.{Judged}
use Rattle.wb_judging.specs.Performing.{IsJudgedAt, JudgedValue}
use Rattle.wb_judging.specs.declared.event.Event.{Event}
use Rattle.wb_judging.specs.declared.judged_fault.JudgedFault.{JudgedFault}
use Rattle.wb_judging.specs.declared.judged_fault.JudgedFault.TheVariants as judged_faults
use Rattle.wb_member.specs.Holding.{MemberValue, IsOpenAt, MayBeOpenAt}
use Rattle.wb_commands.specs.declared.fault.LineFault.{LineFault}
use Rattle.wb_dialog.specs.declared.fault.Refusal.TheVariants as refusals
use Rattle.wb_dialog.specs.declared.fault.Unanswered.{Unanswered}
use Rattle.wb_dialog.specs.declared.fault.Unanswered.TheVariants as unanswered
use Rattle.wb_dialog.specs.declared.fault.HostFault.{HostFault}
use Rattle.wb_dialog.specs.declared.fault.HostFault.TheVariants as host_faults
use Rattle.wb_dialog.specs.declared.line.DriverLine.{DriverLine}
use Rattle.wb_dialog.specs.declared.said.Said.{Said}
use Rattle.wb_dialog.specs.declared.said.Said.TheVariants as saids
use Rattle.wb_dialog.specs.declared.told.Told.{Told}
use Rattle.wb_dialog.specs.declared.told.Told.TheVariants.{Events}
use Rattle.wb_dialog.specs.declared.opened.Host.{Host as HostValue}
use Rattle.wb_dialog.specs.declared.opened.Host.TheVariants as values
use Rattle.wb_dialog.specs.Dialog.{Answer, gives, refuses}
use Rattle.wb_dialog.specs.Boards.{BoardValue}
use Rattle.wb_dialog.specs.Hosting.{Host, Driven, Kept, Reply, prints, denies, kept_refusal, kept_reply}
use Rattle.wb_dialog.specs.Judged.{Act, does, fails, drawn_target, judged_refusal}
use Rattle.wb_dialog.specs.Inside.Told.{Says}
use Rattle.wb_dialog.specs.Lines.{unjudged_line}
use Rattle.wb_dialog.specs.Kinds.{Kind, unjudged, judged, Response, answers, rejects, Standing, block_of, kind_after}

-- The constants of the timers, and the host, once its board is open.
pub record DialogValue : Type 0 where
  pub tuning : Tuning
  pub host : Option HostValue

-- Something was written after what waits, and this holds of it.
abbrev pub Adds : List ℕ → List ℕ → (List ℕ → Type 0) → Type 0
Adds before after holds = (written : List ℕ) × (after ≡ before ++ written) × holds written

-- ---- a member whose driver judges

-- the text of an answer before its block is closed
abbrev pub text_of : Answer → List ℕ
text_of (gives s text) = text
text_of (refuses e) = []

-- From a host on, it does what a line is to do, and has what that is to print; it refuses the line, and stays; or memory ran out.
abbrev pub DoesAnswer : Option Opened → Option MemberValue → Result Told Unanswered → Answer → Type 0
DoesAnswer s new (Ok told) (gives t text) = MayBeOpenAt new t × Says told text
DoesAnswer s new (Ok told) (refuses e) = ⊥
DoesAnswer s new (Err (unanswered.Refused f)) (gives t text) = ⊥
DoesAnswer s new (Err (unanswered.Refused f)) (refuses e) = (f ≡ e) × MayBeOpenAt new s
DoesAnswer s new (Err unanswered.Memory) a = Unit {0}

-- The same at each host at which an open member was.
abbrev pub DoesAt : MemberValue → MemberValue → Result Told Unanswered → (Opened → Answer) → Type 0
DoesAt old new result answer = (host : Opened) → IsOpenAt old host → DoesAnswer (Some host) (Some new) result (answer host)

-- It printed a text; or memory ran out, and it printed a front of it.
abbrev pub Prints : {U E : Type 0} → List ℕ → Result U E → List ℕ → Type 0
Prints written (Ok u) text = written ≡ text
Prints written (Err e) text = BeginsWith text written

-- the board of a driven host after a line, unless that was not taken
abbrev pub board_by : Result Told Unanswered → Option BoardValue → Option BoardValue → Option BoardValue
board_by (Ok told) board later = later
board_by (Err e) board later = board

-- ---- a host without a judge

-- which host the code is at
abbrev pub IsHostAt : HostValue → Host → Type 0
IsHostAt (values.Driven member board) (Driven host left) = IsOpenAt member host × (board ≡ left)
IsHostAt (values.Kept kept) (Kept k) = IsKeptAt kept k
IsHostAt (values.Driven member board) (Kept k) = ⊥
IsHostAt (values.Kept kept) (Driven host left) = ⊥
IsHostAt (values.Judged m) h = ⊥

abbrev pub MayBeAt : Option HostValue → Option Host → Type 0
MayBeAt None None = Unit {0}
MayBeAt (Some v) (Some h) = IsHostAt v h
MayBeAt None (Some h) = ⊥
MayBeAt (Some v) None = ⊥

-- the text of a reply before its block is closed
abbrev pub text_in : Reply → List ℕ
text_in (prints s text) = text
text_in (denies e) = []

-- From a host on, it does what a line is to do, and has what that is to print; it refuses the line, and stays; or memory ran out.
abbrev pub DoesReply : Option Host → Option HostValue → Result Told Unanswered → Reply → Type 0
DoesReply s new (Ok told) (prints t text) = MayBeAt new t × Says told text
DoesReply s new (Ok told) (denies e) = ⊥
DoesReply s new (Err (unanswered.Refused f)) (prints t text) = ⊥
DoesReply s new (Err (unanswered.Refused f)) (denies e) = (f ≡ e) × MayBeAt new s
DoesReply s new (Err unanswered.Memory) r = Unit {0}

-- The same at each host at which one was that is open.
abbrev pub DoesOpen : HostValue → HostValue → Result Told Unanswered → (Host → Reply) → Type 0
DoesOpen old new result reply = (h : Host) → IsHostAt old h → DoesReply (Some h) (Some new) result (reply h)

-- why a line is not done, by why a self-managing member does not do it, and by where the target of a drawing stands
abbrev pub unanswered_of : ℕ → KeptFault → Unanswered
unanswered_of place (kept_faults.Host keep_faults.Memory) = unanswered.Memory
unanswered_of place fault = unanswered.Refused (kept_refusal place fault)

-- The same at each host at which a self-managing member was.
abbrev pub DoesKept : KeptValue → KeptValue → Result Told Unanswered → (Keeping → Reply) → Type 0
DoesKept old new result reply = (k : Keeping) → IsKeptAt old k → DoesReply (Some (Kept k)) (Some (values.Kept new)) result (reply k)

-- what such a member replies to a line, by what that says
abbrev pub kept_said : Result DriverLine LineFault → Keeping → Reply
kept_said (Ok line) k = kept_reply line k
kept_said (Err e) k = denies (refusals.Line e)

abbrev pub kept_response : Said → Keeping → Reply
kept_response (saids.Judge line) k = denies refusals.Kept
kept_response said k = kept_said (unjudged_line said) k

-- ---- a judged member

-- why a line is not done, by why a judged member does not do it
abbrev pub unanswered_by_judged : JudgedFault → Unanswered
unanswered_by_judged (judged_faults.Kept fault) = unanswered_of drawn_target fault
unanswered_by_judged (judged_faults.Judge fault) = unanswered.Refused (judged_refusal (judged_faults.Judge fault))

-- what a call comes to
abbrev pub events_told : Result (Vec Event Global) JudgedFault → Result Told Unanswered
events_told (Ok events) = Ok (Events events)
events_told (Err fault) = Err (unanswered_by_judged fault)

-- From a judged member on, it does what a line is to do, and has what that is to print; it refuses the line, and stays; or memory
-- ran out.
abbrev pub DoesAct : Judged → JudgedValue → Result Told Unanswered → Act → Type 0
DoesAct h new (Ok told) (does next text) = IsJudgedAt new next × Says told text
DoesAct h new (Ok told) (fails e) = ⊥
DoesAct h new (Err (unanswered.Refused f)) (does next text) = ⊥
DoesAct h new (Err (unanswered.Refused f)) (fails e) = (f ≡ e) × IsJudgedAt new h
DoesAct h new (Err unanswered.Memory) a = Unit {0}

-- The same at each judged member at which the code was.
abbrev pub DoesJudged : JudgedValue → JudgedValue → Result Told Unanswered → (Judged → Act) → Type 0
DoesJudged old new result act = (h : Judged) → IsJudgedAt old h → DoesAct h new result (act h)

-- ---- a host of any kind

abbrev pub IsJudgedHost : Option HostValue → Judged → Type 0
IsJudgedHost (Some (values.Judged m)) h = IsJudgedAt m h
IsJudgedHost v h = ⊥

-- which host the code is at
abbrev pub IsKindAt : Option HostValue → Kind → Type 0
IsKindAt v (unjudged s) = MayBeAt v s
IsKindAt v (judged h) = IsJudgedHost v h

-- From a host on, it does what a line is to do, and has what that is to print; it refuses the line, and stays; or memory ran out.
abbrev pub Leads : Kind → Option HostValue → Result Told Unanswered → Response → Type 0
Leads s new (Ok told) (answers t text) = IsKindAt new t × Says told text
Leads s new (Ok told) (rejects e) = ⊥
Leads s new (Err (unanswered.Refused f)) (answers t text) = ⊥
Leads s new (Err (unanswered.Refused f)) (rejects e) = (f ≡ e) × IsKindAt new s
Leads s new (Err unanswered.Memory) r = Unit {0}

-- The same at each host at which one was.
abbrev pub LeadsFrom : Option HostValue → Option HostValue → Result Told Unanswered → (Kind → Response) → Type 0
LeadsFrom old new result response = (s : Kind) → IsKindAt old s → Leads s new result (response s)

-- The same at each judged member at which one was.
abbrev pub LeadsJudged : JudgedValue → HostValue → Result Told Unanswered → (Judged → Response) → Type 0
LeadsJudged old new result response = (h : Judged) → IsJudgedAt old h → Leads (judged h) (Some new) result (response h)

-- So it is at an open host, whatever the constants of the timers of a board that would be opened.
abbrev pub LeadsOpen : HostValue → HostValue → Result Told Unanswered → (Tuning → Kind → Response) → Type 0
LeadsOpen old new result response = (tuning : Tuning) → LeadsFrom (Some old) (Some new) result (response tuning)

-- It wrote a block, or memory ran out within it.
abbrev pub Blocks : {U E : Type 0} → Option HostValue → List ℕ → Result U E → Kind → Response → Type 0
Blocks new written (Ok u) next r = IsKindAt new next × (written ≡ block_of r)
Blocks new written (Err e) next r = BeginsWith (block_of r) written

-- The same at each host at which one was, by what it answers there.
abbrev pub BlocksAt : {U E : Type 0} → Option HostValue → Option HostValue → List ℕ → Result U E → (Kind → Response) → Type 0
BlocksAt old new written result response = (s : Kind) → IsKindAt old s → Blocks new written result (kind_after s (response s)) (response s)

-- A dialog has the constants of a standing, and its host is at that of the standing.
pub record IsAt (d : DialogValue) (s : Standing) : Type 0 where
  pub tuning : s.tuning ≡ d.tuning
  pub kind : IsKindAt d.host s.kind

-- the member of a self-managing host that is not judged, and that of a judged one
abbrev pub kept_in : Option HostValue → Option KeptValue
kept_in (Some (values.Kept kept)) = Some kept
kept_in v = None

abbrev pub judged_in : Option HostValue → Option JudgedValue
judged_in (Some (values.Judged m)) = Some m
judged_in v = None

-- This member is put into a host.
abbrev pub with_kept : KeptValue → DialogValue → DialogValue
with_kept kept d = record { tuning = d.tuning; host = Some (values.Kept kept) }

abbrev pub with_member : JudgedValue → DialogValue → DialogValue
with_member m d = record { tuning = d.tuning; host = Some (values.Judged m) }

-- why a host stopped, by why the driver of its lines did: no line stops one
abbrev pub fault_of : DriveFault Infallible → HostFault
fault_of (drive_faults.Line n e) = elim e [ ]
fault_of drive_faults.Read = host_faults.Read
fault_of drive_faults.Write = host_faults.Write
fault_of drive_faults.Memory = host_faults.Memory
fault_of drive_faults.Endless = host_faults.Endless

-- What was written: all of a text, if the input came to its end or to where reading failed; else a front of it.
abbrev pub Writes : {U : Type 0} → List ℕ → List ℕ → Result U HostFault → Type 0
Writes text written (Ok u) = written ≡ text
Writes text written (Err host_faults.Read) = written ≡ text
Writes text written (Err host_faults.Write) = BeginsWith text written
Writes text written (Err host_faults.Memory) = BeginsWith text written
Writes text written (Err host_faults.Endless) = BeginsWith text written
