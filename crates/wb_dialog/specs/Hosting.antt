-- What a host without a judge does for the lines of a driver, whether its driver judges or it is self-managing, and what is written for them.
use Rattle.std.specs.Prelude.{ℕ, ◌<◌, ◌≤◌, ◌⊎◌, List, [], ◌∷◌, ◌++◌, length, Contains, Bool, true, false, nat_lt, Option, Some, None, Result, Ok, Err, if◌then◌else◌}
use Rattle.std.specs.List.{concat}
use Rattle.wb_names.specs.Arrivals.{Outcome, New, Again, Clash, Left}
use Rattle.wb_names.specs.declared.fault.FieldFault.{FieldFault}
use Rattle.wb_names.specs.declared.moment.TheConstants.{MOMENT_LIMIT}
use Rattle.wb_codec.specs.declared.datagram.Datagram.{Datagram as DatagramValue}
use Rattle.wb_codec.specs.declared.datagram.Datagram.TheVariants as datagrams
use Rattle.wb_recovery.specs.declared.tuning.Tuning.{Tuning}
use Rattle.wb_member.specs.Opened.{Opened, next_due, present}
use Rattle.wb_member.specs.declared.calls.Call.TheVariants as calls
use Rattle.wb_keeping.specs.Calls.{KeptLine, became_of, doing_of, fault_of}
use Rattle.wb_keeping.specs.Calls as kept_lines
use Rattle.wb_keeping.specs.Kept.{Calls, Transition, performs}
use Rattle.wb_keeping.specs.Performing.{Keeping, after_doing, due as kept_due, sent_by_doing}
use Rattle.wb_policy.specs.Policy.{begun}
use Rattle.wb_keeping.specs.declared.kept_fault.KeptFault.{KeptFault}
use Rattle.wb_keeping.specs.declared.kept_fault.KeptFault.TheVariants as kept_faults
use Rattle.wb_lines.specs.Input.{InputLine, input_lines}
use Rattle.wb_lines.specs.Handling.{Met}
use Rattle.wb_lines.specs.Taking.{met, most_passed}
use Rattle.wb_words.specs.declared.adding.Adding.{Adding}
use Rattle.wb_words.specs.declared.fault.WordFault.TheVariants as word_faults
use Rattle.wb_commands.specs.SentLines.{sends_text}
use Rattle.wb_commands.specs.declared.command.Command.{Command}
use Rattle.wb_commands.specs.declared.command.Command.TheVariants as lines
use Rattle.wb_commands.specs.declared.fault.LineFault.TheVariants as faults
use Rattle.wb_dialog.specs.declared.fault.Refusal.{Refusal}
use Rattle.wb_dialog.specs.declared.fault.Refusal.TheVariants as refusals
use Rattle.wb_dialog.specs.declared.line.DriverLine.{DriverLine}
use Rattle.wb_dialog.specs.declared.line.DriverLine.TheVariants.{Script, Say, Keep, Came, Add}
use Rattle.wb_dialog.specs.Boards.{BoardValue}
use Rattle.wb_dialog.specs.Dialog.{Answer, gives, refuses, answer_at, answer_first, batch_of, ok_line, refused_line, says_line, answered_lines}

-- A host, once its board is open. If its driver judges, it may become self-managing, with the board that it opened, until a line
-- that acts was taken. If it is self-managing, it has a policy.
pub data Host : Type 0 where
  Driven : Opened → (board : Option BoardValue) → Host
  Kept : Keeping → Host

-- What a line does: it leads to a host, once a board was opened, and a text is printed; or it is refused.
pub data Reply : Type 0 where
  prints : Option Host → List ℕ → Reply
  denies : Refusal → Reply

-- ---- a host that its driver drives

-- A line that acts: after such a one a host can't become self-managing, and one that is takes none.
abbrev pub acts_in_script : Command → Bool
acts_in_script (lines.Arrive d) = true
acts_in_script (lines.Call (calls.Tick now)) = false
acts_in_script (lines.Call call) = true
acts_in_script line = false

abbrev pub is_acting : DriverLine → Bool
is_acting (Script line) = acts_in_script line
is_acting (Say v) = true
is_acting (Keep rate listen) = true
is_acting line = false

-- the board with which it may become self-managing after a line
abbrev pub board_after : DriverLine → Option BoardValue → Option BoardValue
board_after line board = if is_acting line then None else board

abbrev pub driven_host : Option BoardValue → Option Opened → Option Host
driven_host board None = None
driven_host board (Some host) = Some (Driven host board)

abbrev pub as_driven : Option BoardValue → Answer → Reply
as_driven board (gives next text) = prints (driven_host board next) text
as_driven board (refuses e) = denies e

-- From now on it is self-managing.
abbrev pub begins : ℕ → ℕ → Opened → Option BoardValue → Reply
begins rate listen host None = denies refusals.TooLate
begins rate listen host (Some board) = prints (Some (Kept (record { host = host; policy = begun (present host) rate listen board.seed }))) []

-- ---- a self-managing host

-- A drawing that has its number now: its target, at this place among its words, is itself.
abbrev pub wrong_target : ℕ → FieldFault → Refusal
wrong_target place fault = refusals.Line (faults.Word (record { place = place; fault = word_faults.Field fault }))

-- Why a line is refused, by why its host refuses it, and by where the target of a drawing stands. Of a moment it knows one fault.
abbrev pub kept_refusal : ℕ → KeptFault → Refusal
kept_refusal place (kept_faults.Host fault) = refusals.Line faults.BackInTime
kept_refusal place kept_faults.Listening = refusals.Listening
kept_refusal place kept_faults.Ours = refusals.Ours
kept_refusal place kept_faults.Numbers = refusals.Line faults.TooMany
kept_refusal place (kept_faults.Operation fault) = wrong_target place fault

-- where the target of a drawing stands whose time the driver tells
abbrev pub timed_target : ℕ
timed_target = 6

-- It does what a transition says, and prints what that sends, and then a text; or it refuses the line.
abbrev pub kept_does : Option KeptFault → Transition → List ℕ → Keeping → Reply
kept_does (Some fault) does text k = denies (kept_refusal timed_target fault)
kept_does None does text k = prints (Some (Kept (after_doing does k))) (sends_text (sent_by_doing does k) ++ text)

-- a drawop that came in is a batch of its own
abbrev pub came_text : DatagramValue → Outcome → List ℕ
came_text (datagrams.Draw d) outcome = batch_of outcome
came_text (datagrams.Session sender sent page marks echoes) outcome = []
came_text (datagrams.Request asker name) outcome = []
came_text (datagrams.AskPages asker) outcome = []
came_text (datagrams.PageState sender page marks) outcome = []

-- why a drawing was not sent
abbrev pub unsent_text : Outcome → List ℕ
unsent_text (New place) = []
unsent_text (Again place) = []
unsent_text (Clash place) = batch_of (Clash place)
unsent_text Left = batch_of Left

-- the batch that is printed last: that of a drawop which came in, or of a drawing that is not sent
abbrev pub kept_batch : KeptLine → Outcome → List ℕ
kept_batch (kept_lines.Came now v) outcome = came_text v outcome
kept_batch (kept_lines.Ticked now) outcome = []
kept_batch (kept_lines.Added now page time op) outcome = unsent_text outcome
kept_batch (kept_lines.Tuned constants) outcome = []

abbrev pub kept_performs : KeptLine → Keeping → Reply
kept_performs line k = kept_does (fault_of line k) (doing_of line) (kept_batch line (became_of line k.host)) k

-- Its timers are given other constants.
abbrev pub kept_tunes : Tuning → Keeping → Reply
kept_tunes constants k = kept_does None (performs (Calls (calls.Tune constants))) [] k

abbrev pub kept_adds : Adding → Keeping → Reply
kept_adds a k = kept_performs (kept_lines.Added a.moment a.page a.time a.op) k

-- What it is asked, it answers as any host, and is not changed by that.
abbrev pub kept_shows : Keeping → Answer → Reply
kept_shows k (gives next text) = prints (Some (Kept k)) text
kept_shows k (refuses e) = denies e

-- A line that acts is for its driver to judge no more, but for one that gives the timers other constants.
abbrev pub kept_reply : DriverLine → Keeping → Reply
kept_reply (Script (lines.Call (calls.Tick now))) k = kept_performs (kept_lines.Ticked now) k
kept_reply (Script (lines.Call (calls.Tune constants))) k = kept_tunes constants k
kept_reply (Came now v) k = kept_performs (kept_lines.Came now v) k
kept_reply (Add adding) k = kept_adds adding k
kept_reply line k = if is_acting line then denies refusals.Kept else kept_shows k (answer_at line k.host)

-- ---- one line

-- the board that a line opens
abbrev pub board_in : DriverLine → Option BoardValue
board_in (Script (lines.Board member cells workers seed)) = Some (record { member = member; cells = cells; seed = seed })
board_in line = None

-- what a line does that does not begin to keep the host
abbrev pub taken_by : DriverLine → Host → Reply
taken_by line (Driven host board) = as_driven (board_after line board) (answer_at line host)
taken_by line (Kept k) = kept_reply line k

abbrev pub taken_reply : Tuning → Option Host → DriverLine → Reply
taken_reply tuning None line = as_driven (board_in line) (answer_first tuning line)
taken_reply tuning (Some h) line = taken_by line h

-- It becomes self-managing, if it may.
abbrev pub keep_reply : ℕ → ℕ → Option Host → Reply
keep_reply rate listen None = denies (refusals.Line faults.NoBoard)
keep_reply rate listen (Some (Driven host board)) = begins rate listen host board
keep_reply rate listen (Some (Kept k)) = denies refusals.Kept

abbrev pub reply_to : Tuning → Option Host → DriverLine → Reply
reply_to tuning s (Keep rate listen) = keep_reply rate listen s
reply_to tuning s line = taken_reply tuning s line

abbrev pub reply : Tuning → Option Host → Result DriverLine Refusal → Reply
reply tuning s (Ok line) = reply_to tuning s line
reply tuning s (Err e) = denies e

-- ---- blocks

-- a moment that a line can tell
abbrev pub in_time : ℕ → Option ℕ
in_time moment = if nat_lt moment MOMENT_LIMIT then Some moment else None

-- the next moment at which it has something to do
abbrev pub due_at : Option Host → Option ℕ
due_at None = None
due_at (Some (Driven host board)) = next_due host
due_at (Some (Kept k)) = in_time (kept_due k)

-- what is printed for a line, and one line more, which closes it
abbrev pub block_of : Reply → List ℕ
block_of (prints s text) = text ++ ok_line (due_at s)
block_of (denies e) = refused_line e

-- the host after a line: if it is refused, the one before
abbrev pub host_after : Option Host → Reply → Option Host
host_after s (prints t text) = t
host_after s (denies e) = s

-- ---- a transcript

-- the constants of the timers, and the host, once a board was opened
pub record Hosting : Type 0 where
  pub tuning : Tuning
  pub host : Option Host

abbrev pub reply_of : Hosting → Met → Reply
reply_of s m = reply s.tuning s.host (says_line m)

abbrev pub hosting_after : Hosting → Reply → Hosting
hosting_after s r = record { tuning = s.tuning; host = host_after s.host r }

-- the blocks of lines, in their order, from a host on
abbrev pub blocks_from : Hosting → List InputLine → List (List ℕ)
blocks_from s [] = []
blocks_from s (line ∷ lines) = block_of (reply_of s (met line)) ∷ blocks_from (hosting_after s (reply_of s (met line))) lines

-- the host after lines
abbrev pub hosting_from : Hosting → List InputLine → Hosting
hosting_from s [] = s
hosting_from s (line ∷ lines) = hosting_from (hosting_after s (reply_of s (met line))) lines

-- no board is open
abbrev pub unopened : Tuning → Hosting
unopened tuning = record { tuning = tuning; host = None }

-- what is written for an input, which is cut off if reading fails after it
abbrev pub transcript : Tuning → Bool → List ℕ → List ℕ
transcript tuning cut input = concat (blocks_from (unopened tuning) (answered_lines cut (input_lines input)))

-- An input has no end that a host waits for: there are more lines than these, or one that is too long to pass over.
abbrev pub IsEndless : ℕ → List InputLine → Type 0
IsEndless most lines = (most < length lines) ⊎ ((line : InputLine) × Contains lines line × (most_passed ≤ length line.bytes))
