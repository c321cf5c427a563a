-- What a host prints for a line: a `send` line of each datagram that it sends, and then what else it
-- tells.
use Rattle.std.specs.Prelude.{◌≡◌, ℕ, List, [], ◌++◌, Option, Some, None, Result, Ok, Err, unwrap_or}
use Rattle.wb_codec.specs.declared.datagram.Datagram.{Datagram}
use Rattle.wb_codec.specs.declared.datagram.Datagram.TheVariants as datagrams
use Rattle.wb_lines.specs.Input.{InputLine}
use Rattle.wb_lines.specs.Taking.{met}
use Rattle.wb_commands.specs.Answers.{answer_text}
use Rattle.wb_commands.specs.SentLines.{found_text, sends_text}
use Rattle.wb_commands.specs.declared.command.Command.{Command}
use Rattle.wb_commands.specs.declared.command.Command.TheVariants as lines
use Rattle.wb_member.specs.Calls.{found_by}
use Rattle.wb_member.specs.Opened.{Opened, becomes}
use Rattle.wb_member.specs.Questions.{answer_to}
use Rattle.wb_member.specs.declared.questions.Query.{Query}
use Rattle.wb_keeping.specs.Performing.{Keeping}
use Rattle.wb_keeping.specs.Refusing.{came_as, drawn_as}
use Rattle.wb_dialog.specs.declared.fault.Refusal.{Refusal}
use Rattle.wb_dialog.specs.declared.line.DriverLine.{DriverLine}
use Rattle.wb_dialog.specs.declared.line.DriverLine.TheVariants.{Script, Say, Came, Add, Version}
use Rattle.wb_dialog.specs.Dialog.{batch_of, says_line, version_line}
use Rattle.wb_dialog.specs.Doing.{text_in}
use Rattle.wb_dialog.specs.Hosting.{Host, Driven, Kept, Hosting, Reply, prints, denies, came_text, reply_of, unsent_text}
use Rattle.wb_laws_hosts.specs.Texts.{sent_for_line}

-- what is printed for a question
abbrev pub answered : Query → Opened → List ℕ
answered query host = unwrap_or (answer_text (answer_to query host)) []

-- ---- at a host that its driver drives

abbrev pub told_in_script : Command → Opened → List ℕ
told_in_script (lines.Arrive d) host = batch_of (becomes d host)
told_in_script (lines.Call call) host = found_text (found_by call host)
told_in_script (lines.Question query) host = answered query host
told_in_script line host = []

abbrev pub told_saying : Datagram → Opened → List ℕ
told_saying (datagrams.Draw d) host = unsent_text (becomes d host)
told_saying v host = []

abbrev pub told_driven : DriverLine → Opened → List ℕ
told_driven (Script line) host = told_in_script line host
told_driven (Say v) host = told_saying v host
told_driven Version host = version_line
told_driven line host = []

-- ---- at a self-managing host

abbrev pub told_kept_script : Command → Keeping → List ℕ
told_kept_script (lines.Question query) k = answered query k.host
told_kept_script line k = []

abbrev pub told_kept : DriverLine → Keeping → List ℕ
told_kept (Script line) k = told_kept_script line k
told_kept (Came now v) k = came_text v (came_as v k.host)
told_kept (Add a) k = unsent_text (drawn_as a.page a.time a.op k.host)
told_kept Version k = version_line
told_kept line k = []

-- ---- before a board is open

abbrev pub told_first : DriverLine → List ℕ
told_first Version = version_line
told_first line = []

-- ---- at a host of any kind

abbrev pub told_of : Option Host → DriverLine → List ℕ
told_of None line = told_first line
told_of (Some (Driven host board)) line = told_driven line host
told_of (Some (Kept k)) line = told_kept line k

abbrev pub told_said : Option Host → Result DriverLine Refusal → List ℕ
told_said s (Ok line) = told_of s line
told_said s (Err e) = []

-- a line that is refused prints nothing before its block is closed
abbrev pub told_by : Reply → List ℕ → List ℕ
told_by (prints next text) told = told
told_by (denies e) told = []

abbrev pub told_at : Hosting → InputLine → List ℕ
told_at s line = told_by (reply_of s (met line)) (told_said s.host (says_line (met line)))

-- What is printed for a line is a `send` line of each datagram that it sends, and then what else it
-- tells. So all that is sent can be read off the blocks.
abbrev pub TextsTellSends : Type 0
TextsTellSends = (s : Hosting) (line : InputLine)
    → text_in (reply_of s (met line)) ≡ sends_text (sent_for_line s line) ++ told_at s line
