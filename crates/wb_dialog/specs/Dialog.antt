-- What a host answers to the lines of a driver that judges for it. Hosting.antt, over this, says what a self-managing host does.
use Rattle.std.specs.Prelude.{ℕ, List, [], ◌∷◌, ◌++◌, Bool, nat_eq, Option, Some, None, Result, Ok, Err, if◌then◌else◌, codes, decimal}
use Rattle.std.specs.List.{concat}
use Rattle.wb_names.specs.Values.{DrawopValue}
use Rattle.wb_names.specs.Arrivals.{Outcome, New, Again, Clash, Left, counts_of}
use Rattle.wb_recovery.specs.declared.tuning.Tuning.{Tuning}
use Rattle.wb_codec.specs.declared.datagram.Datagram.{Datagram as DatagramValue}
use Rattle.wb_codec.specs.declared.datagram.Datagram.TheVariants as datagrams
use Rattle.std.specs.declared.convert.Infallible.{Infallible}
use Rattle.wb_lines.specs.Input.{InputLine, input_lines, content}
use Rattle.wb_lines.specs.Handling.{Met, whole, too_long, Step, goes}
use Rattle.wb_lines.specs.Taking.{met, is_taken}
use Rattle.wb_commands.specs.declared.command.Command.{Command}
use Rattle.wb_commands.specs.declared.command.Command.TheVariants as lines
use Rattle.wb_commands.specs.declared.fault.LineFault.TheVariants as faults
use Rattle.wb_commands.specs.Answers.{batch_line}
use Rattle.wb_commands.specs.SentLines.{send_line}
use Rattle.wb_commands.specs.Acts.{Act, does, fails, act}
use Rattle.wb_member.specs.Opened.{Opened, opened_with, becomes, accepted, next_due, by_host}
use Rattle.wb_dialog.specs.declared.line.TheConstants.{LINES_VERSION}
use Rattle.wb_dialog.specs.declared.line.DriverLine.{DriverLine}
use Rattle.wb_dialog.specs.declared.line.DriverLine.TheVariants.{Script, Say, Keep, Came, Add, Version}
use Rattle.wb_dialog.specs.declared.fault.Refusal.{Refusal}
use Rattle.wb_dialog.specs.declared.fault.Refusal.TheVariants as refusals
use Rattle.wb_dialog.specs.Refusals.{refusal_text}
use Rattle.wb_dialog.specs.Lines.{line_of}

-- What a line does: it leads to a host, once a board was opened, and a text is printed; or it is refused.
pub data Answer : Type 0 where
  gives : Option Opened → List ℕ → Answer
  refuses : Refusal → Answer

abbrev pub answered : Act → Answer
answered (does next text) = gives (Some next) text
answered (fails e) = refuses (refusals.Line e)

-- ---- what comes in

-- A drawop that comes in is a batch of its own.
abbrev pub batch_of : Outcome → List ℕ
batch_of outcome = batch_line (counts_of (outcome ∷ []))

abbrev pub arrives : DrawopValue → Opened → Answer
arrives d host = gives (Some (accepted d host)) (batch_of (becomes d host))

-- ---- what goes out

-- the member that a datagram names as its source, sender or asker
abbrev pub speaker : DatagramValue → ℕ
speaker (datagrams.Draw d) = d.name.source
speaker (datagrams.Session sender sent page marks echoes) = sender
speaker (datagrams.Request asker name) = asker
speaker (datagrams.AskPages asker) = asker
speaker (datagrams.PageState sender page marks) = sender

-- A drawop of ours is sent if it is new or held already. Else it is not, and its batch says why.
abbrev pub said_text : DrawopValue → Outcome → List ℕ
said_text d (New place) = send_line (datagrams.Draw d)
said_text d (Again place) = send_line (datagrams.Draw d)
said_text d (Clash place) = batch_of (Clash place)
said_text d Left = batch_of Left

-- A drawop is accepted before it is sent, and any other datagram is only sent.
abbrev pub goes_out : DatagramValue → Opened → Answer
goes_out (datagrams.Draw d) host = gives (Some (accepted d host)) (said_text d (becomes d host))
goes_out (datagrams.Session sender sent page marks echoes) host = gives (Some host) (send_line (datagrams.Session sender sent page marks echoes))
goes_out (datagrams.Request asker name) host = gives (Some host) (send_line (datagrams.Request asker name))
goes_out (datagrams.AskPages asker) host = gives (Some host) (send_line (datagrams.AskPages asker))
goes_out (datagrams.PageState sender page marks) host = gives (Some host) (send_line (datagrams.PageState sender page marks))

abbrev pub says : DatagramValue → Opened → Answer
says v host = if nat_eq (speaker v) host.is.number then goes_out v host else refuses refusals.Member

-- ---- what a driver asks of a host

-- what a line of a script does at an open host, or a question or a call that no script has
abbrev pub script_answer : Command → Opened → Answer
script_answer (lines.Arrive d) host = arrives d host
script_answer (lines.Board member cells workers seed) host = refuses (refusals.Line faults.SecondBoard)
script_answer line host = answered (act line host)

-- the number of the lines
abbrev pub version_line : List ℕ
version_line = codes "version " ++ (decimal LINES_VERSION ++ codes "\n")

-- ---- one line

-- what a line does at an open host
abbrev pub answer_at : DriverLine → Opened → Answer
answer_at (Script line) host = script_answer line host
answer_at (Say v) host = says v host
answer_at (Keep rate listen) host = refuses refusals.TooLate
answer_at (Came now v) host = refuses refusals.NotKept
answer_at (Add adding) host = refuses refusals.NotKept
answer_at Version host = gives (Some host) version_line

-- What a line does before a board is open: one is opened, the line is skipped, or it needs none.
abbrev pub opening : Tuning → Command → Answer
opening tuning (lines.Board member cells workers seed) = gives (Some (opened_with tuning member cells seed)) []
opening tuning lines.Skip = gives None []
opening tuning line = refuses (refusals.Line faults.NoBoard)

abbrev pub answer_first : Tuning → DriverLine → Answer
answer_first tuning (Script line) = opening tuning line
answer_first tuning Version = gives None version_line
answer_first tuning line = refuses (refusals.Line faults.NoBoard)

abbrev pub answer_to : Tuning → Option Opened → DriverLine → Answer
answer_to tuning None line = answer_first tuning line
answer_to tuning (Some host) line = answer_at line host

abbrev pub answer : Tuning → Option Opened → Result DriverLine Refusal → Answer
answer tuning s (Ok line) = answer_to tuning s line
answer tuning s (Err e) = refuses e

-- ---- blocks

-- the next moment at which a timer is due, if one stands
abbrev pub due : Option Opened → Option ℕ
due s = by_host s None next_due

abbrev pub due_word : Option ℕ → List ℕ
due_word None = codes "never"
due_word (Some moment) = decimal moment

abbrev pub ok_line : Option ℕ → List ℕ
ok_line moment = codes "ok " ++ (due_word moment ++ codes "\n")

abbrev pub refused_line : Refusal → List ℕ
refused_line e = codes "refused " ++ (refusal_text e ++ codes "\n")

-- what is printed for a line, and one line more, which closes it
abbrev pub block : Answer → List ℕ
block (gives s text) = text ++ ok_line (due s)
block (refuses e) = refused_line e

-- the host after a line: if it is refused, the one before
abbrev pub after : Option Opened → Answer → Option Opened
after s (gives t text) = t
after s (refuses e) = s

-- ---- a transcript of a host that never becomes self-managing

-- what a line of the input says, unless it is too long
abbrev pub says_line : Met → Result DriverLine Refusal
says_line (whole line) = line_of (content line)
says_line too_long = Err refusals.Endless

-- the constants of the timers, and the host, once a board was opened
pub record State : Type 0 where
  pub tuning : Tuning
  pub host : Option Opened

abbrev pub answer_of : State → Met → Answer
answer_of s m = answer s.tuning s.host (says_line m)

abbrev pub state_after : State → Answer → State
state_after s a = record { tuning = s.tuning; host = after s.host a }

-- What is written for a line of the input is a block, whatever its number. No line stops a dialog.
abbrev pub step : State → ℕ → Met → Step State Infallible
step s number m = goes (block (answer_of s m)) (state_after s (answer_of s m))

-- the blocks of lines, in their order, from a state on
abbrev pub blocks_from : State → List InputLine → List (List ℕ)
blocks_from s [] = []
blocks_from s (line ∷ lines) = block (answer_of s (met line)) ∷ blocks_from (state_after s (answer_of s (met line))) lines

-- the state after lines
abbrev pub state_from : State → List InputLine → State
state_from s [] = s
state_from s (line ∷ lines) = state_from (state_after s (answer_of s (met line))) lines

-- The lines that are answered. If the input is cut off, its last line has no end, and no block, unless it is too long already.
abbrev pub answered_lines : Bool → List InputLine → List InputLine
answered_lines cut [] = []
answered_lines cut (line ∷ lines) = if is_taken cut line then line ∷ answered_lines cut lines else []

-- no board is open
abbrev pub unopened : Tuning → State
unopened tuning = record { tuning = tuning; host = None }

-- what is written for an input, which is cut off if reading fails after it
abbrev pub transcript : Tuning → Bool → List ℕ → List ℕ
transcript tuning cut input = concat (blocks_from (unopened tuning) (answered_lines cut (input_lines input)))
