-- Laws of the transcripts of a host.
use Rattle.std.specs.Prelude.{◌≡◌, ◌<◌, ◌⊎◌, ℕ, List, [], ◌∷◌, ◌++◌, length, All, Bool, true, false, Option, Some, Result, Ok, if◌then◌else◌, codes}
use Rattle.wb_names.specs.History.{IsHeld}
use Rattle.wb_names.specs.Marks.{mark_of}
use Rattle.wb_names.specs.declared.name.PageId.{PageId}
use Rattle.wb_recovery.specs.declared.tuning.Tuning.{Tuning}
use Rattle.wb_codec.specs.declared.datagram.Datagram.{Datagram}
use Rattle.wb_codec.specs.Ranges.{IsDatagram}
use Rattle.wb_keeper.specs.Hearing.{marks_heard}
use Rattle.wb_lines.specs.Input.{InputLine, BeginsWith, content, input_lines}
use Rattle.wb_lines.specs.Handling.{Met, whole, too_long}
use Rattle.wb_lines.specs.Taking.{met}
use Rattle.wb_member.specs.Opened.{Opened, next_number}
use Rattle.wb_commands.specs.SentLines.{digits_of}
use Rattle.wb_dialog.specs.declared.fault.Refusal.{Refusal}
use Rattle.wb_commands.specs.declared.command.Command.{Command}
use Rattle.wb_commands.specs.Parsing.{handed_in, script_line_of}
use Rattle.wb_dialog.specs.declared.line.DriverLine.TheVariants.{Script}
use Rattle.wb_dialog.specs.Lines.{line_of, said_of}
use Rattle.wb_dialog.specs.declared.line.DriverLine.{DriverLine}
use Rattle.wb_dialog.specs.declared.line.DriverLine.TheVariants.{Keep}
use Rattle.wb_dialog.specs.declared.said.Said.{Said}
use Rattle.wb_dialog.specs.declared.said.Said.TheVariants.{Judge}
use Rattle.wb_dialog.specs.Dialog.{ok_line, refused_line, says_line, version_line, transcript as driven_transcript}
use Rattle.wb_dialog.specs.Hosting.{transcript as unjudged_transcript}
use Rattle.wb_dialog.specs.Kinds.{Standing, Response, answers, rejects, response_to, response_of, block_of, blocks_from, after, standing_from, transcript}

-- A refused line leaves the host as it was: its block says why, and what follows it is answered as if it had not been there.
abbrev pub RefusedStays : Type 0
RefusedStays = (s : Standing) (front rest : List InputLine) (line : InputLine) (e : Refusal) → response_of (standing_from s front) (met line) ≡ rejects e
    → (standing_from s (front ++ line ∷ []) ≡ standing_from s front) × (blocks_from s (front ++ line ∷ rest) ≡ blocks_from s front ++ refused_line e ∷ blocks_from (standing_from s front) rest)

-- ---- blocks

-- a line that closes a block
abbrev pub IsClosing : List ℕ → Type 0
IsClosing line = ((moment : Option ℕ) × (line ≡ ok_line moment)) ⊎ ((e : Refusal) × (line ≡ refused_line e))

-- a text and then a line that closes the block
pub record IsBlock (bytes : List ℕ) : Type 0 where
  pub text : List ℕ
  pub line : List ℕ
  pub closing : IsClosing line
  pub is : bytes ≡ text ++ line

-- Every line is answered by exactly one block.
abbrev pub EachIsAnswered : Type 0
EachIsAnswered = (s : Standing) (lines : List InputLine) → (length (blocks_from s lines) ≡ length lines) × All IsBlock (blocks_from s lines)

-- ---- fronts

-- The transcript of a front of an input, if reading fails after it, is a front of the transcript of the input: of any front, not of whole lines alone.
abbrev pub FrontsAreFronts : Type 0
FrontsAreFronts = (tuning : Tuning) (cut : Bool) (front rest : List ℕ) → BeginsWith (transcript tuning cut (front ++ rest)) (transcript tuning true front)

-- ---- the accepted lines alone

abbrev pub is_given : Response → Bool
is_given (answers s text) = true
is_given (rejects e) = false

-- the lines that are not refused, from a state on
abbrev pub accepted_lines : Standing → List InputLine → List InputLine
accepted_lines s [] = []
accepted_lines s (line ∷ lines) = if is_given (response_of s (met line)) then line ∷ accepted_lines (after s (response_of s (met line))) lines else accepted_lines (after s (response_of s (met line))) lines

-- the blocks of the lines that are not refused
abbrev pub accepted_blocks : Standing → List InputLine → List (List ℕ)
accepted_blocks s [] = []
accepted_blocks s (line ∷ lines) = if is_given (response_of s (met line)) then block_of (response_of s (met line)) ∷ accepted_blocks (after s (response_of s (met line))) lines else accepted_blocks (after s (response_of s (met line))) lines

-- The accepted lines alone give the same blocks as they do among all lines, and lead to the same host.
abbrev pub AcceptedAlone : Type 0
AcceptedAlone = (s : Standing) (lines : List InputLine) → (blocks_from s (accepted_lines s lines) ≡ accepted_blocks s lines) × (standing_from s (accepted_lines s lines) ≡ standing_from s lines)

-- ---- a host that is never judged

-- a line that does not begin to judge
abbrev pub IsNoJudge : Said → Type 0
IsNoJudge (Judge line) = ⊥
IsNoJudge said = Unit {0}

abbrev pub BeginsNoJudge : Met → Type 0
BeginsNoJudge (whole line) = IsNoJudge (said_of (content line))
BeginsNoJudge too_long = Unit {0}

-- If no line of an input says `judge`, what is written is what a host writes that knows no judge.
abbrev pub UnjudgedAsBefore : Type 0
UnjudgedAsBefore = (tuning : Tuning) (cut : Bool) (input : List ℕ) → All (λ line. BeginsNoJudge (met line)) (input_lines input) → transcript tuning cut input ≡ unjudged_transcript tuning cut input

-- ---- a host that never becomes self-managing

-- a line that does not say `keep`
abbrev pub BeginsNoKeep : Result DriverLine Refusal → Type 0
BeginsNoKeep (Ok (Keep rate listen)) = ⊥
BeginsNoKeep said = Unit {0}

-- If no line of an input says `keep`, what such a host writes is what one writes that its driver drives, whose definition knows no policy.
abbrev pub DrivenAsBefore : Type 0
DrivenAsBefore = (tuning : Tuning) (cut : Bool) (input : List ℕ) → All (λ line. BeginsNoKeep (says_line (met line))) (input_lines input) → unjudged_transcript tuning cut input ≡ driven_transcript tuning cut input

-- ---- what is ours

-- The number that `next` gives for a page is above that of each drawop of ours that is held there, and above each mark of us that was heard of it.
abbrev pub NextIsNew : Type 0
NextIsNew = (page : PageId) (host : Opened) (n : ℕ) → next_number page host ≡ Some n
    → ((m : ℕ) → IsHeld host.is.held page host.is.number m → m < n) × (mark_of (marks_heard host.is.number host.is.calls page) host.is.number < n)

-- What `say` prints as sent is read back, after the word `datagram`, as what was said.
abbrev pub SaidIsRead : Type 0
SaidIsRead = (v : Datagram) → IsDatagram v → line_of (codes "datagram " ++ digits_of v) ≡ Ok (Script (handed_in v))

-- ---- the number of the lines

-- `version` prints it at every host, also before a board is open, and changes nothing.
abbrev pub VersionIsTold : Type 0
VersionIsTold = (s : Standing) → response_to s.tuning s.kind (codes "version") ≡ answers s.kind version_line

-- ---- what a script says

-- A line that a script takes is read the same by a host.
abbrev pub ScriptLinesAreRead : Type 0
ScriptLinesAreRead = (line : List ℕ) (read : Command) → script_line_of line ≡ Ok read → line_of line ≡ Ok (Script read)
