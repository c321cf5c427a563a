-- What a line of a driver says, or its first fault: a table of first words, and of what may follow each.
use Rattle.std.specs.Prelude.{◌≤◌, ◌<◌, ℕ, ◌-◌, ◌^◌, List, [], ◌∷◌, Option, Some, None, Result, Ok, Err, IfOk, if◌then◌else◌, codes}
use Rattle.std.specs.Str.{bytes_eq}
use Rattle.wb_names.specs.Moments.{IsMoment}
use Rattle.wb_names.specs.declared.moment.TheConstants.{MAX_MOMENT}
use Rattle.wb_names.specs.Values.{NameValue}
use Rattle.wb_codec.specs.declared.datagram.Datagram.{Datagram as DatagramValue}
use Rattle.wb_words.specs.declared.fault.WrongWord.{WrongWord}
use Rattle.wb_words.specs.Reading.{reading as reading_words}
use Rattle.wb_lines.specs.Words.{words}
use Rattle.wb_member.specs.declared.calls.Call.{Call}
use Rattle.wb_member.specs.declared.calls.Call.TheVariants.{Ask, Stop}
use Rattle.wb_member.specs.declared.questions.Query.{Query}
use Rattle.wb_member.specs.declared.questions.Query.TheVariants.{View, Known, Next}
use Rattle.wb_commands.specs.declared.command.Command.{Command}
use Rattle.wb_commands.specs.declared.command.Command.TheVariants as lines
use Rattle.wb_commands.specs.declared.fault.LineFault.{LineFault}
use Rattle.wb_commands.specs.declared.fault.LineFault.TheVariants as faults
use Rattle.wb_commands.specs.declared.fault.Untaken.{Untaken}
use Rattle.wb_commands.specs.declared.fault.Untaken.TheVariants as untaken
use Rattle.wb_commands.specs.Parsing.{or_fault, number, none_of, two_of, four_of, page, datagram, ◌>>=◌, script_line_of, IsScriptWithin}
use Rattle.wb_dialog.specs.declared.judged_line.JudgeLine.{JudgeLine}
use Rattle.wb_dialog.specs.declared.judged_line.JudgedLine.{JudgedLine}
use Rattle.wb_dialog.specs.declared.line.DriverLine.{DriverLine}
use Rattle.wb_dialog.specs.declared.line.DriverLine.TheVariants.{Script, Say, Keep, Came, Add, Version}
use Rattle.wb_dialog.specs.declared.said.Said.{Said}
use Rattle.wb_dialog.specs.declared.said.Said.TheVariants.{Common, Judge, Own, Unjudged}
use Rattle.wb_dialog.specs.declared.fault.Refusal.{Refusal}
use Rattle.wb_dialog.specs.declared.fault.Refusal.TheVariants as refusals
use Rattle.wb_dialog.specs.declared.fault.Unanswered.{Unanswered}
use Rattle.wb_dialog.specs.declared.fault.Unanswered.TheVariants as unanswered
use Rattle.wb_dialog.specs.Adding.{add_line}
use Rattle.wb_dialog.specs.JudgedLines.{IsJudgeLine, came_from, judge_line, own_row}
use Rattle.wb_dialog.specs.JudgedLines.{IsWithin as IsJudgedWithin}
use Rattle.wb_dialog.specs.Words.{behind, three_of}
use Rattle.wb_policy.specs.declared.limits.TheConstants.{MAX_RATE}

-- ---- lines that any host has, but no script

-- a name, by the creator and the number of its page, its source and its own number, from 1
unfoldable pub name : List (List ℕ) → Result NameValue LineFault
name arguments = do
  words' ← or_fault faults.Words (four_of arguments)
  creator ← number 0 (2 ^ 32 - 1) words'.0
  number' ← number 0 (2 ^ 32 - 1) words'.1
  source ← number 0 (2 ^ 32 - 1) words'.2
  seq ← number 1 (2 ^ 32 - 1) words'.3
  Ok (record { source = source; page = record { creator = creator; number = number' }; seq = seq })

abbrev pub asks : Query → DriverLine
asks query = Script (lines.Question query)

abbrev pub calls : Call → DriverLine
calls call = Script (lines.Call call)

-- the rate of reports, and for how long nothing is added
unfoldable pub keep_line : List (List ℕ) → Result DriverLine LineFault
keep_line arguments = do
  words' ← or_fault faults.Words (two_of arguments)
  rate ← number 1 MAX_RATE words'.0
  listen ← number 0 (2 ^ 32 - 1) words'.1
  Ok (Keep rate listen)

-- what is to be said, in words
abbrev pub said_line : Result DatagramValue WrongWord → Result DriverLine LineFault
said_line (Ok v) = Ok (Say v)
said_line (Err wrong) = Err (faults.Word wrong)

-- The line with this first word and these further ones. What follows `say` begins one space after it, so if it does not, it is wrong.
unfoldable pub common_row : List ℕ → List ℕ → List (List ℕ) → Result DriverLine LineFault
common_row line word arguments =
    if bytes_eq word (codes "say") then or_fault faults.Words (behind (codes "say") line) >>= (λ rest. said_line (reading_words rest))
    else (if bytes_eq word (codes "keep") then keep_line arguments
    else (if bytes_eq word (codes "ask") then name arguments >>= (λ n. Ok (calls (Ask n)))
    else (if bytes_eq word (codes "stop") then name arguments >>= (λ n. Ok (calls (Stop n)))
    else (if bytes_eq word (codes "next") then page arguments >>= (λ p. Ok (asks (Next p)))
    else (if bytes_eq word (codes "view") then page arguments >>= (λ p. Ok (asks (View p)))
    else (if bytes_eq word (codes "known") then or_fault faults.Words (none_of arguments) >>= (λ nothing. Ok (asks Known))
    else (if bytes_eq word (codes "version") then or_fault faults.Words (none_of arguments) >>= (λ nothing. Ok Version)
    else Err faults.Unknown)))))))

-- ---- lines that some hosts have

-- a datagram that came in at a moment, without its origin
unfoldable pub moment_of : List (List ℕ) → Result ℕ LineFault
moment_of arguments = do
  words' ← or_fault faults.Words (two_of arguments)
  number 0 MAX_MOMENT words'.0

abbrev pub words_behind : List (List ℕ) → List (List ℕ)
words_behind [] = []
words_behind (word ∷ more) = more

unfoldable pub came : List (List ℕ) → Result DriverLine LineFault
came arguments = do
  now ← moment_of arguments
  v ← datagram (words_behind arguments)
  Ok (Came now v)

-- A judged host wants to know whence a datagram came, and another does not know.
abbrev pub came_by : List (List ℕ) → Option (List ℕ × List ℕ × List (List ℕ)) → Said
came_by arguments None = Unjudged (came arguments) faults.Words
came_by arguments (Some words') = Own (came_from words'.0 words'.1 words'.2) faults.Words

abbrev pub judged_by : Result JudgeLine LineFault → Said
judged_by (Ok line) = Judge line
judged_by (Err e) = Common (Err e)

-- ---- all lines

-- A word that no line of any host has is one that a judged host has not either.
abbrev pub unless_own : Result JudgedLine LineFault → Result DriverLine LineFault → Said
unless_own own (Ok line) = Common (Ok line)
unless_own own (Err faults.Unknown) = Own own faults.Unknown
unless_own own (Err e) = Common (Err e)

unfoldable pub row : List ℕ → List ℕ → List (List ℕ) → Said
row line word arguments =
    if bytes_eq word (codes "came") then came_by arguments (three_of arguments)
    else (if bytes_eq word (codes "add") then add_line (behind (codes "add") line)
    else (if bytes_eq word (codes "judge") then judged_by (judge_line arguments)
    else unless_own (own_row line word arguments) (common_row line word arguments)))

abbrev pub row_of : List ℕ → List (List ℕ) → Said
row_of line [] = Common (Err faults.Unknown)
row_of line (word ∷ arguments) = row line word arguments

-- A line of a script is read as there.
abbrev pub unless_script : List ℕ → Result Command LineFault → Said
unless_script line (Ok read) = Common (Ok (Script read))
unless_script line (Err faults.Unknown) = row_of line (words line)
unless_script line (Err e) = Common (Err e)

-- the line, which stands without its end
abbrev pub said_of : List ℕ → Said
said_of line = unless_script line (script_line_of line)

-- ---- what it says to a host without a judge

abbrev pub as_refusal : {A : Type 0} → Result A LineFault → Result A Refusal
as_refusal (Ok x) = Ok x
as_refusal (Err e) = Err (refusals.Line e)

-- the line, or why it is refused there
abbrev pub unjudged_line : Said → Result DriverLine LineFault
unjudged_line (Common read) = read
unjudged_line (Unjudged read other) = read
unjudged_line (Own read other) = Err other
unjudged_line (Judge line) = Err faults.Unknown

abbrev pub line_of : List ℕ → Result DriverLine Refusal
line_of line = as_refusal (unjudged_line (said_of line))

-- ---- what the code answers

-- what a line carries is in its range
abbrev pub IsWithin : DriverLine → Type 0
IsWithin (Script line) = IsScriptWithin line
IsWithin (Keep rate listen) = (1 ≤ rate) × (listen < 2 ^ 32)
IsWithin (Came now v) = IsMoment now
IsWithin (Add adding) = IsMoment adding.moment
IsWithin line = Unit {0}

abbrev pub IsSaidWithin : Said → Type 0
IsSaidWithin (Common read) = IfOk read IsWithin
IsSaidWithin (Judge line) = IsJudgeLine line
IsSaidWithin (Own read other) = IfOk read IsJudgedWithin
IsSaidWithin (Unjudged read other) = IfOk read IsWithin

-- why a line of a script was not parsed
abbrev pub unanswered_by : Untaken → Unanswered
unanswered_by (untaken.Line e) = unanswered.Refused (refusals.Line e)
unanswered_by untaken.Memory = unanswered.Memory
