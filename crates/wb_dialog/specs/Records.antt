-- What a line of the record says.
use Rattle.std.specs.Prelude.{◌≡◌, ℕ, ◌-◌, ◌^◌, Bool, true, false, List, [], ◌∷◌, Option, Some, None, Result, Ok, Err, codes}
use Rattle.wb_names.specs.Values.{DrawopValue}
use Rattle.wb_codec.specs.declared.datagram.Datagram.{Datagram}
use Rattle.wb_codec.specs.declared.datagram.Datagram.TheVariants.{Draw, PageState}
use Rattle.wb_words.specs.Reading.{begins_datagram, reading as reading_words}
use Rattle.wb_words.specs.declared.digits_fault.DigitsFault.TheVariants as digit_faults
use Rattle.wb_words.specs.declared.fault.WrongWord.{WrongWord}
use Rattle.wb_member.specs.declared.calls.Call.TheVariants.{Hear, Tick}
use Rattle.wb_commands.specs.declared.command.Command.{Command}
use Rattle.wb_commands.specs.declared.command.Command.TheVariants.{Arrive, Board, Call, Question, Skip}
use Rattle.wb_commands.specs.declared.fault.LineFault.{LineFault}
use Rattle.wb_commands.specs.declared.fault.LineFault.TheVariants as faults
use Rattle.wb_commands.specs.declared.fault.Untaken.{Untaken}
use Rattle.wb_commands.specs.declared.fault.Untaken.TheVariants as untaken
use Rattle.wb_commands.specs.Parsing.{◌>>=◌, number, or_fault, script_line_of, two_of}
use Rattle.wb_lines.specs.Words.{words}
use Rattle.wb_dialog.specs.Words.{behind, origin}
use Rattle.wb_judging.specs.declared.record.RecordLine.{RecordLine}
use Rattle.wb_judging.specs.declared.record.RecordLine.TheVariants as records

-- a datagram of a kind that the record has not
abbrev pub other : LineFault
other = faults.Digits digit_faults.Kind

-- What others gave stands in words if no known origin did.
abbrev pub given : Bool → DrawopValue → RecordLine
given true d = records.Strange d
given false d = records.Known d

-- the mark of a report that has no other
abbrev pub mark_of : Datagram → Result RecordLine LineFault
mark_of (PageState sender page (mark ∷ [])) = Ok (records.Mark sender page mark)
mark_of v = Err other

-- A comment, the line of the board and a question change nothing.
abbrev pub recorded : Bool → Command → Result (Option RecordLine) LineFault
recorded in_words Skip = Ok None
recorded in_words (Board member cells workers seed) = Ok None
recorded in_words (Question query) = Ok None
recorded in_words (Arrive d) = Ok (Some (given in_words d))
recorded in_words (Call (Tick now)) = Ok (Some (records.Tick now))
recorded in_words (Call (Hear v)) = mark_of v >>= λ line. Ok (Some line)
recorded in_words (Call call) = Err faults.Unknown

-- what the user drew
abbrev pub drawn : Datagram → Result RecordLine LineFault
drawn (Draw d) = Ok (records.Said d)
drawn v = Err other

abbrev pub said : Result Datagram WrongWord → Result (Option RecordLine) LineFault
said (Ok v) = drawn v >>= λ line. Ok (Some line)
said (Err wrong) = Err (faults.Word wrong)

-- who owns a number: an origin that has no owner says none
abbrev pub owned : ℕ → ℕ → Option ℕ → Result RecordLine LineFault
owned number' place None = Err faults.Words
owned number' place (Some owner) = Ok (records.Owner number' place owner)

unfoldable pub owner_line : List (List ℕ) → Result RecordLine LineFault
owner_line arguments = do
  words' ← or_fault faults.Words (two_of arguments)
  number' ← number 0 (2 ^ 32 - 1) words'.0
  origin' ← origin words'.1
  owned number' origin'.place origin'.owner

-- by what follows `say`, and what follows `owner`
abbrev pub record_by : List ℕ → Option (List ℕ) → Option (List ℕ) → Result (Option RecordLine) LineFault
record_by line (Some words') owner = said (reading_words words')
record_by line None (Some words') = owner_line (words words') >>= λ owner. Ok (Some owner)
record_by line None None = script_line_of line >>= recorded (begins_datagram line)

-- the line, which stands without its end
abbrev pub record_of : List ℕ → Result (Option RecordLine) LineFault
record_of line = record_by line (behind (codes "say") line) (behind (codes "owner") line)

-- what a line says, or its first fault; or an allocation failed
abbrev pub Reads : {X : Type 0} → Result X Untaken → Result X LineFault → Type 0
Reads (Ok x) said = said ≡ Ok x
Reads (Err (untaken.Line e)) said = said ≡ Err e
Reads (Err untaken.Memory) said = Unit {0}
