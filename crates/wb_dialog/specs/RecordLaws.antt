-- What is recorded is read as what it was.
use Rattle.std.specs.Prelude.{◌≡◌, ◌<◌, ◌^◌, ◌++◌, [], ◌∷◌, Ok, codes}
use Rattle.wb_names.specs.Moments.{IsMoment}
use Rattle.wb_codec.specs.Ranges.{IsDatagram, IsDrawop}
use Rattle.wb_codec.specs.declared.datagram.Datagram.TheVariants.{PageState}
use Rattle.wb_commands.specs.declared.fault.LineFault.TheVariants.{Unknown}
use Rattle.wb_judging.specs.declared.record.RecordLine.{RecordLine}
use Rattle.wb_judging.specs.declared.record.RecordLine.TheVariants.{Known, Mark, Owner, Said, Strange, Tick}
use Rattle.wb_judging.specs.declared.call.Call.TheVariants.{Held}
use Rattle.wb_dialog.specs.declared.judged_line.JudgedLine.TheVariants.{Call as Calls}
use Rattle.wb_dialog.specs.Lines.{said_of}
use Rattle.wb_dialog.specs.declared.said.Said.TheVariants.{Own}
use Rattle.wb_dialog.specs.Texts.{record_text}

-- a line of the record, each number of which is in the range of the integer that holds it
abbrev pub IsRecord : RecordLine → Type 0
IsRecord (Tick now) = IsMoment now
IsRecord (Said d) = IsDrawop d
IsRecord (Known d) = IsDrawop d
IsRecord (Strange d) = IsDrawop d
IsRecord (Mark speaker page mark) = IsDatagram (PageState speaker page (mark ∷ []))
IsRecord (Owner number place owner) = (number < 2 ^ 32) × (place < 2 ^ 64) × (owner < 2 ^ 64)

-- What is printed after `record `, and written to a file, is after `held ` the same line of the record.
abbrev pub RecordsAreRead : Type 0
RecordsAreRead = (line : RecordLine) → IsRecord line → said_of (codes "held " ++ record_text line) ≡ Own (Ok (Calls (Held line))) Unknown
