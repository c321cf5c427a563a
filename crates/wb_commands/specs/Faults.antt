-- The numbers of the faults of a line, and their texts.
use Rattle.std.specs.Prelude.{ℕ, List, codes}
use Rattle.wb_words.specs.FaultText.{digits_text, wrong_text}
use Rattle.wb_words.specs.declared.digits_fault.DigitsFault.TheVariants as digit_faults
use Rattle.wb_commands.specs.declared.fault.LineFault.{LineFault}
use Rattle.wb_commands.specs.declared.fault.LineFault.TheVariants.{Unknown, Words, Number, Digits, NoBoard, SecondBoard, BackInTime, TooMany, Word}

-- from 1, in the order in which a line is looked at
abbrev pub line_code : LineFault → ℕ
line_code Unknown = 1
line_code Words = 2
line_code Number = 3
line_code (Digits digit_faults.Hex) = 4
line_code (Digits (digit_faults.Datagram e)) = 5
line_code (Digits digit_faults.Kind) = 6
line_code NoBoard = 7
line_code SecondBoard = 8
line_code BackInTime = 9
line_code TooMany = 10
line_code (Word wrong) = 11

-- the text of a fault
abbrev pub line_text : LineFault → List ℕ
line_text Unknown = codes "unknown"
line_text Words = codes "words"
line_text Number = codes "number"
line_text (Digits e) = digits_text e
line_text NoBoard = codes "no board"
line_text SecondBoard = codes "second board"
line_text BackInTime = codes "back in time"
line_text TooMany = codes "too many"
line_text (Word wrong) = wrong_text wrong
