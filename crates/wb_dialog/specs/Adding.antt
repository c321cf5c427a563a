-- What a line says that adds a drawing: with its time at a host without a judge, and without it at a judged host, which has the time of day.
use Rattle.std.specs.Prelude.{ℕ, ◌-◌, List, ◌++◌, Bool, Option, Some, None, Result, Ok, Err, if◌then◌else◌, codes, is_some, nat_le}
use Rattle.wb_words.specs.declared.adding.Adding.{Adding}
use Rattle.wb_words.specs.declared.fault.WordFault.{WordFault}
use Rattle.wb_words.specs.declared.fault.WordFault.TheVariants as word_faults
use Rattle.wb_words.specs.declared.fault.WrongWord.{WrongWord}
use Rattle.wb_words.specs.Adding.{adding_reading}
use Rattle.wb_words.specs.Words.{split_once}
use Rattle.wb_commands.specs.declared.fault.LineFault.{LineFault}
use Rattle.wb_commands.specs.declared.fault.LineFault.TheVariants as faults
use Rattle.wb_judging.specs.declared.call.Call.TheVariants.{UserDrew}
use Rattle.wb_dialog.specs.declared.judged_line.JudgedLine.{JudgedLine}
use Rattle.wb_dialog.specs.declared.judged_line.JudgedLine.TheVariants.{Call}
use Rattle.wb_dialog.specs.declared.line.DriverLine.{DriverLine}
use Rattle.wb_dialog.specs.declared.line.DriverLine.TheVariants.{Add}
use Rattle.wb_dialog.specs.declared.said.Said.{Said}
use Rattle.wb_dialog.specs.declared.said.Said.TheVariants.{Common, Own, Unjudged}

-- Why a host refuses a line whose second word it does not have: the first word, if that is wrong too.
abbrev pub second_wrong : WordFault → Result Adding WrongWord → LineFault
second_wrong fault (Ok a) = faults.Word (record { place = 2; fault = fault })
second_wrong fault (Err wrong) = faults.Word (if nat_le wrong.place 1 then wrong else record { place = 2; fault = fault })

-- a drawing with its time
abbrev pub with_time : Result Adding WrongWord → Result DriverLine LineFault
with_time (Ok a) = Ok (Add a)
with_time (Err wrong) = Err (faults.Word wrong)

abbrev pub timed : WordFault → List ℕ → Said
timed other words = Unjudged (with_time (adding_reading words)) (second_wrong other (adding_reading words))

-- one without: it is read as one at the time 0, which is not written
abbrev pub unwritten : WrongWord → WrongWord
unwritten wrong = record { place = if nat_le wrong.place 1 then 1 else wrong.place - 1; fault = wrong.fault }

abbrev pub without_time : Result Adding WrongWord → Result JudgedLine LineFault
without_time (Ok a) = Ok (Call (UserDrew a.moment a.page a.op))
without_time (Err wrong) = Err (faults.Word (unwritten wrong))

abbrev pub untimed_by : Result Adding WrongWord → Said
untimed_by read = Own (without_time read) (second_wrong word_faults.Number read)

abbrev pub untimed : List ℕ → List ℕ → Said
untimed now words = untimed_by (adding_reading (now ++ (codes " 0 " ++ words)))

-- A page has a mark in it, and a time has none.
abbrev pub front : List ℕ → Option (List ℕ × List ℕ) → List ℕ
front words None = words
front words (Some parts) = parts.0

abbrev pub begins_with_page : List ℕ → Bool
begins_with_page words = is_some (split_once 47 (front words (split_once 32 words)))

abbrev pub added_by : List ℕ → Option (List ℕ × List ℕ) → Said
added_by words None = timed word_faults.Missing words
added_by words (Some parts) = if begins_with_page parts.1 then untimed parts.0 parts.1 else timed word_faults.Page words

abbrev pub added : List ℕ → Said
added words = added_by words (split_once 32 words)

-- What follows `add` begins one space after it, so if it does not, it is wrong.
abbrev pub add_line : Option (List ℕ) → Said
add_line None = Common (Err faults.Words)
add_line (Some words) = added words
