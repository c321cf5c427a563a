-- What the words of the command line ask for. Clap says which words follow an option.
use Rattle.std.specs.Prelude.{◌==◌, length, slice_index, ◌≡◌, ◌≢◌, ℕ, ◌<◌, ◌^◌, List, [], Bool, true, false, Option, Some, None, pos, codes}
use Rattle.std.specs.List.{after_first, before_first, position_or_len}
use Rattle.std.specs.Str.Parse.{IsNumeral, digits_value, without_leading_plus}
use Rattle.clap.specs.Words.{App, Row, Rule, Text, fault_of, app_of, new_app, new_rule, one_of, subcommand_of, with_rule, with_subcommand}
use Rattle.clap.specs.declared.builder.action.ArgAction.TheVariants.{Set, SetTrue}
use Rattle.clap.specs.declared.builder.command.Command.{Command}
use Rattle.clap.specs.declared.builder.command.Command.TheViews.{out-Command}
use Rattle.clap.specs.declared.builder.value_parser.ValueParser.TheVariants.{Signed}
use Rattle.wb_recovery.specs.Timing.{are_constants}
use Rattle.wb_recovery.specs.declared.tuning.Tuning.{Tuning}
use Rattle.wb_filters.specs.declared.filtering.Direction.{Direction}
use Rattle.wb_filters.specs.declared.filtering.Direction.TheVariants.{Hex, Words}
use Rattle.wb.specs.declared.command.Task.{Task}
use Rattle.wb.specs.declared.command.Task.TheVariants as tasks

-- ---- which commands and options there are

-- an option of one value
abbrev pub option : Text → Rule
option name = record (new_rule name) { long = Some name; action = Some Set; value_names = 1 }

abbrev pub flag : Text → Rule
flag name = record (new_rule name) { long = Some name; action = Some SetTrue }

abbrev pub workers_option : Rule
workers_option = record (option (codes "workers")) { parser = Some (Signed (pos 1) (pos 8)) }

abbrev pub filter_app : Text → App
filter_app name = with_rule (new_app name) (flag (codes "keep-going"))

abbrev pub run_app : App
run_app = with_rule (new_app (codes "run")) workers_option

abbrev pub host_app : App
host_app = with_rule (new_app (codes "host")) (option (codes "tuning"))

abbrev pub with_settings : App → App
with_settings a = record a { top = record a.top { no_binary_name = true; subcommand_required = true; has_version = true } }

abbrev pub bare_app : App
bare_app = with_settings (new_app (codes "wb"))

-- The program's command, with the commands below it.
unfoldable pub command_line : App
command_line =
    let checks = with_subcommand (with_subcommand bare_app run_app.top) (new_app (codes "check")).top in
    let filters = with_subcommand (with_subcommand checks (filter_app (codes "hex")).top) (filter_app (codes "words")).top in
    with_subcommand filters host_app.top

-- The code has made this of a command.
abbrev pub IsMade : App → Command → Type 0
IsMade app command = (app_of command ≡ app) × ((out-Command command).has_globals ≡ false)

-- ---- what they ask for

-- The text is digits, of a number below 2^32.
abbrev pub IsNumber : Text → Type 0
IsNumber text = IsNumeral 10 (without_leading_plus text) × (digits_value 10 (without_leading_plus text) < 2 ^ 32)

abbrev pub SaysNumber : Text → Option ℕ → Type 0
SaysNumber text (Some n) = IsNumber text × (n ≡ digits_value 10 (without_leading_plus text))
SaysNumber text None = ¬ (IsNumber text)

-- the number after an option, if that is given
abbrev pub IsNumberIn : Option Text → Option ℕ → Type 0
IsNumberIn None number = number ≡ None
IsNumberIn (Some text) number = SaysNumber text number

-- whether a flag is given: clap says it by a text
abbrev pub IsFlagIn : Option Text → Bool → Type 0
IsFlagIn text is_given = (text ≡ None → is_given ≡ false) × (text ≡ Some (codes "true") → is_given ≡ true) × (text ≡ Some (codes "false") → is_given ≡ false)

-- no plus stands before the digits
abbrev pub IsConstant : Text → ℕ → Type 0
IsConstant text n = (slice_index text 0 ≢ 43) × SaysNumber text (Some n)

-- A comma stands in a text; what stands before the first, and after it.
abbrev pub is_comma : ℕ → Bool
is_comma byte = byte == 44

abbrev pub HasComma : Text → Type 0
HasComma text = position_or_len is_comma text < length text

abbrev pub before_comma : Text → Text
before_comma text = before_first is_comma text

abbrev pub behind_comma : Text → Text
behind_comma text = after_first is_comma text

-- four numbers from 1 to 16, with commas between them
pub record SaysTuning (text : Text) (t : Tuning) : Type 0 where
  pub first : HasComma text × IsConstant (before_comma text) t.c1
  pub second : HasComma (behind_comma text) × IsConstant (before_comma (behind_comma text)) t.c2
  pub third : HasComma (behind_comma (behind_comma text)) × IsConstant (before_comma (behind_comma (behind_comma text))) t.d1
  pub last : IsConstant (behind_comma (behind_comma (behind_comma text))) t.d2
  pub range : are_constants t ≡ true

-- the constants after an option, and those of a script if it is not given
abbrev pub IsTuningIn : Option Text → Tuning → Type 0
IsTuningIn None t = t ≡ record { c1 = 2; c2 = 2; d1 = 1; d2 = 1 }
IsTuningIn (Some text) t = SaysTuning text t

abbrev pub filter_name : Direction → Text
filter_name Hex = codes "hex"
filter_name Words = codes "words"

-- A command, with what was found of its options, asks for a task.
abbrev pub IsAsked : Text → List Row → Task → Type 0
IsAsked name rows (tasks.Run workers) = (name ≡ codes "run") × IsNumberIn (one_of (codes "workers") rows) workers
IsAsked name rows tasks.Check = name ≡ codes "check"
IsAsked name rows (tasks.Turn filter) = (name ≡ filter_name filter.direction) × IsFlagIn (one_of (codes "keep-going") rows) filter.keeps_going
IsAsked name rows (tasks.Host tuning) = (name ≡ codes "host") × IsTuningIn (one_of (codes "tuning") rows) tuning

-- A command was found, which asks for a task.
abbrev pub IsTaskFound : Option (Text × List Row) → Task → Type 0
IsTaskFound None task = ⊥
IsTaskFound (Some found) task = IsAsked found.0 found.1 task

-- The words after the program's name ask for a task: clap finds no fault in them, and a command.
abbrev pub AsksTask : List Text → Task → Type 0
AsksTask words task = (fault_of command_line words ≡ []) × IsTaskFound (subcommand_of command_line words) task
