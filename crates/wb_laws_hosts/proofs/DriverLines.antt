-- What a line of a driver carries is in range.
use Rattle.std.proofs.Common.{◌≡◌, ◌-◌, ◌^◌, ◌<◌, ℕ, Bool, true, false, List, [], ◌∷◌, Option, Some, None, Result, Ok, Err, refl, ap, ◌∙◌, subst, arith, inl, inr}
use Rattle.std.specs.Prelude.{IfOk, codes, if◌then◌else◌}
use Rattle.std.specs.Str.{bytes_eq}
use Rattle.wb_codec.specs.Ranges.{IsDatagram}
use Rattle.wb_codec.specs.declared.datagram.Datagram.{Datagram}
use Rattle.wb_codec.specs.declared.datagram.Datagram.TheVariants as datagrams
use Rattle.wb_lines.specs.Handling.{Met, whole, too_long}
use Rattle.wb_lines.specs.Input.{content}
use Rattle.wb_lines.specs.Words.{words}
use Rattle.wb_words.specs.Words.{words as words_of_text, split_once}
use Rattle.wb_words.specs.Reading.{reading}
use Rattle.wb_words.specs.Adding.{adding_reading}
use Rattle.wb_words.proofs.EntryLists.{Reads}
use Rattle.wb_words.specs.declared.adding.Adding.{Adding}
use Rattle.wb_words.specs.declared.fault.WordFault.TheVariants as word_faults
use Rattle.wb_words.specs.declared.fault.WrongWord.{WrongWord}
use Rattle.wb_words.proofs.LineLaws.{reading_takes}
use Rattle.wb_words.proofs.Splitting.{NoSpaces-words}
use Rattle.wb_commands.specs.Parsing.{number, none_of, two_of, or_fault, datagram, handed_in, page, script_line_of}
use Rattle.wb_commands.specs.declared.command.Command.{Command}
use Rattle.wb_commands.specs.declared.fault.LineFault.{LineFault}
use Rattle.wb_commands.specs.declared.fault.LineFault.TheVariants as faults
use Rattle.wb_dialog.specs.Dialog.{says_line}
use Rattle.wb_dialog.specs.Adding.{add_line, added_by, begins_with_page, timed, untimed, with_time}
use Rattle.wb_dialog.specs.JudgedLines.{judge_line, own_row}
use Rattle.wb_dialog.specs.Lines.{as_refusal, came, came_by, common_row, judged_by, keep_line, line_of, moment_of, name, row, row_of, said_line, said_of, unjudged_line, unless_own, unless_script, words_behind}
use Rattle.wb_dialog.specs.Words.{behind as words_after, three_of}
use Rattle.wb_dialog.specs.declared.judged_line.JudgeLine.{JudgeLine}
use Rattle.wb_dialog.specs.declared.judged_line.JudgedLine.{JudgedLine}
use Rattle.wb_dialog.specs.declared.said.Said.{Said}
use Rattle.wb_dialog.specs.declared.fault.Refusal.{Refusal}
use Rattle.wb_dialog.specs.declared.line.DriverLine.{DriverLine}
use Rattle.wb_dialog.specs.declared.line.DriverLine.TheVariants.{Script, Say, Came, Add}
use Rattle.wb_laws_hosts.proofs.AddedLines.{IsAdding, adding_fits}
use Rattle.wb_laws_hosts.proofs.ScriptLines as scripts
use Rattle.wb_laws_hosts.proofs.ScriptLines.{Asks, IsWithin, IsDigitsOf, bound, behind, either, number_fits, datagram_fits, datagram_digits, line_fits}
use Rattle.wb_laws_hosts.specs.Laws.{SaysDatagram, LinesCarryBytes}
use Rattle.wb_policy.specs.declared.limits.TheConstants.{MAX_RATE}

-- a datagram that a line hands in has a property, and all else that it carries is in range
abbrev pub Carries : (Datagram → Type 0) → DriverLine → Type 0
Carries P (Script line) = scripts.Carries P line
Carries P (Say v) = IsDatagram v
Carries P (Came now v) = (now < 2 ^ 48) × IsDatagram v
Carries P (Add a) = IsAdding a
Carries P line = Unit {0}

-- what it carries is in range
abbrev pub Fits : DriverLine → Type 0
Fits line = Carries IsDatagram line

as_refusal_fits : (P : Datagram → Type 0) (r : Result DriverLine LineFault) → IfOk r (Carries P) → IfOk (as_refusal r) (Carries P)
as_refusal_fits P (Ok line) has = has
as_refusal_fits P (Err e) has = tt

-- a datagram in words
reading_fits : (text : List ℕ) → IfOk (reading text) IsDatagram
reading_fits text = from (reading text) refl where
  from : (r : Result Datagram WrongWord) → reading text ≡ r → IfOk r IsDatagram
  from (Ok v) e = (reading_takes (words_of_text text) v (NoSpaces-words text) e).1
  from (Err wrong) e = tt

moment_fits : (arguments : List (List ℕ)) → IfOk (moment_of arguments) (λ now. now < 2 ^ 48)
unfolding moment_of
moment_fits arguments = behind (λ now. now < 2 ^ 48) (or_fault faults.Words (two_of arguments)) _ (λ ws.
    weaker_result (number 0 (2 ^ 48 - 1) ws.0) (number_fits 0 (2 ^ 48 - 1) ws.0)) where
      weaker_result : (r : Result ℕ LineFault) → IfOk r (IsWithin 0 (2 ^ 48 - 1)) → IfOk r (λ now. now < 2 ^ 48)
      weaker_result (Ok n) fit = let a = fit.1 in omega arith
      weaker_result (Err e) fit = tt

module _ (P : Datagram → Type 0) where
  abbrev Has : DriverLine → Type 0
  Has line = Carries P line

  -- what it says to a host without a judge carries this
  abbrev SaidHas : Said → Type 0
  SaidHas said = IfOk (unjudged_line said) Has

  keep_fits : (arguments : List (List ℕ)) → IfOk (keep_line arguments) Has
  unfolding keep_line
  keep_fits arguments = behind Has (or_fault faults.Words (two_of arguments)) _ (λ ws.
      behind Has (number 1 MAX_RATE ws.0) _ (λ rate. behind Has (number 0 (2 ^ 32 - 1) ws.1) _ (λ listen. tt)))

  said_fits : (r : Result Datagram WrongWord) → IfOk r IsDatagram → IfOk (said_line r) Has
  said_fits (Ok v) fit = fit
  said_fits (Err wrong) fit = tt

  common_fits : (line word : List ℕ) (arguments : List (List ℕ)) → IfOk (common_row line word arguments) Has
  unfolding common_row
  common_fits line word arguments =
      either Has (bytes_eq word (codes "say")) _ _ (behind Has (or_fault faults.Words (words_after (codes "say") line)) _ (λ rest. said_fits (reading rest) (reading_fits rest)))
      (either Has (bytes_eq word (codes "keep")) _ _ (keep_fits arguments)
      (either Has (bytes_eq word (codes "ask")) _ _ (behind Has (name arguments) _ (λ n. tt))
      (either Has (bytes_eq word (codes "stop")) _ _ (behind Has (name arguments) _ (λ n. tt))
      (either Has (bytes_eq word (codes "next")) _ _ (behind Has (page arguments) _ (λ p. tt))
      (either Has (bytes_eq word (codes "view")) _ _ (behind Has (page arguments) _ (λ p. tt))
      (either Has (bytes_eq word (codes "known")) _ _ (behind Has (or_fault faults.Words (none_of arguments)) _ (λ nothing. tt))
      (either Has (bytes_eq word (codes "version")) _ _ (behind Has (or_fault faults.Words (none_of arguments)) _ (λ nothing. tt)) tt)))))))

  came_fits : (arguments : List (List ℕ)) (ws : Option (List ℕ × List ℕ × List (List ℕ))) → SaidHas (came_by arguments ws)
  unfolding came
  came_fits arguments None = bound (λ now. now < 2 ^ 48) Has (moment_of arguments) _ (moment_fits arguments) (λ now early. bound IsDatagram Has (datagram (words_behind arguments)) _ (datagram_fits (words_behind arguments)) (λ v fit. (early, fit)))
  came_fits arguments (Some ws) = tt

  drawing_fits : (r : Result Adding WrongWord) → Reads IsAdding r → IfOk (with_time r) Has
  drawing_fits (Ok adding) fit = fit.it
  drawing_fits (Err wrong) fit = tt

  added_fits : (text : List ℕ) (parts : Option (List ℕ × List ℕ)) → SaidHas (added_by text parts)
  added_fits text None = drawing_fits (adding_reading text) (adding_fits text)
  added_fits text (Some parts) = by (begins_with_page parts.1) where
    by : (b : Bool) → SaidHas (if b then untimed parts.0 parts.1 else timed word_faults.Page text)
    by true = tt
    by false = drawing_fits (adding_reading text) (adding_fits text)

  add_fits : (text : Option (List ℕ)) → SaidHas (add_line text)
  add_fits None = tt
  add_fits (Some text) = added_fits text (split_once 32 text)

  judged_fits : (r : Result JudgeLine LineFault) → SaidHas (judged_by r)
  judged_fits (Ok line) = tt
  judged_fits (Err e) = tt

  unless_fits : (own : Result JudgedLine LineFault) (r : Result DriverLine LineFault) → IfOk r Has → SaidHas (unless_own own r)
  unless_fits own (Ok line) has = has
  unless_fits own (Err faults.Unknown) has = tt
  unless_fits own (Err e) has = tt

  row_fits : (line word : List ℕ) (arguments : List (List ℕ)) → SaidHas (row line word arguments)
  unfolding row
  row_fits line word arguments = by (bytes_eq word (codes "came")) (bytes_eq word (codes "add")) (bytes_eq word (codes "judge")) where
    other : Said
    other = unless_own (own_row line word arguments) (common_row line word arguments)

    by : (c a j : Bool) → SaidHas (if c then came_by arguments (three_of arguments) else (if a then add_line (words_after (codes "add") line) else (if j then judged_by (judge_line arguments) else other)))
    by true a j = came_fits arguments (three_of arguments)
    by false true j = add_fits (words_after (codes "add") line)
    by false false true = judged_fits (judge_line arguments)
    by false false false = unless_fits (own_row line word arguments) (common_row line word arguments) (common_fits line word arguments)

  words_fit : (line : List ℕ) (ws : List (List ℕ)) → SaidHas (row_of line ws)
  words_fit line [] = tt
  words_fit line (word ∷ arguments) = row_fits line word arguments

  script_fits : (line : List ℕ) (r : Result Command LineFault) → IfOk r (scripts.Carries P) → SaidHas (unless_script line r)
  script_fits line (Ok read) has = has
  script_fits line (Err faults.Unknown) has = words_fit line (words line)
  script_fits line (Err e) has = tt

  pub text_fits : (line : List ℕ) → Asks P line → IfOk (line_of line) Has
  text_fits line asks = as_refusal_fits P (unjudged_line (said_of line)) (script_fits line (script_line_of line) (line_fits P line asks))

-- ---- what it carries is in range

pub met_fits : (m : Met) → IfOk (says_line m) Fits
met_fits (whole line) = text_fits IsDatagram (content line) (record { in_words = reading_fits (content line); in_bytes = λ word arguments e. datagram_fits arguments })
met_fits too_long = tt

pub says_fits : (m : Met) (line : DriverLine) → says_line m ≡ Ok line → Fits line
says_fits m line e = subst (λ (r : Result DriverLine Refusal). IfOk r Fits) e (met_fits m)

-- ---- the bytes of what it hands in

-- the property that a line hands in
pub handed_has : (P : Datagram → Type 0) (v : Datagram) → Carries P (Script (handed_in v)) → P v
handed_has P (datagrams.Draw d) has = has
handed_has P v has = has

pub lines_carry_bytes : LinesCarryBytes
lines_carry_bytes line v e = handed_has (SaysDatagram line) v (subst (λ (r : Result DriverLine Refusal). IfOk r (Carries (SaysDatagram line))) e (text_fits (SaysDatagram line) line asked)) where
  worded : (r : Result Datagram WrongWord) → reading line ≡ r → IfOk r (SaysDatagram line)
  worded (Ok w) f = inl f
  worded (Err wrong) f = tt

  spelled : (word : List ℕ) (arguments : List (List ℕ)) → words line ≡ word ∷ arguments → (r : Result Datagram LineFault) → IfOk r (IsDigitsOf arguments) → IfOk r (SaysDatagram line)
  spelled word arguments f (Ok w) (digits, are, bytes) = inr (word, digits, f ∙ ap (λ (ws : List (List ℕ)). word ∷ ws) are, bytes)
  spelled word arguments f (Err fault) is = tt

  asked : Asks (SaysDatagram line) line
  asked = record { in_words = worded (reading line) refl; in_bytes = λ word arguments f. spelled word arguments f (datagram arguments) (datagram_digits arguments) }
