-- Where a block ends: at the first of its lines that looks as if it closed one.
use Rattle.std.specs.Prelude.{◌≡◌, ◌≢◌, ◌⊎◌, ℕ, List, true, All, Option, Some, None, Result, Ok, codes}
use Rattle.wb_names.specs.Values.{DrawopValue}
use Rattle.wb_names.specs.declared.parts.Op.{Op}
use Rattle.wb_names.specs.declared.parts.Op.TheVariants.{Drawn, Text, Aimed}
use Rattle.wb_recovery.specs.declared.tuning.Tuning.{Tuning}
use Rattle.wb_lines.specs.Ahead.{NoLineFeed}
use Rattle.wb_lines.specs.Input.{InputLine, BeginsWith, input_lines}
use Rattle.wb_lines.specs.Taking.{met}
use Rattle.wb_commands.specs.declared.command.Command.TheVariants.{Question}
use Rattle.wb_member.specs.declared.questions.Query.TheVariants.{Canvas}
use Rattle.wb_dialog.specs.declared.fault.Refusal.{Refusal}
use Rattle.wb_dialog.specs.declared.line.DriverLine.{DriverLine}
use Rattle.wb_dialog.specs.declared.line.DriverLine.TheVariants.{Script}
use Rattle.wb_dialog.specs.Dialog.{says_line}
use Rattle.wb_dialog.specs.Doing.{text_in}
use Rattle.wb_dialog.specs.Hosting.{Host, Driven, Kept, Hosting, hosting_from, reply_of, unopened}
use Rattle.wb_laws_hosts.specs.Texts.{EventAt, hosting_at}

-- a line that looks as if it closed a block
abbrev pub LooksClosing : List ℕ → Type 0
LooksClosing line = BeginsWith line (codes "ok ") ⊎ BeginsWith line (codes "refused ")

-- a whole line that does not look so
pub record IsPlain (line : InputLine) : Type 0 where
  pub ended : line.ended ≡ true
  pub plain : LooksClosing line.bytes → ⊥

-- a text of such lines
abbrev pub ArePlain : List ℕ → Type 0
ArePlain text = All IsPlain (input_lines text)

-- a line that is no `show`, which prints what people drew, row by row
abbrev pub IsNoShow : Result DriverLine Refusal → Type 0
IsNoShow (Ok (Script (Question (Canvas page width height)))) = ⊥
IsNoShow said = Unit {0}

-- A glyph and a text have no line feed, as in every drawop that a line can say.
abbrev pub IsOneLine : Op → Type 0
IsOneLine (Drawn figure s) = s.glyph ≢ 10
IsOneLine (Text x y text) = NoLineFeed text
IsOneLine (Aimed change t) = Unit {0}

abbrev pub AreOneLine : List DrawopValue → Type 0
AreOneLine ds = All (λ (d : DrawopValue). IsOneLine d.op) ds

abbrev pub HoldsLines : Option Host → Type 0
HoldsLines None = Unit {0}
HoldsLines (Some (Driven host board)) = AreOneLine host.is.held
HoldsLines (Some (Kept k)) = AreOneLine k.host.is.held

-- No line but `show` prints a line that looks as if it closed the block, whether the host is self-managing or not.
abbrev pub BlocksCloseOnce : Type 0
BlocksCloseOnce = (s : Hosting) (line : InputLine) → HoldsLines s.host → IsNoShow (says_line (met line)) → ArePlain (text_in (reply_of s (met line)))

-- So it is after any lines.
abbrev pub InputsCloseOnce : Type 0
InputsCloseOnce = (tuning : Tuning) (older : List InputLine) (line : InputLine) → IsNoShow (says_line (met line)) → ArePlain (text_in (reply_of (hosting_from (unopened tuning) older) (met line)))

-- And at each point of a session, whichever process started anew before.
abbrev pub SessionsCloseOnce : Type 0
SessionsCloseOnce = (events : List EventAt) (i : ℕ) (line : InputLine) → IsNoShow (says_line (met line)) → ArePlain (text_in (reply_of (hosting_at events i) (met line)))
