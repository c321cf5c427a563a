-- The line `version` is answered by the number of the lines.
use Rattle.std.proofs.Common.{◌≡◌, Some, None, refl}
use Rattle.std.specs.Prelude.{codes}
use Rattle.wb_recovery.specs.declared.tuning.Tuning.{Tuning}
use Rattle.wb_words.specs.Reading.{is_kind}
use Rattle.wb_commands.specs.Parsing.{line_of_page, script_command, script_question}
use Rattle.wb_dialog.specs.Dialog.{version_line}
use Rattle.wb_dialog.specs.Hosting.{Driven, Kept}
use Rattle.wb_dialog.specs.Kinds.{Kind, unjudged, judged, answers, response_to}
use Rattle.wb_dialog.specs.Laws.{VersionIsTold}
use Rattle.wb_dialog.specs.Lines.{common_row, row}

told : (tuning : Tuning) (s : Kind) → response_to tuning s (codes "version") ≡ answers s version_line
unfolding common_row is_kind line_of_page row script_command script_question
told tuning (unjudged None) = refl
told tuning (unjudged (Some (Driven host board))) = refl
told tuning (unjudged (Some (Kept k))) = refl
told tuning (judged h) = refl

pub version_is_told : VersionIsTold
version_is_told s = told s.tuning s.kind
