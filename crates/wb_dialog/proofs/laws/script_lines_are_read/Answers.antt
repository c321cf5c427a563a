use Rattle.wb_dialog.proofs.ScriptLines.{script_lines_are_read}
use Rattle.wb_dialog.proofs.laws.script_lines_are_read.Goals as goal

pub returns : goal.returns
returns c = script_lines_are_read
