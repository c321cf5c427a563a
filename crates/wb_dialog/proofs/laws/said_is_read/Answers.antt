use Rattle.wb_dialog.proofs.ScriptLines.{said_is_read}
use Rattle.wb_dialog.proofs.laws.said_is_read.Goals as goal

pub returns : goal.returns
returns c = said_is_read
