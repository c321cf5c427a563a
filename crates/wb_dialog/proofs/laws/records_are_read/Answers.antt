use Rattle.wb_dialog.proofs.RecordLines.{records_are_read}
use Rattle.wb_dialog.proofs.laws.records_are_read.Goals as goal

pub returns : goal.returns
returns c = records_are_read
