use Rattle.wb_dialog.proofs.VersionLines.{version_is_told}
use Rattle.wb_dialog.proofs.laws.version_is_told.Goals as goal

pub returns : goal.returns
returns c = version_is_told
