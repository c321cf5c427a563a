use Rattle.wb_keeping.proofs.KeptLines.{wanted_is_paid}
use Rattle.wb_keeping.proofs.laws.wanted_is_paid.Goals as goal

pub returns : goal.returns
returns c = wanted_is_paid
