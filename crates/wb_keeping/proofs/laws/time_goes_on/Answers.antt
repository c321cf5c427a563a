use Rattle.wb_keeping.proofs.KeptLines.{nothing_is_due, time_comes_first}
use Rattle.wb_keeping.proofs.laws.time_goes_on.Goals as goal

pub returns : goal.returns
returns c = record { first = time_comes_first; alone = nothing_is_due }
