use Rattle.wb_laws_hosts.proofs.Ranges.{boards_are_in_range}
use Rattle.wb_laws_hosts.proofs.laws.boards_are_in_range.Goals as goal

pub returns : goal.returns
returns c = boards_are_in_range
