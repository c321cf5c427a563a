use Rattle.wb_host_sessions.proofs.Examples.{it_is_mixed}
use Rattle.wb_host_sessions.proofs.laws.three_kinds_agree.Goals as goal

pub returns : goal.returns
returns c = it_is_mixed
