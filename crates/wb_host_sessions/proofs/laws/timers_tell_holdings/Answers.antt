use Rattle.wb_host_sessions.proofs.Timers.{timers_tell_holdings}
use Rattle.wb_host_sessions.proofs.laws.timers_tell_holdings.Goals as goal

pub returns : goal.returns
returns c = timers_tell_holdings
