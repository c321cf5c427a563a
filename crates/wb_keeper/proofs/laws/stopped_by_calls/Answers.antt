use Rattle.wb_keeper.proofs.StoppedTimers as timers
use Rattle.wb_keeper.proofs.laws.stopped_by_calls.Goals as goal

pub returns : goal.returns
returns c = timers.stopped_by_calls
