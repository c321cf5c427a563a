use Rattle.wb_keeping.proofs.FewTimers.{few_requests_at_once, few_timers_stand}
use Rattle.wb_keeping.proofs.laws.few_timers_stand.Goals as goal

pub returns-clause-timers : goal.returns-clause-timers
returns-clause-timers c = few_timers_stand

pub returns-clause-requests : goal.returns-clause-requests
returns-clause-requests c = few_requests_at_once
