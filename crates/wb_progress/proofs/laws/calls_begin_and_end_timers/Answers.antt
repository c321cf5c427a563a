use Rattle.wb_progress.proofs.Calls.{answers_go_on, requests_go_on, quiet_begins_so, requests_begin, requests_are_heard}
use Rattle.wb_progress.proofs.laws.calls_begin_and_end_timers.Goals as goal

pub returns : goal.returns
returns c = record { answers = answers_go_on; requests = requests_go_on; quiet = quiet_begins_so; begin = requests_begin; heard = requests_are_heard }
