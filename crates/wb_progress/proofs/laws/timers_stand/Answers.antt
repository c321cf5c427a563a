use Rattle.wb_progress.proofs.Standing.{answers_are_kept, requests_are_kept, quiet_has_cause, requests_are_taken, requests_lead_on}
use Rattle.wb_progress.proofs.laws.timers_stand.Goals as goal

pub returns : goal.returns
returns c = record { answers = answers_are_kept; requests = requests_are_kept; quiet = quiet_has_cause; taken = requests_are_taken; leads = requests_lead_on }
