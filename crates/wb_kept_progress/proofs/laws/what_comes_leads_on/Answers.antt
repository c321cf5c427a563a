use Rattle.wb_kept_progress.proofs.LeadsOn.{asked_leads_on, neighbours_are_asked_for}
use Rattle.wb_kept_progress.proofs.laws.what_comes_leads_on.Goals as goal

pub returns : goal.returns
returns c = record { near = neighbours_are_asked_for; asked = asked_leads_on }
