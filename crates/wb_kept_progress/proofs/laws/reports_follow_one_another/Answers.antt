use Rattle.wb_kept_progress.proofs.Counted.{live_hosts_are_counted}
use Rattle.wb_kept_progress.proofs.OwedAndDue.{reports_are_due}
use Rattle.wb_kept_progress.proofs.Pauses.{reports_go_by_rates}
use Rattle.wb_kept_progress.proofs.laws.reports_follow_one_another.Goals as goal

pub returns : goal.returns
returns c = record { always = reports_are_due; counted = live_hosts_are_counted; by_rates = reports_go_by_rates }
