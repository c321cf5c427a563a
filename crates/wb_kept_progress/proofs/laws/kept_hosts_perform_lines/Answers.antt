use Rattle.wb_kept_progress.proofs.CallsInTime.{always_short}
use Rattle.wb_kept_progress.proofs.Performed.{kept_is_performed, kept_keeps_moments}
use Rattle.wb_kept_progress.proofs.ShortDelays.{kept_go_by_short}
use Rattle.wb_kept_progress.proofs.laws.kept_hosts_perform_lines.Goals as goal

pub returns : goal.returns
returns c = record { same = kept_is_performed; moments = kept_keeps_moments; delays = kept_go_by_short; short = always_short }
