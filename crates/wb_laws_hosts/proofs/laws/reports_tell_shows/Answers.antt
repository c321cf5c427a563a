use Rattle.wb_laws_hosts.proofs.Agreeing.{reports_tell_shows}
use Rattle.wb_laws_hosts.proofs.Drivers.{honest_reports_tell_shows}
use Rattle.wb_laws_hosts.proofs.laws.reports_tell_shows.Goals as goal

pub returns : goal.returns
returns c = record { lines = honest_reports_tell_shows; steps = reports_tell_shows }
