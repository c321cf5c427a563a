use Rattle.wb_laws_kept.proofs.Agreeing.{kept_reports_tell_agreement}
use Rattle.wb_laws_kept.proofs.Restarting.{recorded_reports_tell_agreement}
use Rattle.wb_laws_kept.proofs.laws.kept_reports_tell_agreement.Goals as goal

pub returns : goal.returns
returns c = record { recorded = recorded_reports_tell_agreement; known = kept_reports_tell_agreement }
