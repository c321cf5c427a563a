use Rattle.wb_policy.proofs.Rising.{tellings_rise}
use Rattle.wb_policy.proofs.Reporting.{each_mark_is_told}
use Rattle.wb_policy.proofs.laws.each_mark_is_told.Goals as goal

pub returns : goal.returns
returns c = record { marks = each_mark_is_told; rise = tellings_rise }
