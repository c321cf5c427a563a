use Rattle.std.proofs.Common.{◌∙◌}
use Rattle.wb_recovery.proofs.AlarmNames.{count_all}
use Rattle.wb_recovery.proofs.alarms.Alarms.len.Goals as goal

pub returns : goal.returns
returns c = λ dues keep names listed. c.len.ensures.len ∙ count_all dues c.args.self.now keep c.len.ensures.ordered names listed
