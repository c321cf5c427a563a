use Rattle.wb_recovery.proofs.alarms.Alarms.first.Goals as goal

pub returns : goal.returns
returns c = λ dues keep. keep.exact c.requires
