use Rattle.std.proofs.lemmas.Result.{IfOk-weaker}
use Rattle.wb_recovery.proofs.AlarmNames.{names_some}
use Rattle.wb_recovery.proofs.alarms.Alarms.names_where.Goals as goal

pub returns : goal.returns
returns g c = λ p tells dues keep.
    IfOk-weaker c.some_names.result _ _ (λ v same. names_some dues c.args.self.now keep c.some_names.ensures.ordered p v.items same) (c.some_names.ensures.names p tells)
