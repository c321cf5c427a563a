use Rattle.std.proofs.Common.{refl}
use Rattle.std.proofs.lemmas.Result.{err_from_is_err_and}
use Rattle.wb_lines.proofs.Endings.{meets_all, none_met, true_later}
use Rattle.wb_script.specs.Inside.Parts.{by_batches}
use Rattle.wb_script.specs.Inside.Steps.{IsRunAt, may_take}
use Rattle.wb_script.proofs.SomeSteps.{some_step}
use Rattle.wb_script.proofs.driving.take_lines.Goals as goal

pub returns-in_err-new-clause-lines : goal.returns-in_err-new-clause-lines
returns-in_err-new-clause-lines g c =
    let p = err_from_is_err_and c.from_residual.result c.from_residual.ensures.1 in
    none_met by_batches may_take c.args.most (IsRunAt c.args.host.now) (g.R.Source.left c.args.source.now) (g.W.Sink.taken c.args.sink.now) (g.R.Source.has_failed c.args.source.now) c.from_residual.result some_step (rw (p.1, p.2) refl)

pub returns-clause-lines : goal.returns-clause-lines
returns-clause-lines g c =
    meets_all by_batches may_take c.args.most (IsRunAt c.args.host.now) (IsRunAt c.take_groups-ending.new.host) _ _ (g.W.Sink.taken c.close.new.sink) _ _ c.close.new.output c.take_groups-ending.result c.close.result
    (rw (c.in_ok-new.ensures, c.new-2.ensures) at c.take_groups-ending.ensures.all) c.close.ensures.text

pub returns-clause-read : goal.returns-clause-read
returns-clause-read g c = λ e.
    let all = rw (c.in_ok-new.ensures, c.new-2.ensures) at c.take_groups-ending.ensures.all in
    (true_later c.args.most _ _ _ _ all.0 all.1).failed (c.take_groups-ending.ensures.faults.0 (c.close.ensures.read e))

pub returns-clause-write : goal.returns-clause-write
returns-clause-write g c = λ e.
    let all = rw (c.in_ok-new.ensures, c.new-2.ensures) at c.take_groups-ending.ensures.all in
    c.close.ensures.failed (λ f. (true_later c.args.most _ _ _ _ all.0 all.1).stuck (c.take_groups-ending.ensures.faults.1 f)) e
