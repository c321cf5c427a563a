use Rattle.std.proofs.Common.{refl}
use Rattle.std.proofs.lemmas.Result.{err_from_is_err_and}
use Rattle.wb_lines.specs.Items.{alone}
use Rattle.wb_lines.specs.Groups.{only_step}
use Rattle.wb_lines.proofs.Endings.{meets_all, none_met, true_later}
use Rattle.wb_lines.proofs.LoneLines.{total, one_met}
use Rattle.wb_lines.proofs.driving.drive.Goals as goal

pub returns-in_err-new-clause-lines : goal.returns-in_err-new-clause-lines
returns-in_err-new-clause-lines g c =
    let step = g.H.Handler.step in
    let was_at = g.H.Handler.is_at c.args.handler.now in
    let left = g.R.Source.left c.args.source.now in
    let failed = g.R.Source.has_failed c.args.source.now in
    let taken = g.W.Sink.taken c.args.sink.now in
    let p = err_from_is_err_and c.from_residual.result c.from_residual.ensures.1 in
    one_met step c.args.most_lines was_at was_at left left failed taken taken c.from_residual.result (none_met alone (only_step step) c.args.most_lines was_at left taken failed c.from_residual.result (total step) (rw (p.1, p.2) refl))

pub returns-clause-lines : goal.returns-clause-lines
returns-clause-lines g c =
    let step = g.H.Handler.step in
    let was_at = g.H.Handler.is_at c.args.handler.now in
    let is_at = g.H.Handler.is_at c.drive_all-ending.new.handler in
    let source = c.drive_all-ending.new.source in
    let taken = g.W.Sink.taken c.args.sink.now in
    let taken_then = g.W.Sink.taken c.close.new.sink in
    let all = rw (c.in_ok-new.ensures, c.new-2.ensures) at c.drive_all-ending.ensures.all in
    one_met step c.args.most_lines was_at is_at (g.R.Source.left c.args.source.now) (g.R.Source.left source) (g.R.Source.has_failed source) taken taken_then c.close.result
    (meets_all alone (only_step step) c.args.most_lines was_at is_at _ _ taken_then _ _ c.close.new.output c.drive_all-ending.result c.close.result all c.close.ensures.text)

pub returns-clause-read : goal.returns-clause-read
returns-clause-read g c = λ e.
    let all = rw (c.in_ok-new.ensures, c.new-2.ensures) at c.drive_all-ending.ensures.all in
    (true_later c.args.most_lines _ _ _ _ all.0 all.1).failed (c.drive_all-ending.ensures.faults.0 (c.close.ensures.read e))

pub returns-clause-write : goal.returns-clause-write
returns-clause-write g c = λ e.
    let all = rw (c.in_ok-new.ensures, c.new-2.ensures) at c.drive_all-ending.ensures.all in
    c.close.ensures.failed (λ f. (true_later c.args.most_lines _ _ _ _ all.0 all.1).stuck (c.drive_all-ending.ensures.faults.1 f)) e
