use Rattle.std.proofs.Common.{ℕ, None, Ok, Err, ap, ◌∙◌}
use Rattle.std.proofs.lemmas.Result.{err_from_is_err_and}
use Rattle.wb_lines.specs.Items.{alone}
use Rattle.wb_lines.specs.Groups.{only_step}
use Rattle.wb_lines.specs.Steps.{driver_fault}
use Rattle.wb_lines.proofs.LoneLines.{says_any, total}
use Rattle.wb_lines.proofs.Turns.{drive_starts, drive_goes, drive_stops, drive_ends}
use Rattle.wb_lines.proofs.driving.drive_all.Goals as goal

pub loop-first-init : goal.loop-first-init
loop-first-init g c = drive_starts alone says_any (only_step g.H.Handler.step) (g.H.Handler.is_at c.args.handler.now) _ (total g.H.Handler.step) c.requires.start

pub returns-in_err-first-clause-all : goal.returns-in_err-first-clause-all
returns-in_err-first-clause-all g c =
    let next = c.in_err-first.ensures.next in
    let p = err_from_is_err_and c.from_residual.result c.from_residual.ensures.1 in
    rw (p.1, p.2)
    (drive_ends alone says_any (only_step g.H.Handler.step) (g.H.Handler.is_at c.args.handler.now) (g.H.Handler.is_at c.loop-first.handler) (Err c.in_err-first.field-0.0) c.in_err-first.ensures.sound next.0 next.1 c.loop-first.invariant)

pub returns-in-Err-clause-all : goal.returns-in-Err-clause-all
returns-in-Err-clause-all g c =
    let next = rw c.in-Some.is at c.in_ok-first.ensures.next in
    rw (c.fault_of.ensures.fault ∙ ap (λ (n : ℕ). driver_fault n c.in-Err.stop) c.done-number.ensures.count)
    (drive_stops alone says_any (only_step g.H.Handler.step) (g.H.Handler.is_at c.args.handler.now) (g.H.Handler.is_at c.loop-first.handler) (g.H.Handler.is_at c.hand_over.new.handler) c.in-Some.first c.in-Err.stop (total g.H.Handler.step) c.in_ok-first.ensures.sound next c.in-Err.ensures c.loop-first.invariant)

pub loop-first-preserved : goal.loop-first-preserved
loop-first-preserved g c =
    let next = rw c.in-Some.is at c.in_ok-first.ensures.next in
    drive_goes alone says_any (only_step g.H.Handler.step) (g.H.Handler.is_at c.args.handler.now) (g.H.Handler.is_at c.loop-first.handler) (g.H.Handler.is_at c.hand_over.new.handler) c.in-Some.first (total g.H.Handler.step) c.in_ok-first.ensures.sound next c.in_default-hand_over.ensures c.loop-first.invariant

pub returns-clause-all : goal.returns-clause-all
returns-clause-all g c =
    let next = rw c.in_default.is at c.in_ok-first.ensures.next in
    rw c.done.ensures.count
    (drive_ends alone says_any (only_step g.H.Handler.step) (g.H.Handler.is_at c.args.handler.now) (g.H.Handler.is_at c.loop-first.handler) (Ok None) c.in_ok-first.ensures.sound next.0 next.1 c.loop-first.invariant)
