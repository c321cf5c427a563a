use Rattle.std.proofs.Common.{ℕ, [], None, Ok, Err, refl, ap, ◌∙◌}
use Rattle.std.proofs.lemmas.Result.{err_from_is_err_and}
use Rattle.wb_lines.specs.declared.handler.Stop.TheVariants as stops
use Rattle.wb_lines.specs.declared.lines.First.TheVariants as firsts
use Rattle.wb_lines.specs.Steps.{driver_fault}
use Rattle.wb_lines.proofs.Moments.{Moves-none}
use Rattle.wb_lines.proofs.Turns.{drive_starts, drive_goes, drive_stops, drive_ends}
use Rattle.wb_script.specs.Inside.Parts.{LineSays, by_batches}
use Rattle.wb_script.specs.Inside.Steps.{IsRunAt, may_take}
use Rattle.wb_script.proofs.SomeSteps.{some_step}
use Rattle.wb_script.proofs.driving.take_groups.Goals as goal

pub loop-first-init : goal.loop-first-init
loop-first-init g c = drive_starts by_batches LineSays may_take (IsRunAt c.args.host.now) _ some_step c.requires.start

pub returns-in_err-first-clause-all : goal.returns-in_err-first-clause-all
returns-in_err-first-clause-all g c =
    let next = c.in_err-first.ensures.next in
    let p = err_from_is_err_and c.from_residual.result c.from_residual.ensures.1 in
    rw (p.1, p.2)
    (drive_ends by_batches LineSays may_take (IsRunAt c.args.host.now) (IsRunAt c.loop-first.host) (Err c.in_err-first.field-0.0) c.in_err-first.ensures.sound next.0 next.1 c.loop-first.invariant)

pub returns-in_default-first-clause-all : goal.returns-in_default-first-clause-all
returns-in_default-first-clause-all g c =
    let next = rw c.in-Some.is at c.in_ok-first.ensures.next in
    drive_stops by_batches LineSays may_take (IsRunAt c.args.host.now) (IsRunAt c.loop-first.host) (IsRunAt c.loop-first.host) firsts.TooLong stops.Endless some_step c.in_ok-first.ensures.sound (rw c.in_default-first.is at next) ([], Moves-none _, (tt, λ s at. refl)) c.loop-first.invariant

pub returns-in-Err-clause-all : goal.returns-in-Err-clause-all
returns-in-Err-clause-all g c =
    let next = rw c.in-Some.is at c.in_ok-first.ensures.next in
    let t = c.in-Err.ensures.text in
    rw (c.fault_of.ensures.fault ∙ ap (λ (n : ℕ). driver_fault n c.in-Err.stop) c.done-number.ensures.count)
    (drive_stops by_batches LineSays may_take (IsRunAt c.args.host.now) (IsRunAt c.loop-first.host) (IsRunAt c.take.new.self) (firsts.Line c.in-Line.said) c.in-Err.stop some_step c.in_ok-first.ensures.sound (rw c.in-Line.is at next) (t.0, t.2.moves, (t.1, t.2.joins, t.3)) c.loop-first.invariant)

pub loop-first-preserved : goal.loop-first-preserved
loop-first-preserved g c =
    let next = rw c.in-Some.is at c.in_ok-first.ensures.next in
    let t = c.in_default-take.ensures.text in
    drive_goes by_batches LineSays may_take (IsRunAt c.args.host.now) (IsRunAt c.loop-first.host) (IsRunAt c.take.new.self) (firsts.Line c.in-Line.said) some_step c.in_ok-first.ensures.sound (rw c.in-Line.is at next) (t.0, t.2.moves, (t.1, t.2.joins, t.3)) c.loop-first.invariant

pub returns-clause-all : goal.returns-clause-all
returns-clause-all g c =
    let next = rw c.in_default.is at c.in_ok-first.ensures.next in
    rw c.done.ensures.count
    (drive_ends by_batches LineSays may_take (IsRunAt c.args.host.now) (IsRunAt c.loop-first.host) (Ok None) c.in_ok-first.ensures.sound next.0 next.1 c.loop-first.invariant)
