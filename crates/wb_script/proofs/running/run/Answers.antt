use Rattle.std.proofs.Common.{refl, Err, subst}
use Rattle.wb_lines.specs.declared.fault.DriveFault.{DriveFault}
use Rattle.wb_commands.specs.declared.fault.LineFault.{LineFault}
use Rattle.wb_script.specs.Script.{run_start}
use Rattle.wb_script.proofs.Ending.{Met_of, run_counted, runs_end, ends_reads, ends_writes}
use Rattle.wb_script.proofs.running.run.Goals as goal

pub ended_with-requires-clause-counted : goal.ended_with-requires-clause-counted
ended_with-requires-clause-counted g c = λ e is.
    let l = rw (c.from-most_lines.ensures, c.new-host.ensures) at c.take_lines-ending.ensures.lines in
    let new = c.take_lines-ending.new in
    let met = l.4 (run_start c.args.workers) (record { member = tt; workers = refl; waiting = refl }) in
    run_counted new.host (run_start c.args.workers) (g.R.Source.has_failed new.source) l.0 l.1 e (rw is at met)

pub returns-clause-script : goal.returns-clause-script
returns-clause-script g c =
    let l = rw (c.from-most_lines.ensures, c.new-host.ensures) at c.take_lines-ending.ensures.lines in
    let new = c.take_lines-ending.new in
    let met = l.4 (run_start c.args.workers) (record { member = tt; workers = refl; waiting = refl }) in
    (l.0, l.1, l.2, l.3, rw c.ended_with.ensures (runs_end new.host c.args.workers (g.R.Source.has_failed new.source) l.0 l.1 c.held.result c.is_refused.result c.take_lines-ending.result met c.held.ensures))

pub returns-clause-read : goal.returns-clause-read
returns-clause-read g c = λ e. c.take_lines-ending.ensures.read (ends_reads c.held.result c.is_refused.result c.take_lines-ending.result (rw c.ended_with.ensures at e))

pub returns-clause-write : goal.returns-clause-write
returns-clause-write g c = λ e. c.take_lines-ending.ensures.write (ends_writes c.held.result c.is_refused.result c.take_lines-ending.result (rw c.ended_with.ensures at e))
