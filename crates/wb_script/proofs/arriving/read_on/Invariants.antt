use Rattle.std.proofs.Common.{◌≤◌, ◌-◌, ◌+◌}
use Rattle.wb_lines.specs.Progress.{reached}
use Rattle.wb_script.specs.Script.{most_lines}
use Rattle.wb_script.proofs.Reading.{Skips}
use Rattle.wb_script.proofs.arriving.read_on.Given as goal

abbrev pub invariant-loop-said : goal.invariant-loop-said
invariant-loop-said g l =
    (l.fn.progress.lines.done ≤ l.progress.lines.done)
    × Skips (reached g.R.Source g.W.Sink l.fn.progress l.fn.source l.fn.sink) (reached g.R.Source g.W.Sink l.progress l.source l.sink)

abbrev pub decreases-loop-said : goal.decreases-loop-said
decreases-loop-said g l = (most_lines + 1) - l.progress.lines.done
