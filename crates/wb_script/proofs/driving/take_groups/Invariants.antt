use Rattle.std.proofs.Common.{◌-◌}
use Rattle.wb_lines.specs.Progress.{reached}
use Rattle.wb_lines.proofs.Turns.{Drove}
use Rattle.wb_script.specs.Inside.Parts.{LineSays, by_batches}
use Rattle.wb_script.specs.Inside.Steps.{IsRunAt, may_take}
use Rattle.wb_script.proofs.driving.take_groups.Given as goal

abbrev pub invariant-loop-first : goal.invariant-loop-first
invariant-loop-first g l =
    Drove by_batches LineSays may_take (IsRunAt l.fn.host) (IsRunAt l.host)
    (reached g.R.Source g.W.Sink l.fn.progress l.fn.source l.fn.sink)
    (reached g.R.Source g.W.Sink l.progress l.source l.sink)

abbrev pub decreases-loop-first : goal.decreases-loop-first
decreases-loop-first g l = l.fn.progress.lines.most - l.progress.lines.done
