use Rattle.std.proofs.Common.{◌-◌}
use Rattle.wb_lines.specs.Items.{alone}
use Rattle.wb_lines.specs.Groups.{only_step}
use Rattle.wb_lines.specs.Progress.{reached}
use Rattle.wb_lines.proofs.LoneLines.{says_any}
use Rattle.wb_lines.proofs.Turns.{Drove}
use Rattle.wb_lines.proofs.driving.drive_all.Given as goal

abbrev pub invariant-loop-first : goal.invariant-loop-first
invariant-loop-first g l =
    Drove alone says_any (only_step g.H.Handler.step) (g.H.Handler.is_at l.fn.handler) (g.H.Handler.is_at l.handler)
    (reached g.R.Source g.W.Sink l.fn.progress l.fn.source l.fn.sink) (reached g.R.Source g.W.Sink l.progress l.source l.sink)

abbrev pub decreases-loop-first : goal.decreases-loop-first
decreases-loop-first g l = l.fn.progress.lines.most - l.progress.lines.done
