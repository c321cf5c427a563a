use Rattle.crossbeam_channel.specs.Claims.{view, IsSeatAt}
use Rattle.crossbeam_channel.specs.Ends.{receives_on}
use Rattle.wb_feed.specs.Inside.Serving.{Served}
use Rattle.wb_feed.proofs.worker.serve.Given as goal

abbrev pub invariant-loop : goal.invariant-loop
invariant-loop g l = IsSeatAt (receives_on l.shared.end.now) l.pass × Served l.initial.desk l.desk (view l.pass) l.told.replies.items l.failed
