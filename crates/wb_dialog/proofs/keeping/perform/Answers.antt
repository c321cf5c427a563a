use Rattle.wb_keeping.specs.Calls.{became_of, doing_of, fault_of, line_of}
use Rattle.wb_dialog.specs.Hosting.{kept_batch}
use Rattle.wb_dialog.proofs.KeptReplies.{refuses_line}
use Rattle.wb_dialog.proofs.keeping.perform.Goals as goal

pub returns-in-Err : goal.returns-in-Err
returns-in-Err c =
    let line = line_of c.args.call in
    λ k at. rw c.refused_by_kept.ensures (refuses_line _ c.args.kept.now _ k (doing_of line) (kept_batch line (became_of line k.host)) (fault_of line k) c.in-Err.fault (c.in-Err.ensures.fault k at) (c.in-Err.ensures.refused k at) at)
