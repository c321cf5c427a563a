use Rattle.std.proofs.Common.{Ok}
use Rattle.wb_dialog.proofs.EachKind.{leads_driven, no_judge}
use Rattle.wb_dialog.proofs.driving.take_driven.Goals as goal

pub returns-in-Ok : goal.returns-in-Ok
returns-in-Ok c = leads_driven c.args.tuning c.args.said (Ok c.in-Ok.line) c.in-Ok.ensures.line (no_judge c.args.said c.in_default.not-Judge) c.args.member c.args.board c.take.result.0 c.take.result.1 (c.take.ensures c.args.tuning)
