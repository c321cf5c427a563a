use Rattle.wb_member.specs.Opened.{opened_with}
use Rattle.wb_dialog.proofs.Begun.{begun_by}
use Rattle.wb_dialog.proofs.beginning.begin.Goals as goal

pub returns-in-Ok : goal.returns-in-Ok
returns-in-Ok c =
    let b = c.args.board.now in
    let host = opened_with c.args.tuning b.member b.cells b.seed in
    begun_by c.args.tuning c.args.line b c.opening_of.result c.tick.new.self c.begin.result c.opening_of.ensures ((c.in-Ok.ensures.sent host (c.in_ok-member.ensures)).1) c.begin.ensures
