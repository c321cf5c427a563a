use Rattle.std.proofs.Common.{Err, refl}
use Rattle.wb_dialog.proofs.KeptReplies.{taken_driven}
use Rattle.wb_dialog.proofs.driving.drive.Goals as goal

pub returns-in-Err : goal.returns-in-Err
returns-in-Err c = taken_driven c.args.line c.args.member c.answer.new.member c.args.board c.args.board (Err c.in-Err.fault) c.in-Err.ensures refl
