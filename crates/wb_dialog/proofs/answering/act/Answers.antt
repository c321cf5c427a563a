use Rattle.std.proofs.Common.{Ok, Err}
use Rattle.wb_commands.specs.Acts.{act}
use Rattle.wb_dialog.proofs.KeptReplies.{takes}
use Rattle.wb_dialog.proofs.answering.act.Goals as goal

pub returns-in-Ok : goal.returns-in-Ok
returns-in-Ok c = takes c.args.member.now c.take.new.member (act c.args.command.now) (Ok c.in-Ok.told) c.in-Ok.ensures

pub returns-in-Err : goal.returns-in-Err
returns-in-Err c = rw c.refused.ensures (takes c.args.member.now c.take.new.member (act c.args.command.now) (Err c.in-Err.fault) c.in-Err.ensures)
