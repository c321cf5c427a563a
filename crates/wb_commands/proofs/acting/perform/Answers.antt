use Rattle.wb_member.specs.Calls.{fault_of, after_call}
use Rattle.wb_commands.specs.Acts.{does}
use Rattle.wb_commands.specs.SentLines.{call_text}
use Rattle.wb_commands.proofs.Acts.{call_refused}
use Rattle.wb_commands.proofs.acting.perform.Goals as goal

pub returns-in-Err : goal.returns-in-Err
returns-in-Err c = λ host at.
    rw c.refused.ensures (call_refused c.args.member.now c.call.new.self host (fault_of c.args.call.now host) (does (after_call c.args.call.now host) (call_text c.args.call.now host)) c.call.result c.in-Err.fault c.in-Err.is (c.call.ensures.fault host at) c.in-Err.ensures.err at)
