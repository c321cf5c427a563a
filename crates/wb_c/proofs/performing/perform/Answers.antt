use Rattle.wb_keeping.specs.Calls.{line_of}
use Rattle.wb_member.specs.Holding.{outcome_in}
use Rattle.wb_c.proofs.Performed.{performs_line, refuses_line}
use Rattle.wb_c.proofs.performing.perform.Goals as goal

pub returns-in-Err : goal.returns-in-Err
returns-in-Err c =
    refuses_line _ (line_of c.args.call) c.args.kept.now c.call.new.self c.args.events.now.items c.kept_status.result c.in-Err.fault c.kept_status.ensures
    c.in-Err.ensures.fault c.in-Err.ensures.refused

pub returns-in_ok-add_became-in-Ok : goal.returns-in_ok-add_became-in-Ok
returns-in_ok-add_became-in-Ok c =
    let it = c.in-Ok in
    performs_line it.field-0 (line_of c.args.call) c.args.kept.now c.call.new.self c.args.events.now.items c.add_sent.new.events.items c.add_became.new.events.items it.field-0.sent.items (outcome_in it.field-0.became) it.ensures.fault
    it.ensures.sent it.ensures.became c.in_ok-add_sent-in-Ok.ensures c.in_ok-add_became-in-Ok.ensures
