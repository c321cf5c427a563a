use Rattle.std.proofs.Common.{ap}
use Rattle.wb_member.specs.declared.calls.Call.TheVariants.{Hear}
use Rattle.wb_keeping.specs.Kept.{Calls, and_then, performs}
use Rattle.wb_keeping.specs.Performing.{KeptValue}
use Rattle.wb_keeping.specs.Steps.{back_lines, performs_all, set_lines}
use Rattle.wb_keeping.proofs.LeftSome.{left_later, left_none, on_err}
use Rattle.wb_keeping.proofs.Performed.{quiet_then}
use Rattle.wb_keeping.proofs.kept_member.KeptMember.hear_by.Goals as goal

pub returns-clause-does : goal.returns-clause-does
returns-clause-does c =
    let lends = performs_all (set_lines c.args.source c.args.lent) in
    let line = performs (Calls (Hear c.args.datagram.now)) in
    let back = performs_all (back_lines c.args.source c.args.lent) in
    quiet_then lends (and_then line back) c.in_ok-lend.ensures.does (quiet_then line back c.in_ok-hear.ensures.does c.in_ok-take_back.ensures.does)

pub returns-in_err-hear-clause-left : goal.returns-in_err-hear-clause-left
returns-in_err-hear-clause-left c = on_err _ (
    let lends = performs_all (set_lines c.args.source c.args.lent) in
    let rest = and_then (performs (Calls (Hear c.args.datagram.now))) (performs_all (back_lines c.args.source c.args.lent)) in
    left_later lends rest c.in_ok-lend.ensures.does (left_none rest (ap (λ (v : KeptValue). v.member) c.in_err-hear.ensures.err)))

pub returns-in_err-take_back-clause-left : goal.returns-in_err-take_back-clause-left
returns-in_err-take_back-clause-left c = on_err _ (
    let lends = performs_all (set_lines c.args.source c.args.lent) in
    let line = performs (Calls (Hear c.args.datagram.now)) in
    let back = performs_all (back_lines c.args.source c.args.lent) in
    left_later lends (and_then line back) c.in_ok-lend.ensures.does (left_later line back c.in_ok-hear.ensures.does (left_none back (ap (λ (v : KeptValue). v.member) c.in_err-take_back.ensures.err))))
