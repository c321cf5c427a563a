use Rattle.std.proofs.Common.{◌∙◌}
use Rattle.wb_member.specs.declared.calls.Call.TheVariants.{Tick}
use Rattle.wb_keeping.specs.Kept.{performs, and_then, timed, hears, Calls}
use Rattle.wb_keeping.specs.Performing.{after_doing}
use Rattle.wb_keeping.proofs.Performed.{does_then}
use Rattle.wb_keeping.proofs.LeftSome.{on_err, left_first, left_later, left_second}
use Rattle.wb_keeping.proofs.Refused.{came_later}
use Rattle.wb_keeping.proofs.kept_member.KeptMember.handle_datagram.Goals as goal

pub returns-clause-sent : goal.returns-clause-sent
returns-clause-sent c = λ k at. (does_then (performs (Calls (Tick c.args.now))) (and_then (hears c.args.datagram.now) timed) c.in_ok-sent.ensures.does (does_then (hears c.args.datagram.now) timed (c.in_ok-became.ensures.does.sends c.in_ok-sent.sent.items) c.in_ok-timed.ensures.does)).at k at

pub returns-clause-became : goal.returns-clause-became
returns-clause-became c = λ k at. c.in_ok-became.ensures.became (after_doing (performs (Calls (Tick c.args.now))) k) (c.in_ok-sent.ensures.does.at k at).1 ∙ came_later c.args.datagram.now c.args.now k.host

pub returns-in_err-became-clause-left : goal.returns-in_err-became-clause-left
returns-in_err-became-clause-left c = on_err _ (left_second (performs (Calls (Tick c.args.now))) (and_then (hears c.args.datagram.now) timed) c.in_ok-sent.ensures.does (left_first (hears c.args.datagram.now) timed c.in_err-became.ensures.left))

pub returns-in_err-timed-clause-left : goal.returns-in_err-timed-clause-left
returns-in_err-timed-clause-left c = on_err _ (left_second (performs (Calls (Tick c.args.now))) (and_then (hears c.args.datagram.now) timed) c.in_ok-sent.ensures.does (left_later (hears c.args.datagram.now) timed c.in_ok-became.ensures.does c.in_err-timed.ensures.left))
