use Rattle.wb_member.specs.declared.calls.Call.TheVariants.{Tick}
use Rattle.wb_keeping.specs.Kept.{Calls, performs, timed}
use Rattle.wb_keeping.proofs.Performed.{does_then}
use Rattle.wb_keeping.proofs.LeftSome.{on_err, left_second}
use Rattle.wb_keeping.proofs.kept_member.KeptMember.tick.Goals as goal

pub returns-clause-sent : goal.returns-clause-sent
returns-clause-sent c = λ k at. (does_then (performs (Calls (Tick c.args.now))) timed c.in_ok-sent.ensures.does c.in_ok-timed.ensures.does).at k at

pub returns-in_err-timed-clause-left : goal.returns-in_err-timed-clause-left
returns-in_err-timed-clause-left c = on_err _ (left_second (performs (Calls (Tick c.args.now))) timed c.in_ok-sent.ensures.does c.in_err-timed.ensures.left)
