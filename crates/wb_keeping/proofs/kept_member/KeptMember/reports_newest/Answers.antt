use Rattle.std.proofs.Common.{ap}
use Rattle.wb_keeping.specs.Kept.{reports_newest}
use Rattle.wb_keeping.specs.Performing.{KeptValue}
use Rattle.wb_keeping.proofs.LeftSome.{left_none, on_err}
use Rattle.wb_keeping.proofs.kept_member.KeptMember.reports_newest.Goals as goal

pub returns-in_err-slice-clause-left : goal.returns-in_err-slice-clause-left
returns-in_err-slice-clause-left c = on_err _ (left_none (reports_newest c.args.name.now) (ap (λ (v : KeptValue). v.member) c.slice_with.ensures.same))
