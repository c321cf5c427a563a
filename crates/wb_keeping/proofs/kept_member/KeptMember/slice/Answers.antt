use Rattle.std.proofs.Common.{◌∙◌}
use Rattle.wb_gaps.specs.Answers.{report_of}
use Rattle.wb_keeping.proofs.Performed.{at_inside}
use Rattle.wb_keeping.proofs.ToldParts.{slice_told}
use Rattle.wb_keeping.proofs.kept_member.KeptMember.slice.Goals as goal

pub returns-clause-slice : goal.returns-clause-slice
returns-clause-slice c = λ k at. c.in_ok-slice.ensures.marks k.host (at_inside k c.self.view_is at).member ∙ slice_told c.args.told (report_of k.host.is.held c.args.page)
