use Rattle.std.proofs.Common.{ℕ, ◌∙◌, Option, None, ap}
use Rattle.std.specs.Prelude.{unwrap_or}
use Rattle.wb_gaps.specs.Answers.{report_of}
use Rattle.wb_keeping.proofs.Performed.{at_inside}
use Rattle.wb_keeping.proofs.ToldParts.{last_told}
use Rattle.wb_keeping.proofs.kept_member.KeptMember.until.Goals as goal

pub returns-clause-until : goal.returns-clause-until
returns-clause-until c = λ k at.
    let last = c.in_ok-last.ensures.last k.host (at_inside k c.self.view_is at).member ∙ last_told None (report_of k.host.is.held c.args.page) in
    c.unwrap_or.ensures ∙ ap (λ (o : Option ℕ). unwrap_or o 0) last
