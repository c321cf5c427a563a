use Rattle.std.proofs.Common.{◌≡◌, ℕ, ◌∙◌, ap, subst, true}
use Rattle.std.specs.Prelude.{None, OnErr, OnOk, Option}
use Rattle.wb_policy.specs.Choices.{last_source}
use Rattle.wb_policy.specs.Reports.{told_in_turn}
use Rattle.wb_policy.specs.declared.reports.Told.{Told}
use Rattle.wb_keeping.specs.Kept.{reports_page}
use Rattle.wb_keeping.specs.Performing.{Does, LeavesSome}
use Rattle.wb_keeping.proofs.kept_member.KeptMember.reports_turn.Goals as goal

pub returns : goal.returns
returns c =
    let told : (last : Option ℕ) → Told = λ last. record { page = c.args.page; last = last; until = c.args.until; in_turn = true } in
    let is = ap told (c.last_source.ensures ∙ ap (last_source None) c.as_slice.ensures.entries) in
    record {
      does = subst (λ (t : Told). OnOk c.reports_page.result (Does (reports_page c.args.page t c.args.marks) c.args.self.now c.reports_page.new.self c.args.sent.now.items c.reports_page.new.sent.items)) is c.reports_page.ensures.does;
      left = subst (λ (t : Told). OnErr c.reports_page.result (LeavesSome (reports_page c.args.page t c.args.marks) c.args.self.now c.reports_page.new.self)) is c.reports_page.ensures.left;
    }
