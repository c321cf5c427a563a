use Rattle.std.proofs.Common.{◌≡◌, Bool, true, cond, ◌∙◌, ap, sym}
use Rattle.std.specs.Prelude.{nat_le}
use Rattle.wb_keeping.specs.Kept.{still, reports, reports_due}
use Rattle.wb_keeping.specs.Performing.{sees}
use Rattle.wb_policy.specs.Policy.{Policy}
use Rattle.wb_keeping.proofs.Performed.{at_inside, does_as}
use Rattle.wb_keeping.proofs.LeftSome.{on_err, left_as}
use Rattle.wb_member.specs.Opened.{present}
use Rattle.wb_keeping.proofs.kept_member.KeptMember.reports_due.Goals as goal

pub returns-clause-does : goal.returns-clause-does
returns-clause-does c = does_as reports_due reports (λ k at.
    let inside = at_inside k c.self.view_is at in
    let now : c.moment.result ≡ present k.host = c.moment.ensures.moment k.host inside.member in
    let due : nat_le k.policy.reports.due (present k.host) ≡ true = ap (λ (p : Policy). nat_le p.reports.due (present k.host)) (sym inside.policy) ∙ ap (nat_le c.self.inside.policy.reports.due) (sym now) ∙ sym c.if-not-reports.ensures in
    ap (λ (b : Bool). cond b (reports (sees k.host) k.policy) (still (sees k.host) k.policy)) due)
    c.in_ok-reports.ensures.does

pub returns-in_err-reports-clause-left : goal.returns-in_err-reports-clause-left
returns-in_err-reports-clause-left c = on_err _ (left_as reports_due reports (λ k at.
    let inside = at_inside k c.self.view_is at in
    let now : c.moment.result ≡ present k.host = c.moment.ensures.moment k.host inside.member in
    let due : nat_le k.policy.reports.due (present k.host) ≡ true = ap (λ (p : Policy). nat_le p.reports.due (present k.host)) (sym inside.policy) ∙ ap (nat_le c.self.inside.policy.reports.due) (sym now) ∙ sym c.if-not-reports.ensures in
    ap (λ (b : Bool). cond b (reports (sees k.host) k.policy) (still (sees k.host) k.policy)) due)
    c.in_err-reports.ensures.left)
