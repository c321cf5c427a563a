use Rattle.std.proofs.Common.{◌≡◌, ◌∙◌, ap, subst, sym}
use Rattle.std.specs.Prelude.{None}
use Rattle.wb_names.specs.declared.name.PageId.{PageId}
use Rattle.wb_gaps.specs.Answers.{pages_of, report_of}
use Rattle.wb_policy.specs.Choices.{until_in}
use Rattle.wb_keeping.specs.Kept.{reports_next, reports_turn}
use Rattle.wb_keeping.specs.Performing.{Does, KeptValue, sees}
use Rattle.wb_policy.specs.Reports.{page_after, slice_after}
use Rattle.wb_keeping.proofs.LeftSome.{left_none, on_err}
use Rattle.wb_keeping.proofs.Performed.{at_inside, does_as}
use Rattle.wb_keeping.proofs.kept_member.KeptMember.reports_next.Goals as goal

pub returns-clause-does : goal.returns-clause-does
returns-clause-does c =
    let page = c.in_ok-page.page in
    let until = c.in_ok-until.until in
    let first = c.in_ok-first.first in
    let before : c.until.new.self ≡ c.args.self.now = c.until.ensures.same ∙ c.next_page.ensures.same in
    let same : c.slice.new.self ≡ c.args.self.now = c.slice.ensures.same ∙ before in
    does_as reports_next (reports_turn page until first) (λ k at.
    let next : page ≡ page_after k.policy.told.page (pages_of k.host.is.held) = c.in_ok-page.ensures.next k at in
    let ends : until ≡ until_in (report_of k.host.is.held page) = c.in_ok-until.ensures.until k (at_inside k c.next_page.ensures.same at) in
    let begins : first ≡ slice_after None (report_of k.host.is.held page) = c.in_ok-first.ensures.slice k (at_inside k before at) in
    ap (λ (q : PageId). reports_turn q (until_in (report_of k.host.is.held q)) (slice_after None (report_of k.host.is.held q)) (sees k.host) k.policy) (sym next)
    ∙ (λ i. reports_turn page (sym ends i) (sym begins i) (sees k.host) k.policy))
    (subst (λ (v : KeptValue). Does (reports_turn page until first) v c.reports_turn.new.self c.args.sent.now.items c.reports_turn.new.sent.items) same c.in_ok-reports_turn.ensures.does)

pub returns-in_err-first-clause-left : goal.returns-in_err-first-clause-left
returns-in_err-first-clause-left c = on_err _ (left_none reports_next (ap (λ (v : KeptValue). v.member) (c.slice.ensures.same ∙ c.until.ensures.same ∙ c.next_page.ensures.same)))
