use Rattle.std.proofs.Common.{◌∙◌, ap, sym, subst, List}
use Rattle.wb_names.specs.Values.{DrawopValue}
use Rattle.wb_digest.specs.Digest.{IsDigest}
use Rattle.wb_display.specs.Canvas.{canvas_text}
use Rattle.wb_member.specs.Holding.{MemberValue, IsOpenAt}
use Rattle.wb_member.specs.Opened.{board_of}
use Rattle.wb_member.specs.Questions.{canvas, gaps, report, pages, view, digest}
use Rattle.wb_member.proofs.Boards.{view_here, gaps_here, report_here, pages_here, digest_here}
use Rattle.wb_member.proofs.member.Member.answer.Goals as goal

pub returns-in_ok-canvas-in-Canvas-clause-answer : goal.returns-in_ok-canvas-in-Canvas-clause-answer
returns-in_ok-canvas-in-Canvas-clause-answer c = λ host at.
    let v = c.self.inside in
    let there = subst (λ (s : MemberValue). IsOpenAt s host) (sym c.self.view_is) at in
    let lent = c.shown.follows.holds-at-none in
    let answer = rw c.in_ok-shown-in-Canvas.was at lent.1 in
    let shown = view_here v.board v.desk c.shown.follows.lender-at-none (board_of host) c.in-Canvas.page c.in_ok-shown-in-Canvas.shown.now there.board c.self.invariant lent.0 answer.1 in
    rw c.in-Canvas.is (ap canvas (c.in_ok-canvas-in-Canvas.ensures ∙ ap (λ (ds : List DrawopValue). canvas_text ds c.in-Canvas.width c.in-Canvas.height) shown))

pub returns-in_ok-gaps-in-Gaps-clause-answer : goal.returns-in_ok-gaps-in-Gaps-clause-answer
returns-in_ok-gaps-in-Gaps-clause-answer c = λ host at.
    let v = c.self.inside in
    let there = subst (λ (s : MemberValue). IsOpenAt s host) (sym c.self.view_is) at in
    rw c.in-Gaps.is (ap gaps (gaps_here v.desk (board_of host) c.in-Gaps.page _ _ _ there.board (c.marks.ensures ∙ there.keeper.merged c.in-Gaps.page) (c.in_ok-gaps-in-Gaps.ensures v.desk.seen c.in_ok-holdings-in-Gaps.ensures.holds)))

pub returns-in_ok-marks-in-Report-clause-answer : goal.returns-in_ok-marks-in-Report-clause-answer
returns-in_ok-marks-in-Report-clause-answer c = λ host at.
    let v = c.self.inside in
    let there = subst (λ (s : MemberValue). IsOpenAt s host) (sym c.self.view_is) at in
    rw c.in-Report.is (ap report (report_here v.desk (board_of host) c.in-Report.page _ there.board c.self.invariant.sound (c.in_ok-marks-in-Report.ensures v.desk.seen c.in_ok-holdings-in-Report.ensures.holds)))

pub returns-in_ok-pages-in-Pages-clause-answer : goal.returns-in_ok-pages-in-Pages-clause-answer
returns-in_ok-pages-in-Pages-clause-answer c = λ host at.
    let v = c.self.inside in
    let there = subst (λ (s : MemberValue). IsOpenAt s host) (sym c.self.view_is) at in
    rw c.in-Pages.is (ap pages (pages_here v.desk (board_of host) _ there.board (c.in_ok-pages-in-Pages.ensures v.desk.seen c.in_ok-holdings-in-Pages.ensures.holds)))

pub returns-in_ok-view-in-View-clause-answer : goal.returns-in_ok-view-in-View-clause-answer
returns-in_ok-view-in-View-clause-answer c = λ host at.
    let v = c.self.inside in
    let there = subst (λ (s : MemberValue). IsOpenAt s host) (sym c.self.view_is) at in
    rw c.in-View.is (ap view (view_here v.board v.desk c.view.new.desk (board_of host) c.in-View.page _ there.board c.self.invariant c.view.ensures.desk c.in_ok-view-in-View.ensures.answer))

pub returns-in_ok-digest-in-Digest-clause-answer : goal.returns-in_ok-digest-in-Digest-clause-answer
returns-in_ok-digest-in-Digest-clause-answer c = λ host at.
    let v = c.self.inside in
    let there = subst (λ (s : MemberValue). IsOpenAt s host) (sym c.self.view_is) at in
    rw c.in-Digest.is (ap digest (digest_here v.desk (board_of host) c.in-Digest.page _ there.board c.self.invariant.sound (subst (λ (ds : List DrawopValue). IsDigest ds c.in-Digest.page c.in_ok-digest-in-Digest.digest) c.list.ensures.value c.in_ok-digest-in-Digest.ensures)))
