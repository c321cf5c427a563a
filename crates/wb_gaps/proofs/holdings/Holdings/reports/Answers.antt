use Rattle.std.proofs.Common.{◌∙◌, subst, sym}
use Rattle.std.proofs.lemmas.List.{take_all}
use Rattle.wb_gaps.specs.Pages.{ArePages}
use Rattle.wb_gaps.proofs.AllReports.{pages_more, each_more}
use Rattle.wb_gaps.proofs.holdings.Holdings.reports.Goals as goal

pub loop-page-preserved : goal.loop-page-preserved
loop-page-preserved c = record {
  pages = pages_more c.loop-page.reports.items _ _ c.loop-page.page-index _ _ c.loop-page-test.true c.in_ok-push.ensures.items c.loop-page.invariant.pages;
  each = λ history held. each_more history c.loop-page.reports.items _ _ _ c.in_ok-push.ensures.items (c.loop-page.invariant.each history held) (c.in_ok-marks.ensures history held);
}

pub returns : goal.returns
returns c = λ history held. record {
  pages = subst (ArePages history) (sym (c.loop-page.invariant.pages ∙ take_all _ _ c.loop-page-test.false ∙ c.deref-page-items.ensures.value)) (c.in_ok-pages.ensures history held);
  each = c.loop-page.invariant.each history held;
}
