use Rattle.std.proofs.Common.{rules, subst}
use Rattle.wb_gaps.specs.Starts.{IsNextPage}
use Rattle.wb_gaps.proofs.ListParts.{as_many, no_more, one_more}
use Rattle.wb_gaps.proofs.PageSteps.{next_past, none_past}
use Rattle.wb_gaps.proofs.telling.pages_past.Goals as goal

pub loop-page-preserved : goal.loop-page-preserved
loop-page-preserved c =
    let next = subst (IsNextPage c.args.ranges.now.entries c.loop-page.last) c.in-Some.is c.next_page.ensures.next in
    record {
      few = search rules;
      split = λ all listed. one_more c.args.most c.loop-page.pages.items _ _ (c.loop-page.invariant.split all listed) c.loop-page.invariant.few _ _ _
          (next_past c.args.ranges.now.entries all listed c.loop-page.last c.in-Some.page next)
          c.in_ok-push.ensures.items;
    }

pub returns-then-len-most-clause-pages : goal.returns-then-len-most-clause-pages
returns-then-len-most-clause-pages c = λ all listed. as_many c.args.most c.loop-page.pages.items _ _ (c.loop-page.invariant.split all listed) c.loop-page.invariant.few (search rules)

pub returns-clause-pages : goal.returns-clause-pages
returns-clause-pages c = λ all listed. no_more c.args.most c.loop-page.pages.items _ _ (c.loop-page.invariant.split all listed) c.loop-page.invariant.few
    (none_past c.args.ranges.now.entries all listed c.loop-page.last (subst (IsNextPage c.args.ranges.now.entries c.loop-page.last) c.in_default.is c.next_page.ensures.next))
