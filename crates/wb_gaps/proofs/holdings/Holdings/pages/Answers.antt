use Rattle.std.proofs.Common.{◌≡◌, ◌∙◌, List, None, ap, arith, refl, subst, sym, take}
use Rattle.std.proofs.lemmas.List.{take_all}
use Rattle.wb_names.specs.Listing.{Lists}
use Rattle.wb_names.specs.Orders.{page_cmp}
use Rattle.wb_gaps.specs.Holdings.{HeldRange, HoldNamesOf}
use Rattle.wb_gaps.specs.Starts.{HasPage, is_past}
use Rattle.wb_gaps.proofs.ListParts.{all_left}
use Rattle.wb_gaps.proofs.PageRanges.{pages_are}
use Rattle.wb_gaps.proofs.PageSteps.{all_pages, few_pages, pages_in}
use Rattle.wb_gaps.proofs.holdings.Holdings.pages.Goals as goal

pub returns : goal.returns
returns c = λ history held.
    let ranges = c.self.inside.ranges in
    let ordered = c.in_ok-pages.ensures.ordered in
    let all = pages_in ranges.entries in
    let listed = all_pages ranges ordered in
    let found : c.in_ok-pages.pages.items ≡ all = c.in_ok-pages.ensures.pages all listed
    ∙ ap (take c.len.result) (all_left (is_past None) all (λ page. refl))
    ∙ take_all c.len.result all (omega (arith, few_pages ranges.entries, c.len.ensures.len)) in
    pages_are ranges ordered c.self.invariant.ranges history (subst (λ (rs : List HeldRange). HoldNamesOf history rs) (sym c.self.view_is) held) _
    (subst (Lists page_cmp (HasPage ranges.entries)) (sym found) listed)
