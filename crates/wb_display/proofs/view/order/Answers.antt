use Rattle.std.proofs.Common.{◌∙◌, ap, sym, rules, List}
use Rattle.std.specs.Prelude.{Bool, filter}
use Rattle.std.specs.Ordering.{is_lt}
use Rattle.std.proofs.lemmas.List.{take_all}
use Rattle.std.proofs.lemmas.List.Sorted.{answers_always, ranks_by}
use Rattle.wb_names.specs.Orders.{display_cmp}
use Rattle.wb_names.specs.Values.{DrawopValue}
use Rattle.wb_names.proofs.Listings.{lists_from_sorted}
use Rattle.wb_display.specs.Display.{is_shown}
use Rattle.wb_display.proofs.Deciding.{display_total, shown_apart, shown_here, picked, passed_over}
use Rattle.wb_display.proofs.view.order.Goals as goal
use Rattle.wb_display.proofs.view.order.Goals.{then-is_shown+in_ok-push, else-is_shown}

pub loop-drawop-preserved : goal.loop-drawop-preserved
loop-drawop-preserved c =
    let here = shown_here c.args.list.now c.args.page c.in_ok-words.words c.drawop-item.result c.requires c.in_ok-words.ensures.page c.in_ok-words.ensures.words ∙ sym c.is_shown.ensures in
    let test : DrawopValue → Bool = is_shown c.args.list.now c.args.page in
    elim c.if-is_shown.branch [
      | then-is_shown+in_ok-push w ↦ rw w.shown-is (picked test c.args.list.now c.loop-drawop.drawop-index c.drawop-item.result c.loop-drawop-test.true c.drawop-item.is _ _ (here ∙ w.if-is_shown.true) c.loop-drawop.invariant w.in_ok-push.ensures.items)
      | else-is_shown w ↦ rw w.shown-is (passed_over test c.args.list.now c.loop-drawop.drawop-index c.drawop-item.result c.loop-drawop-test.true c.drawop-item.is _ (here ∙ w.if-is_shown.false) c.loop-drawop.invariant)
    ]

pub returns : goal.returns
returns c =
    let sorted = c.sort_unstable_by.ensures.sorted (λ x y. is_lt (display_cmp x y)) (ranks_by display_total (λ d. d)) (answers_always _ _ _ (λ f a r g h. search rules)) in
    let kept = c.loop-drawop.invariant ∙ ap (λ (xs : List DrawopValue). filter (is_shown c.args.list.now c.args.page) xs) (take_all _ _ c.loop-drawop-test.false) in
    lists_from_sorted display_total (is_shown c.args.list.now c.args.page) c.args.list.now _ (shown_apart _ _ c.requires) (rw (← kept) c.sort_unstable_by.ensures.permutation) sorted
