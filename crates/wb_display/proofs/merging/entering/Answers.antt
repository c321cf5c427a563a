use Rattle.std.proofs.Common.{subst, rules, List}
use Rattle.std.specs.Prelude.{not, ◌&&◌, IsPermutation}
use Rattle.std.specs.Ordering.{eq_by_cmp, is_lt}
use Rattle.std.proofs.lemmas.Fn.{filter_same, dedup_same}
use Rattle.std.proofs.lemmas.List.Sorted.{answers_always, ranks_by}
use Rattle.wb_names.specs.Values.{DrawopValue}
use Rattle.wb_names.specs.Orders.{display_cmp}
use Rattle.wb_display.specs.DisplayList.{ties_with}
use Rattle.wb_display.specs.LastWords.{is_shown_now}
use Rattle.wb_display.proofs.Deciding.{display_total}
use Rattle.wb_display.proofs.ShowingAll.{enters}
use Rattle.wb_display.proofs.merging.entering.Goals as goal

pub returns-clause-enters : goal.returns-clause-enters
returns-clause-enters c =
    let kept = filter_same _ (λ x. is_shown_now c.args.words.now x && not (ties_with c.args.shown.now x)) _ (λ x b f' k. (search (rules, c.requires), search rules)) _ _ c.retain.ensures.filtered in
    let sorted = c.sort_unstable_by.ensures.sorted (λ x y. is_lt (display_cmp x y)) (ranks_by display_total (λ d. d)) (answers_always _ _ _ (λ f a r g h. search rules)) in
    let once = dedup_same _ (eq_by_cmp display_cmp) _ (λ x y b f' x' y' k. search rules) _ _ c.dedup_by.ensures.filtered in
    enters (is_shown_now c.args.words.now) c.args.shown.now c.args.touched.items c.sort_unstable_by.new.self.items c.dedup_by.new.self.items (subst (λ (xs : List DrawopValue). IsPermutation xs c.sort_unstable_by.new.self.items) kept c.sort_unstable_by.ensures.permutation) sorted once
