use Rattle.std.proofs.Common.{◌∙◌, ap, rules, List, subst}
use Rattle.std.specs.Prelude.{IsPermutation}
use Rattle.std.specs.Ordering.{is_lt}
use Rattle.std.proofs.lemmas.List.{take_all}
use Rattle.std.proofs.lemmas.List.Sorted.{answers_always, ranks_by}
use Rattle.wb_names.specs.Values.{DrawopValue}
use Rattle.wb_display.specs.Laws.{on_page}
use Rattle.wb_digest.specs.Digest.{name_order}
use Rattle.wb_digest.proofs.Ordered.{order_total}
use Rattle.wb_digest.proofs.hashing.in_order.Goals as goal

pub returns : goal.returns
returns c =
    let kept = c.loop-drawop.invariant ∙ ap (λ (xs : List DrawopValue). on_page c.args.page xs) (take_all _ _ c.loop-drawop-test.false) in
    record {
      all = subst (λ (xs : List DrawopValue). IsPermutation xs c.sort_unstable_by.new.self.items) kept c.sort_unstable_by.ensures.permutation;
      ascending = c.sort_unstable_by.ensures.sorted (λ x y. is_lt (name_order x y)) (ranks_by order_total (λ d. d)) (answers_always _ _ _ (λ f a r g h. search rules));
    }
