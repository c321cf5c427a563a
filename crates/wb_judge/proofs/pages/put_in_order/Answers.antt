use Rattle.std.proofs.Common.{rules}
use Rattle.std.proofs.lemmas.List.Sorted.{answers_always}
use Rattle.wb_judge.specs.Pages.{is_listed_before}
use Rattle.wb_judge.proofs.Listing.{listing_is_an_order}
use Rattle.wb_judge.proofs.pages.put_in_order.Goals as goal

pub returns-clause-order : goal.returns-clause-order
returns-clause-order c = c.sort_unstable_by.ensures.sorted is_listed_before listing_is_an_order (answers_always _ _ _ (λ f a r g h. search rules))
