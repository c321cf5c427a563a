use Rattle.std.proofs.Common.{refl, rules}
use Rattle.std.proofs.lemmas.Fn.{always_returns_same}
use Rattle.wb_names.specs.Orders.{display_cmp}
use Rattle.wb_names.specs.Values.{DrawopValue}
use Rattle.wb_display.proofs.Placing.{place_from_search, place_at_end}
use Rattle.wb_display.proofs.display_list.place_in.Goals as goal

pub returns-in-Some : goal.returns-in-Some
returns-in-Some c = place_at_end c.args.list.now c.args.drawop.now c.in-Some.last.now c.in-Some.ensures.item.3.0 (c.in-Some.ensures.item.1) (c.if-before.ensures.0 refl)

pub returns-in-Some-2 : goal.returns-in-Some-2
returns-in-Some-2 c = place_from_search c.args.list.now c.args.drawop.now c.binary_search_by.result c.binary_search_by.ensures.bound (c.binary_search_by.ensures.position (λ (x : DrawopValue). display_cmp x c.args.drawop.now) (always_returns_same _ _ _ (λ a r g h. (search rules, search rules))))
