use Rattle.std.proofs.Common.{◌≡◌, ◌<◌, ◌∙◌, ap, subst, List, length}
use Rattle.std.specs.Prelude.{Result, Err, is_ok, insert, if◌then◌else◌}
use Rattle.std.specs.List.{HoldsAt}
use Rattle.std.specs.declared.alloc.AllocFailed.{AllocFailed}
use Rattle.std.specs.declared.cmp.Ordering.TheVariants.{Equal}
use Rattle.wb_names.specs.Orders.{display_cmp}
use Rattle.wb_names.specs.Values.{DrawopValue}
use Rattle.wb_display.specs.DisplayList.{IsPlaceOf}
use Rattle.wb_display.proofs.Placing.{entered, left, tied_is}
use Rattle.wb_display.proofs.display_list.set_shown.Goals as goal

pub returns-then-not-shows : goal.returns-then-not-shows
returns-then-not-shows c up alone =
    let listed = c.deref.ensures.value in
    let within : c.in-Ok.place < length c.args.list.now.items = subst (λ (xs : List DrawopValue). c.in-Ok.place < length xs) listed c.in-Ok.ensures.0 in
    let tied = subst (λ (xs : List DrawopValue). HoldsAt (λ x. display_cmp x c.args.drawop.now ≡ Equal) xs c.in-Ok.place) listed c.in-Ok.ensures.1 in
    rw (c.if-not-shows.true, c.remove.ensures.items) (left c.args.list.now.items up c.args.drawop.now c.in-Ok.place within (tied_is c.args.list.now.items c.args.drawop.now c.in-Ok.place within tied alone))

pub returns-then-shows : goal.returns-then-shows
returns-then-shows c up alone =
    let listed = c.deref.ensures.value in
    let here = subst (λ (xs : List DrawopValue). IsPlaceOf xs c.args.drawop.now (Err c.in-Err.place)) listed c.in-Err.ensures in
    let placed = c.insert.ensures.items ∙ ap (λ (r : Result (Unit {0}) (AllocFailed DrawopValue)). if is_ok r then insert c.args.list.now.items c.in-Err.place c.args.drawop.now else c.args.list.now.items) c.unwrap.ensures in
    rw (c.if-shows.true, placed) (entered c.args.list.now.items up c.args.drawop.now c.in-Err.place here.0 (here.1 up))
