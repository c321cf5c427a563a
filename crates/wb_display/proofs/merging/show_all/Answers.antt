use Rattle.std.proofs.Common.{◌∙◌, ◌⊎◌, List, subst}
use Rattle.std.specs.Prelude.{Contains}
use Rattle.std.proofs.lemmas.List.Kept.{IsStrictlySortedBy-filter}
use Rattle.wb_names.specs.Listing.{Lists}
use Rattle.wb_names.specs.Orders.{display_cmp}
use Rattle.wb_names.specs.Values.{DrawopValue}
use Rattle.wb_display.specs.DisplayList.{Enters}
use Rattle.wb_display.specs.LastWords.{is_shown_now}
use Rattle.wb_display.proofs.ShowingAll.{all_shown, apart_from_enters}
use Rattle.wb_display.proofs.merging.show_all.Goals as goal

pub entering-entering-requires : goal.entering-entering-requires
entering-entering-requires c = rw (c.deref-2.ensures.value, c.hide.ensures.items) (IsStrictlySortedBy-filter display_cmp (is_shown_now c.args.words.now) c.args.shown.now.items c.requires.rising)

pub enter-requires-clause-list : goal.enter-requires-clause-list
enter-requires-clause-list c = rw c.hide.ensures.items (IsStrictlySortedBy-filter display_cmp (is_shown_now c.args.words.now) c.args.shown.now.items c.requires.rising)

pub enter-requires-clause-apart : goal.enter-requires-clause-apart
enter-requires-clause-apart c = rw (c.deref-3.ensures.value, ← c.deref-2.ensures.value) (apart_from_enters (is_shown_now c.args.words.now) c.deref-2.result.now c.args.touched.items c.entering-entering.result.items c.entering-entering.ensures.enters)

pub returns : goal.returns
returns c =
    let passes = is_shown_now c.args.words.now in
    let enter = subst (λ (xs : List DrawopValue). Enters passes xs c.args.touched.items c.entering-entering.result.items) (c.deref-2.ensures.value ∙ c.hide.ensures.items) c.entering-entering.ensures.enters in
    let listed = subst (λ (xs : List DrawopValue). Lists display_cmp (λ x. Contains xs x ⊎ Contains c.entering-entering.result.items x) c.enter.new.list.items) c.hide.ensures.items (subst (λ (ys : List DrawopValue). Lists display_cmp (λ x. Contains c.hide.new.shown.items x ⊎ Contains ys x) c.enter.new.list.items) c.deref-3.ensures.value c.enter.ensures) in
    all_shown passes c.args.shown.now.items c.args.touched.items c.entering-entering.result.items c.enter.new.list.items c.requires.ties enter listed
