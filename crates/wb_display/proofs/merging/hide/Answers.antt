use Rattle.std.proofs.Common.{rules}
use Rattle.std.proofs.lemmas.Fn.{filter_same}
use Rattle.wb_display.specs.LastWords.{is_shown_now}
use Rattle.wb_display.proofs.ShowingAll.{none_hidden}
use Rattle.wb_display.proofs.merging.hide.Goals as goal

pub returns-then-not-all_shown-clause-items : goal.returns-then-not-all_shown-clause-items
returns-then-not-all_shown-clause-items c = filter_same _ (is_shown_now c.args.words.now) _ (λ x b f' k. (search rules, search rules)) _ _ c.retain.ensures.filtered

pub returns-else-not-all_shown-clause-items : goal.returns-else-not-all_shown-clause-items
returns-else-not-all_shown-clause-items c = none_hidden (is_shown_now c.args.words.now) c.args.shown.now.items c.args.touched.now c.requires (c.all_shown.ensures.0 c.if-not-all_shown.false)
