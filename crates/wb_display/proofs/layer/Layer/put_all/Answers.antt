use Rattle.std.proofs.Common.{◌∙◌, sym}
use Rattle.wb_display.proofs.Layers.{kept_with_room, value_stays, ties_once, shows_others, kept_after}
use Rattle.wb_display.proofs.layer.Layer.put_all.Goals as goal

pub returns-then-count-eq0-clause-ok : goal.returns-then-count-eq0-clause-ok
returns-then-count-eq0-clause-ok c = value_stays c.args.self.now c.args.drawops.now (sym c.count_news-count.ensures ∙ c.if-count-eq0.true)

pub show_all-requires-clause-ties : goal.show_all-requires-clause-ties
show_all-requires-clause-ties c = ties_once c.reserve.new.self c.take_in_all.new.words c.reserve-2.new.self.entries c.take_in_all.new.drawops.entries c.reserve-3.new.self.items c.take_in_all.new.touched.items (kept_with_room c.self.inside.words c.reserve.new.self c.self.inside.drawops.entries c.reserve-2.new.self.entries c.self.inside.shown.items c.reserve-3.new.self.items c.reserve.ensures.page c.reserve.ensures.words c.reserve-2.ensures.entries c.reserve-3.ensures.items c.self.invariant) c.take_in_all.ensures.held c.take_in_all.ensures.page c.take_in_all.ensures.touched

pub show_all-requires-clause-others : goal.show_all-requires-clause-others
show_all-requires-clause-others c = shows_others c.reserve.new.self c.take_in_all.new.words c.reserve-2.new.self.entries c.take_in_all.new.drawops.entries c.reserve-3.new.self.items c.take_in_all.new.touched.items (kept_with_room c.self.inside.words c.reserve.new.self c.self.inside.drawops.entries c.reserve-2.new.self.entries c.self.inside.shown.items c.reserve-3.new.self.items c.reserve.ensures.page c.reserve.ensures.words c.reserve-2.ensures.entries c.reserve-3.ensures.items c.self.invariant) c.take_in_all.ensures.held c.take_in_all.ensures.page c.take_in_all.ensures.touched

pub invariant_of-self-2 : goal.invariant_of-self-2
invariant_of-self-2 c = kept_after c.reserve.new.self c.take_in_all.new.words c.reserve-2.new.self.entries c.take_in_all.new.drawops.entries c.reserve-3.new.self.items c.take_in_all.new.touched.items (kept_with_room c.self.inside.words c.reserve.new.self c.self.inside.drawops.entries c.reserve-2.new.self.entries c.self.inside.shown.items c.reserve-3.new.self.items c.reserve.ensures.page c.reserve.ensures.words c.reserve-2.ensures.entries c.reserve-3.ensures.items c.self.invariant) c.take_in_all.ensures.held c.take_in_all.ensures.page c.take_in_all.ensures.touched c.show_all.new.shown.items c.show_all.ensures
