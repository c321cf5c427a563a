use Rattle.std.proofs.Common.{refl, sym, ap, subst, List, ◌∙◌}
use Rattle.wb_names.specs.Values.{DrawopValue}
use Rattle.wb_names.specs.History.{IsHistory}
use Rattle.wb_history.specs.Passes.{PassValue, IsCaughtUp}
use Rattle.wb_display.specs.Display.{IsView}
use Rattle.wb_board.specs.Layers.{AreLayersOf}
use Rattle.wb_board.specs.Desks.{ReadsOn}
use Rattle.wb_board.proofs.PageLayers.{shows_all}
use Rattle.wb_board.proofs.desk.Desk.shown.Goals as goal

pub bring_up-requires : goal.bring_up-requires
bring_up-requires c = subst (λ (list : List DrawopValue). AreLayersOf list c.self.inside.layers.entries) (sym c.list.ensures.value) c.self.invariant.shown

pub invariant_of-self : goal.invariant_of-self
invariant_of-self c = record { shown = subst (λ (list : List DrawopValue). AreLayersOf list c.bring_up.new.layers.entries) c.list.ensures.value c.bring_up.ensures.layers; holds = c.self.invariant.holds }

pub invariant_of-self-2 : goal.invariant_of-self-2
invariant_of-self-2 c = record { shown = subst (λ (list : List DrawopValue). AreLayersOf list c.bring_up.new.layers.entries) c.list.ensures.value c.bring_up.ensures.layers; holds = c.self.invariant.holds }

-- the list of the desk is that of its pass
pub returns : goal.returns
returns c =
    let view = shows_all c.list.result.now c.args.page c.bring_up.new.layers.entries c.shown_on.result.now (subst IsHistory (sym c.list.ensures.value) c.list.ensures.sound.history) c.in_ok-bring_up.ensures.up c.shown_on.ensures in
    let of_list = subst (λ (list : List DrawopValue). IsView list c.args.page c.shown_on.result.now) c.list.ensures.value view in
    let r = c.in_ok-refresh.ensures in
    let is = sym c.self.view_is in
    let read : ReadsOn c.args.self.now c.self.inside.pass = subst (λ (p : PassValue). ReadsOn c.args.self.now p) is r.reads in
    ((refl, λ _. tt, (read, (subst (λ (p : PassValue). IsCaughtUp c.args.self.now p) is r.end, of_list), ap (λ (p : PassValue). p.cells) c.self.view_is ∙ r.cells)), record { desk = tt })
