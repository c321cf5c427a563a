use Rattle.std.proofs.Common.{refl, sym, ap, subst, ◌≡◌, List}
use Rattle.wb_display.specs.Layer.{LayerValue}
use Rattle.std.specs.Prelude.{IsSome, Option}
use Rattle.wb_names.specs.declared.name.PageId.{PageId}
use Rattle.wb_board.specs.Layers.{HasTakenIn, AreLayersOf}
use Rattle.wb_board.specs.declared.layers.PageLayer.{PageLayer}
use Rattle.std.proofs.lemmas.Result.{on_ok_weaker}
use Rattle.wb_display.proofs.Layers.{on_ok}
use Rattle.wb_board.proofs.PageLayers.{stand_with, up_to}
use Rattle.wb_board.proofs.layers.bring_up.Goals as goal

pub catch_up-requires : goal.catch_up-requires
catch_up-requires c =
    let at : HasTakenIn c.args.list.now c.args.page c.in-Some.page_layer.now = c.requires c.args.page c.in-Some.page_layer.now (sym c.in-Some.ensures.value) in
    subst (λ (p : PageId). HasTakenIn c.args.list.now p c.in-Some.page_layer.now) (sym at.page_is) at

-- the layer of the page after it took in what came
pub returns-in-Some-clause-layers : goal.returns-in-Some-clause-layers
returns-in-Some-clause-layers c =
    let at : HasTakenIn c.args.list.now c.args.page c.in-Some.page_layer.now = c.requires c.args.page c.in-Some.page_layer.now (sym c.in-Some.ensures.value) in
    let after : HasTakenIn c.args.list.now c.args.page c.catch_up.new.self = subst (λ (p : PageId). HasTakenIn c.args.list.now p c.catch_up.new.self) at.page_is c.catch_up.ensures.taken in
    let w = c.get_mut.follows.holds c.catch_up.new.self in
    stand_with c.args.list.now c.args.layers.now.entries (c.get_mut.follows.lender c.catch_up.new.self).entries c.args.page c.catch_up.new.self after c.requires ((w.3 (subst (λ (o : Option PageLayer). IsSome o) c.in-Some.ensures.value refl)).0)

pub returns-in-Some-clause-up : goal.returns-in-Some-clause-up
returns-in-Some-clause-up c =
    let at : HasTakenIn c.args.list.now c.args.page c.in-Some.page_layer.now = c.requires c.args.page c.in-Some.page_layer.now (sym c.in-Some.ensures.value) in
    let after : HasTakenIn c.args.list.now c.args.page c.catch_up.new.self = subst (λ (p : PageId). HasTakenIn c.args.list.now p c.catch_up.new.self) at.page_is c.catch_up.ensures.taken in
    let w = c.get_mut.follows.holds c.catch_up.new.self in
    on_ok_weaker c.catch_up.result (λ whole. up_to c.args.list.now (c.get_mut.follows.lender c.catch_up.new.self).entries c.args.page c.catch_up.new.self after whole ((w.3 (subst (λ (o : Option PageLayer). IsSome o) c.in-Some.ensures.value refl)).1)) c.catch_up.ensures.up

-- the layers stay
pub returns-in_err-reserve-clause-layers : goal.returns-in_err-reserve-clause-layers
returns-in_err-reserve-clause-layers c =
    let same : c.reserve.new.self.entries ≡ c.args.layers.now.entries = cc (c.in_err-reserve.ensures.entries, c.get_mut.follows.holds-at-none) in
    subst (λ (layers : List (PageId × PageLayer)). AreLayersOf c.args.list.now layers) (sym same) c.requires

pub returns-in_err-catch_up-clause-layers : goal.returns-in_err-catch_up-clause-layers
returns-in_err-catch_up-clause-layers c =
    let same : c.reserve.new.self.entries ≡ c.args.layers.now.entries = cc (c.in_ok-reserve.ensures.entries, c.get_mut.follows.holds-at-none) in
    subst (λ (layers : List (PageId × PageLayer)). AreLayersOf c.args.list.now layers) (sym same) c.requires

-- a layer for a page that had none
pub returns-clause-layers : goal.returns-clause-layers
returns-clause-layers c =
    let same : c.reserve.new.self.entries ≡ c.args.layers.now.entries = cc (c.in_ok-reserve.ensures.entries, c.get_mut.follows.holds-at-none) in
    let before : AreLayersOf c.args.list.now c.reserve.new.self.entries = subst (λ (layers : List (PageId × PageLayer)). AreLayersOf c.args.list.now layers) (sym same) c.requires in
    let page : c.new-page_layer.result.layer.page ≡ c.args.page = ap (λ (l : LayerValue). l.page) c.new-page_layer.ensures.0 in
    let at : HasTakenIn c.args.list.now c.args.page c.catch_up-2.new.self = subst (λ (p : PageId). HasTakenIn c.args.list.now p c.catch_up-2.new.self) page c.in_ok-catch_up.ensures.taken in
    let put = on_ok _ _ _ c.insert.result c.unwrap.result c.unwrap.ensures c.insert.ensures.updates in
    stand_with c.args.list.now c.reserve.new.self.entries c.insert.new.self.entries c.args.page c.catch_up-2.new.self at before put.0
