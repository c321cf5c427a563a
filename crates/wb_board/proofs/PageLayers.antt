-- Layers that have taken in a beginning of a list: as the list grows, and as one of them takes in the rest of it.
use Rattle.std.proofs.Common.{◌≡◌, ℕ, ◌-◌, Bool, true, false, cond, List, [], length, take, drop, fold, refl, sym, ap, subst, ◌∙◌, arith}
use Rattle.std.specs.Prelude.{Some}
use Rattle.std.proofs.lemmas.List.{take-append-drop, take-append-le, length-append, length-drop}
use Rattle.std.proofs.lemmas.List.Sums.{fold-append}
use Rattle.std.proofs.Math.Seq.{take-length}
use mathlib.Core.List.{IsPrefix}
use Rattle.wb_names.specs.Values.{DrawopValue}
use Rattle.wb_names.specs.Orders.{same_page}
use Rattle.wb_names.specs.declared.name.PageId.{PageId}
use Rattle.wb_names.proofs.Orders.{same_page-is}
use Rattle.wb_display.specs.Layer.{LayerValue, held_with, held_after}
use Rattle.wb_names.specs.History.{IsHistory}
use Rattle.wb_display.specs.Display.{IsView}
use Rattle.wb_display.proofs.Pages.{stands_alone, holds_its_page}
use Rattle.wb_board.specs.Layers.{HasTakenIn, AreLayersOf, IsUpTo, layer_of}
use Rattle.wb_board.specs.declared.layers.PageLayer.{PageLayer}

-- the first drawops, and then the rest
take_in : (page : PageId) (list : List DrawopValue) (n : ℕ) → fold (held_with page) (held_after page (take n list)) (drop n list) ≡ held_after page list
take_in page list n = sym (fold-append (held_with page) [] (take n list) (drop n list)) ∙ ap (held_after page) (take-append-drop n list)

-- all that comes after the first drawops
rest_is : (list : List DrawopValue) (n : ℕ) → take (length list - n) (drop n list) ≡ drop n list
rest_is list n = ap (λ (k : ℕ). take k (drop n list)) (sym (length-drop n list)) ∙ take-length (drop n list)

-- a layer that was put all that it had not taken in
pub caught_up : (list : List DrawopValue) (s : PageLayer) (layer : LayerValue) → HasTakenIn list s.layer.page s → layer ≡ record s.layer { held = fold (held_with s.layer.page) s.layer.held (take (length list - s.taken) (drop s.taken list)) } → HasTakenIn list s.layer.page (record { layer = layer; taken = length list })
caught_up list s layer at is = record {
  page_is = ap (λ (l : LayerValue). l.page) is;
  held = ap (λ (l : LayerValue). l.held) is ∙ ap (fold (held_with s.layer.page) s.layer.held) (rest_is list s.taken) ∙ ap (λ (h : List DrawopValue). fold (held_with s.layer.page) h (drop s.taken list)) at.held ∙ take_in s.layer.page list s.taken ∙ ap (held_after s.layer.page) (sym (take-length list));
  within = omega arith;
}

stands_on : (list longer : List DrawopValue) (page : PageId) (s : PageLayer) → IsPrefix list longer → HasTakenIn list page s → HasTakenIn longer page s
stands_on list longer page s more at =
    let within = at.within in
    let grown = ap length more.1 in
    record {
      page_is = at.page_is;
      held = at.held ∙ ap (held_after page) (sym (take-append-le s.taken list more.0 within) ∙ ap (take s.taken) more.1);
      within = omega (arith, length-append list more.0);
    }

-- a longer list has the same beginnings
pub still_stand : (list longer : List DrawopValue) (layers : List (PageId × PageLayer)) → IsPrefix list longer → AreLayersOf list layers → AreLayersOf longer layers
still_stand list longer layers more all page s found = stands_on list longer page s more (all page s found)

-- one layer is another than before
pub stand_with : (list : List DrawopValue) (old new : List (PageId × PageLayer)) (page : PageId) (s : PageLayer) → HasTakenIn list page s → AreLayersOf list old → ((q : PageId) → layer_of new q ≡ cond (same_page page q) (Some s) (layer_of old q)) → AreLayersOf list new
stand_with list old new page s at all is q t found = by (same_page page q) refl where
  by : (b : Bool) → same_page page q ≡ b → HasTakenIn list q t
  by true here =
      let same : s ≡ t = cc (is q) in
      subst (λ (p : PageId). HasTakenIn list p t) (same_page-is page q here) (subst (HasTakenIn list page) same at)
  by false there = let as_before : layer_of old q ≡ Some t = cc (is q) in all q t as_before

-- a layer that has taken in the whole list
pub up_to : (list : List DrawopValue) (layers : List (PageId × PageLayer)) (page : PageId) (s : PageLayer) → HasTakenIn list page s → s.taken ≡ length list → layer_of layers page ≡ Some s → IsUpTo list page layers
up_to list layers page s at whole found = record {
  page_layer = s;
  found = found;
  page_is = at.page_is;
  held = at.held ∙ ap (held_after page) (ap (λ (n : ℕ). take n list) whole ∙ take-length list);
}

-- what the layer shows, once it has taken in the whole list, is what the page shows
pub shows_all : (list : List DrawopValue) (page : PageId) (layers : List (PageId × PageLayer)) (shown : List DrawopValue) → IsHistory list → IsUpTo list page layers → ((s : PageLayer) → layer_of layers page ≡ Some s → IsView s.layer.held s.layer.page shown) → IsView list page shown
shows_all list page layers shown once up told =
    let of_layer = told up.page_layer up.found in
    let of_page = subst (λ (p : PageId). IsView up.page_layer.layer.held p shown) up.page_is of_layer in
    (stands_alone list page shown).0 (subst (λ (held : List DrawopValue). IsView held page shown) (up.held ∙ holds_its_page list page once) of_page)
