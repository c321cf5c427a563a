-- The layers of a desk: one for each page that was viewed.
use Rattle.std.specs.Prelude.{◌≡◌, ◌≤◌, List, length, take, Option, Some}
use Rattle.std.specs.Map.{lookup}
use Rattle.wb_names.specs.Values.{DrawopValue}
use Rattle.wb_names.specs.Orders.{same_page}
use Rattle.wb_names.specs.declared.name.PageId.{PageId}
use Rattle.wb_display.specs.Layer.{held_after}
use Rattle.wb_board.specs.declared.layers.PageLayer.{PageLayer}

-- the layer of the page has taken in the first `taken` drawops of the list, and no more
pub record HasTakenIn (list : List DrawopValue) (page : PageId) (s : PageLayer) : Type 0 where
  pub page_is : s.layer.page ≡ page
  pub held : s.layer.held ≡ held_after page (take s.taken list)
  pub within : s.taken ≤ length list

-- the layer of a page, if it was viewed
abbrev pub layer_of : List (PageId × PageLayer) → PageId → Option PageLayer
layer_of layers page = lookup (same_page page) layers

-- each layer has taken in a beginning of the list
abbrev pub AreLayersOf : List DrawopValue → List (PageId × PageLayer) → Type 0
AreLayersOf list layers = (page : PageId) (s : PageLayer) → layer_of layers page ≡ Some s → HasTakenIn list page s

-- the layer of the page has taken in the whole list
pub record IsUpTo (list : List DrawopValue) (page : PageId) (layers : List (PageId × PageLayer)) : Type 0 where
  pub page_layer : PageLayer
  pub found : layer_of layers page ≡ Some page_layer
  pub page_is : page_layer.layer.page ≡ page
  pub held : page_layer.layer.held ≡ held_after page list
