-- What a desk keeps of its list besides the layers: what is held of a beginning of it.
use Rattle.std.specs.Prelude.{◌≤◌, List, length, take}
use Rattle.wb_names.specs.Values.{DrawopValue}
use Rattle.wb_names.specs.declared.name.PageId.{PageId}
use Rattle.wb_gaps.specs.Holdings.{HoldNamesOf}
use Rattle.wb_board.specs.Layers.{AreLayersOf}
use Rattle.wb_board.specs.declared.held.Held.{Held}
use Rattle.wb_board.specs.declared.layers.PageLayer.{PageLayer}

-- the names of the first `taken` drawops of the list are held, and no others, in at most `taken` ranges
pub record HoldsFirst (list : List DrawopValue) (h : Held) : Type 0 where
  pub names : HoldNamesOf (take h.taken list) h.holdings
  pub few : length h.holdings ≤ h.taken
  pub within : h.taken ≤ length list

-- layers and holdings are each right for a beginning of the list
pub record AreKeptOf (list : List DrawopValue) (layers : List (PageId × PageLayer)) (held : Held) : Type 0 where
  pub shown : AreLayersOf list layers
  pub holds : HoldsFirst list held
