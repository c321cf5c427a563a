-- The view of a page, as a function of the history.
use Rattle.std.specs.Prelude.{◌≡◌, List, filter}
use Rattle.wb_names.specs.Values.{DrawopValue}
use Rattle.wb_names.specs.Orders.{display_cmp}
use Rattle.wb_names.specs.declared.name.PageId.{PageId}
use Rattle.wb_names.specs.History.{IsHistory}
use Rattle.wb_display.specs.Display.{is_shown, IsView}
use Rattle.wb_gaps.specs.Sorting.{sorted}

-- what a page shows, in the order of display
unfoldable pub view_of : List DrawopValue → PageId → List DrawopValue
view_of history page = sorted display_cmp (filter (is_shown history page) history)

-- ---- laws

-- the function gives the view of a page
abbrev pub ViewOfPage : Type 0
ViewOfPage = (history : List DrawopValue) (page : PageId) → IsHistory history → IsView history page (view_of history page)

-- and there is no other
abbrev pub OnlyView : Type 0
OnlyView = (history : List DrawopValue) (page : PageId) (shown : List DrawopValue) → IsHistory history → IsView history page shown → shown ≡ view_of history page
