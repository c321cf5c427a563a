-- When two members agree on a page.
use Rattle.std.specs.Prelude.{◌≡◌, ℕ, Contains}
use Rattle.wb_names.specs.Values.{DrawopValue}
use Rattle.wb_names.specs.declared.name.PageId.{PageId}
use Rattle.wb_display.specs.Canvas.{canvas_text}
use Rattle.wb_member.specs.Opened.{Opened, shown}

-- They hold the same drawops of a page, and show the same, character for character at every size.
pub record Agree (one other : Opened) (page : PageId) : Type 0 where
  pub over : (d : DrawopValue) → d.name.page ≡ page
      → Contains one.is.held d → Contains other.is.held d
  pub back : (d : DrawopValue) → d.name.page ≡ page
      → Contains other.is.held d → Contains one.is.held d
  pub views : shown page one ≡ shown page other
  pub canvases : (width height : ℕ)
      → canvas_text (shown page one) width height ≡ canvas_text (shown page other) width height
