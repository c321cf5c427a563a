-- How the rows of a canvas lie one after another in memory, and what drawing changes there.
use Rattle.std.specs.Prelude.{◌≡◌, ℕ, ◌+◌, ◌*◌, ◌<◌, ◌≤◌, Bool, ◌&&◌, List, length, nat_eq, nat_lt, slice_index, if◌then◌else◌}
use Rattle.wb_names.specs.Values.{DrawopValue}
use Rattle.wb_display.specs.Canvas.{glyph_at, is_between}

-- the place of column x of row y, where a row has w columns and a line feed
abbrev pub place : ℕ → ℕ → ℕ → ℕ
place w x y = y * (w + 1) + x

-- the one point
abbrev pub is_at : ℕ → ℕ → ℕ → ℕ → Bool
is_at px py x y = nat_eq x px && nat_eq y py

-- a row from one column to another, ends included, and a column likewise
abbrev pub is_on_row : ℕ → ℕ → ℕ → ℕ → ℕ → Bool
is_on_row x0 x1 py x y = nat_eq y py && is_between x0 x1 x

abbrev pub is_on_column : ℕ → ℕ → ℕ → ℕ → ℕ → Bool
is_on_column y0 y1 px x y = nat_eq x px && is_between y0 y1 y

-- new is old with the glyphs of what covers a point put over it; line feeds stay
pub record Overlays (w h : ℕ) (covered : ℕ → ℕ → Bool) (glyph : ℕ → ℕ) (old new : List ℕ) : Type 0 where
  pub len : length new ≡ length old
  pub cells : (x y : ℕ) → x ≤ w → y < h → slice_index new (place w x y) ≡ (if nat_lt x w && covered x y then glyph x else slice_index old (place w x y))

-- the cells show the list: the glyph at each point, and the line feeds
pub record Shows (w h : ℕ) (list : List DrawopValue) (cells : List ℕ) : Type 0 where
  pub len : length cells ≡ h * (w + 1)
  pub columns : (x y : ℕ) → x < w → y < h → slice_index cells (place w x y) ≡ glyph_at list x y
  pub feeds : (y : ℕ) → y < h → slice_index cells (place w w y) ≡ 10
