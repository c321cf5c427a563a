-- What a canvas shows: the glyph at each point, and the text of the whole. x runs right and y down, from 0.
use Rattle.std.specs.Prelude.{ℕ, ◌+◌, ◌-◌, ◌*◌, ◌/◌, Bool, false, ◌&&◌, ◌||◌, List, [], ◌∷◌, ◌++◌, length, map, max, min, nat_eq, nat_lt, nat_le, slice_index, if◌then◌else◌, find, reverse}
use Rattle.std.specs.List.{list_any, range_with_len, flat_map}
use Rattle.std.specs.Option.{option_map_or}
use Rattle.wb_names.specs.Values.{DrawopValue}
use Rattle.wb_names.specs.declared.parts.Figure.TheVariants.{Line, Frame}
use Rattle.wb_names.specs.declared.parts.Op.{Op}
use Rattle.wb_names.specs.declared.parts.Op.TheVariants.{Drawn, Text, Aimed}
use Rattle.wb_display.specs.declared.canvas.TheConstants.Canvas.{MAX_WIDTH, MAX_HEIGHT}

-- how far two numbers are apart
abbrev pub distance : ℕ → ℕ → ℕ
distance a b = (a - b) + (b - a)

-- the number n steps from a in the direction of b
abbrev pub toward : ℕ → ℕ → ℕ → ℕ
toward a b n = if nat_le a b then a + n else a - n

-- d * k / m, to the nearest number, a half up; 0 where m is 0
abbrev pub share : ℕ → ℕ → ℕ → ℕ
share d k m = (2 * k * d + m) / (2 * m)

-- the steps of a line: the longer of its two distances
abbrev pub line_len : ℕ → ℕ → ℕ → ℕ → ℕ
line_len x0 y0 x1 y1 = max (distance x0 x1) (distance y0 y1)

-- where a coordinate that goes from a to b in m steps is after k of them
abbrev pub line_at : ℕ → ℕ → ℕ → ℕ → ℕ
line_at a b m k = toward a b (share (distance a b) k m)

-- (x, y) is point k of a line of m steps: along the longer distance it moves by one, along the other by its share
abbrev pub is_line_point : ℕ → ℕ → ℕ → ℕ → ℕ → ℕ → ℕ → ℕ → Bool
is_line_point x0 y0 x1 y1 m x y k = nat_eq x (line_at x0 x1 m k) && nat_eq y (line_at y0 y1 m k)

-- a line has a point for each k from 0 to its steps
abbrev pub is_on_line : ℕ → ℕ → ℕ → ℕ → ℕ → ℕ → Bool
is_on_line x0 y0 x1 y1 x y =
    let m = line_len x0 y0 x1 y1 in
    list_any (λ k. is_line_point x0 y0 x1 y1 m x y k) (range_with_len 0 (m + 1))

-- x lies between a and b, ends included
abbrev pub is_between : ℕ → ℕ → ℕ → Bool
is_between a b x = nat_le (min a b) x && nat_le x (max a b)

-- the four sides of the rectangle with two opposite corners
abbrev pub is_on_frame : ℕ → ℕ → ℕ → ℕ → ℕ → ℕ → Bool
is_on_frame x0 y0 x1 y1 x y = (is_between x0 x1 x && is_between y0 y1 y) && (nat_eq x x0 || nat_eq x x1 || nat_eq y y0 || nat_eq y y1)

-- a row of so many bytes that begins at a point, and the byte of a column
abbrev pub is_on_text : ℕ → ℕ → ℕ → ℕ → ℕ → Bool
is_on_text x0 y0 n x y = nat_eq y y0 && (nat_le x0 x && nat_lt x (x0 + n))

abbrev pub text_glyph : ℕ → List ℕ → ℕ → ℕ
text_glyph x0 text x = slice_index text (x - x0)

-- whether an operation puts a glyph at a point
abbrev pub covers : Op → ℕ → ℕ → Bool
covers (Drawn Line s) x y = is_on_line s.x0 s.y0 s.x1 s.y1 x y
covers (Drawn Frame s) x y = is_on_frame s.x0 s.y0 s.x1 s.y1 x y
covers (Text x0 y0 text) x y = is_on_text x0 y0 (length text) x y
covers (Aimed change t) x y = false

-- the glyph that an operation puts in the column x
abbrev pub glyph_of : Op → ℕ → ℕ
glyph_of (Drawn figure s) x = s.glyph
glyph_of (Text x0 y0 text) x = text_glyph x0 text x
glyph_of (Aimed change t) x = 32

-- the glyph of the last drawop that covers the point, and a space if no drawop does
abbrev pub glyph_at : List DrawopValue → ℕ → ℕ → ℕ
glyph_at ds x y = option_map_or (λ d. glyph_of d.op x) (find (λ d. covers d.op x y) (reverse ds)) 32

-- a row's columns, and a line feed
abbrev pub row_text : List DrawopValue → ℕ → ℕ → List ℕ
row_text ds w y = map (λ x. glyph_at ds x y) (range_with_len 0 w) ++ 10 ∷ []

-- the rows of a canvas of w columns and h rows
abbrev pub canvas_text : List DrawopValue → ℕ → ℕ → List ℕ
canvas_text ds w h = flat_map (row_text ds w) (range_with_len 0 h)

-- a canvas has a column and a row at least
abbrev pub is_canvas_size : ℕ → ℕ → Bool
is_canvas_size w h = (nat_le 1 w && nat_le w MAX_WIDTH) && (nat_le 1 h && nat_le h MAX_HEIGHT)
