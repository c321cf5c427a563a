-- What an input comes to: its lines in groups, and how it ends.
use Rattle.std.specs.Prelude.{ℕ, ◌+◌, List, [], ◌∷◌, ◌++◌, Bool, false, nat_lt, ◌&&◌, ◌||◌, not, Option, Some, None, if◌then◌else◌}
use Rattle.wb_lines.specs.Input.{InputLine}
use Rattle.wb_lines.specs.Handling.{Met, whole, too_long}
use Rattle.wb_lines.specs.Taking.{is_short, is_passed}

-- Why no more lines are taken: all n were taken; reading failed; or what is waited for has no end.
pub data InputEnd : Type 0 where
  finished : ℕ → InputEnd
  unreadable : InputEnd
  endless : InputEnd

-- A group has the number of its first line, what is met there, and the lines that join it.
pub data Items : Type 0 where
  over : InputEnd → Items
  group : ℕ → Met → List InputLine → Items → Items

-- Which lines have others join them, and which join those.
pub record Grouping : Type 0 where
  pub gathers : InputLine → Bool
  pub joins : InputLine → Bool

-- each line is a group of its own
abbrev pub alone : Grouping
alone = record { gathers = λ line. false; joins = λ line. false }

-- a group that may not be at its end
pub record Begun : Type 0 where
  pub number : ℕ
  pub first : InputLine
  pub joined : List InputLine

abbrev pub begin : ℕ → InputLine → Begun
begin number line = record { number = number; first = line; joined = [] }

-- a line joins it
abbrev pub grown : Begun → InputLine → Begun
grown g line = record { number = g.number; first = g.first; joined = g.joined ++ line ∷ [] }

-- the group is at its end, if there is one, and this follows
abbrev pub closed_group : Option Begun → Items → Items
closed_group None items = items
closed_group (Some g) items = group g.number (whole g.first) g.joined items

-- the group that a line is of, after n lines
abbrev pub and_line : Grouping → ℕ → Option Begun → InputLine → (Option Begun → Items) → Items
and_line by n None line rest = rest (Some (begin (n + 1) line))
and_line by n (Some g) line rest =
    if by.gathers g.first && by.joins line then rest (Some (grown g line)) else closed_group (Some g) (rest (Some (begin (n + 1) line)))

-- What comes after n lines: a line; one that is too long, of which the rest is passed over or not; or an end.
pub data LineEntry : Type 0 where
  short : LineEntry
  long : Bool → LineEntry
  none : InputEnd → LineEntry

-- If the input is cut off, what follows the last line feed has no end.
abbrev pub entry : ℕ → Bool → ℕ → InputLine → LineEntry
entry most cut n line =
    if nat_lt n most
    then (if is_short line then (if line.ended || not cut then short else none unreadable) else long (is_passed line))
    else none endless

abbrev pub by_entry : Grouping → ℕ → Option Begun → InputLine → (Option Begun → Items) → LineEntry → Items
by_entry by n g line rest short = and_line by n g line rest
by_entry by n g line rest (long passed) = closed_group g (group (n + 1) too_long [] (if passed then rest None else over endless))
by_entry by n g line rest (none end) = closed_group g (over end)

-- What the lines that are left come to, after n lines of which the last may be of a group g that goes on: at most `most` are taken in all.
abbrev pub items_from : Grouping → ℕ → Bool → ℕ → Option Begun → List InputLine → Items
items_from by most cut n g [] = closed_group g (over (if cut then unreadable else finished n))
items_from by most cut n g (line ∷ lines) = by_entry by n g line (λ next. items_from by most cut (n + 1) next lines) (entry most cut n line)

-- the items of some lines; these are cut off if reading fails after them
abbrev pub items : Grouping → ℕ → Bool → List InputLine → Items
items by most cut lines = items_from by most cut 0 None lines
