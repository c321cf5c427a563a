-- The share of strangers: what is held that no known origin gave. A name counts once.
use Rattle.std.specs.Prelude.{ℕ, ◌/◌, Bool, false, not, ◌&&◌, ◌||◌, List, [], ◌∷◌, ◌++◌, Option, Some, None, count_by, filter, length, map, max, min, nat_eq, nat_le, nat_lt, if◌then◌else◌}
use Rattle.std.specs.List.{list_any}
use Rattle.wb_names.specs.Orders.{same_name, same_page}
use Rattle.wb_names.specs.Values.{NameValue}
use Rattle.wb_names.specs.declared.name.PageId.{PageId}
use Rattle.wb_judge.specs.Origins.{same_origin}
use Rattle.wb_judge.specs.Shares.{Shares}
use Rattle.wb_judge.specs.declared.limits.TheConstants.{LEAST_SHARE, OF_ORIGIN, STRANGERS, STRANGE_PAGES, STRANGE_ROWS}
use Rattle.wb_judge.specs.declared.origin.Origin.{Origin}
use Rattle.wb_judge.specs.declared.rows.Row.{Row}
use Rattle.wb_judge.specs.declared.strange.Given.{Given}

abbrev pub is_there : Origin → Option Origin → Bool
is_there o None = false
is_there o (Some p) = same_origin p o

abbrev pub is_given_by : Origin → Given → Bool
is_given_by o g = is_there o g.origin

-- one cell in `part`, and 16 at least
abbrev pub share_of : ℕ → ℕ → ℕ
share_of cells part = max (cells / part) LEAST_SHARE

-- the number that is given, else the share of a board
abbrev pub most_given : ℕ → Option ℕ → ℕ
most_given cells None = share_of cells STRANGERS
most_given cells (Some most) = most

abbrev pub no_shares : ℕ → Option ℕ → Shares
no_shares cells strangers = record {
  most = most_given cells strangers;
  most_of_origin = min (share_of cells OF_ORIGIN) (most_given cells strangers);
  given = [];
}

abbrev pub has_name : NameValue → List Given → Bool
has_name name given = list_any (λ g. same_name g.name name) given

-- no more that is new is taken from an origin that is not known
unfoldable pub is_over : Origin → Shares → Bool
is_over o s = nat_le s.most (length s.given) || nat_le s.most_of_origin (count_by (is_given_by o) s.given)

abbrev pub with_one : ℕ → Given → List Given → List Given
with_one most g given = if nat_lt (length given) most then given ++ g ∷ [] else given

-- a drawop is held that no known origin gave: its name counts once
unfoldable pub with_given : Given → Shares → Shares
with_given g s = if has_name g.name s.given then s else record s { given = with_one s.most g s.given }

-- a member gave it: it is strange no more
unfoldable pub without_name : NameValue → Shares → Shares
without_name name s = record s { given = filter (λ g. not (same_name g.name name)) s.given }

-- the names of some, and of what an origin gave
abbrev pub names_of : List Given → List NameValue
names_of given = map (λ g. g.name) given

abbrev pub given_by : Origin → List Given → List NameValue
given_by o given = names_of (filter (is_given_by o) given)

-- the pages of some, each once, and their sources on each page
abbrev pub with_page : PageId → List PageId → List PageId
with_page page pages = if list_any (λ p. same_page p page) pages then pages else pages ++ page ∷ []

abbrev pub pages_in : List PageId → List Given → List PageId
pages_in pages [] = pages
pages_in pages (g ∷ given) = pages_in (with_page g.name.page pages) given

abbrev pub same_row : Row → Row → Bool
same_row r s = nat_eq r.source s.source && same_page r.page s.page

abbrev pub row_of : NameValue → Row
row_of name = record { source = name.source; page = name.page }

abbrev pub with_row : Row → List Row → List Row
with_row row rows = if list_any (λ r. same_row r row) rows then rows else rows ++ row ∷ []

abbrev pub rows_in : List Row → List Given → List Row
rows_in rows [] = rows
rows_in rows (g ∷ given) = rows_in (with_row (row_of g.name) rows) given

-- one more would take a page too many, or a source on a page too many
abbrev pub opens_page : PageId → List PageId → Bool
opens_page page pages = not (list_any (λ p. same_page p page) pages) && nat_le STRANGE_PAGES (length pages)

abbrev pub opens_row : Row → List Row → Bool
opens_row row rows = not (list_any (λ r. same_row r row) rows) && nat_le STRANGE_ROWS (length rows)

unfoldable pub is_wide : NameValue → Shares → Bool
is_wide name s = opens_page name.page (pages_in [] s.given) || opens_row (row_of name) (rows_in [] s.given)

-- a member speaks from there: what came from there is strange no more
unfoldable pub without_origin : Origin → Shares → Shares
without_origin o s = record s { given = filter (λ g. not (is_given_by o g)) s.given }
