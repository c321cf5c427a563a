-- A layer: what was put on a page, one drawop after another.
use Rattle.std.specs.Prelude.{ℕ, Bool, not, ◌&&◌, List, [], ◌∷◌, ◌++◌, length, filter, fold, map, if◌then◌else◌}
use Rattle.std.specs.List.{list_any}
use Rattle.wb_names.specs.Values.{NameValue, DrawopValue}
use Rattle.wb_names.specs.Orders.{same_page, same_name}
use Rattle.wb_names.specs.declared.name.PageId.{PageId}
use Rattle.wb_names.specs.declared.parts.Target.{Target}

-- a page, and the drawops that were put on it
pub record LayerValue : Type 0 where
  pub page : PageId
  pub held : List DrawopValue

-- a member has this name
abbrev pub holds_name : List DrawopValue → NameValue → Bool
holds_name held name = list_any (λ e. same_name e.name name) held

-- a drawop of the page whose name was not put before
abbrev pub is_news : PageId → List DrawopValue → DrawopValue → Bool
is_news page held d = same_page d.name.page page && not (holds_name held d.name)

-- only that joins what is held, at its end
abbrev pub held_with : PageId → List DrawopValue → DrawopValue → List DrawopValue
held_with page held d = if is_news page held d then held ++ d ∷ [] else held

-- what is held after a list of puts, one after another
abbrev pub held_with_all : PageId → List DrawopValue → List DrawopValue → List DrawopValue
held_with_all page held puts = fold (held_with page) held puts

-- and from the first put on: each name of the page at its first put
abbrev pub held_after : PageId → List DrawopValue → List DrawopValue
held_after page puts = held_with_all page [] puts

-- how many of a list are news
abbrev pub news_count : PageId → List DrawopValue → List DrawopValue → ℕ
news_count page held list = length (filter (is_news page held) list)

-- the drawops that a table keeps, in the order in which they were put
abbrev pub held_of : List (Target × DrawopValue) → List DrawopValue
held_of entries = map (λ e. e.1) entries
