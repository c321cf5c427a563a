-- The pages and sources of what is held, with one more.
use Rattle.std.proofs.Common.{◌≡◌, List, [], ◌∷◌, ◌++◌, refl}
use Rattle.wb_names.specs.declared.name.PageId.{PageId}
use Rattle.wb_judge.specs.Strange.{pages_in, row_of, rows_in, with_page, with_row}
use Rattle.wb_judge.specs.declared.rows.Row.{Row}
use Rattle.wb_judge.specs.declared.strange.Given.{Given}

pub pages_more : (pages : List PageId) (given : List Given) (g : Given) → pages_in pages (given ++ g ∷ []) ≡ with_page g.name.page (pages_in pages given)
pages_more pages [] g = refl
pages_more pages (h ∷ given) g = pages_more (with_page h.name.page pages) given g

pub rows_more : (rows : List Row) (given : List Given) (g : Given) → rows_in rows (given ++ g ∷ []) ≡ with_row (row_of g.name) (rows_in rows given)
rows_more rows [] g = refl
rows_more rows (h ∷ given) g = rows_more (with_row (row_of h.name) rows) given g
