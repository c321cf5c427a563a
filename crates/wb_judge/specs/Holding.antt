-- How what is held of strangers is kept: with its pages, and its sources on each.
use Rattle.std.specs.Prelude.{◌≡◌, ◌≤◌, [], length, vec_capacity}
use Rattle.wb_judge.specs.Strange.{pages_in, rows_in}
use Rattle.wb_judge.specs.declared.strange.Strange.TheInside.{Inside}

-- there is room in each list for as much as is taken
pub record IsHeld (s : Inside) : Type 0 where
  pub few : length s.items.items ≤ s.most
  pub room : s.most ≤ vec_capacity s.items
  pub pages : s.pages.items ≡ pages_in [] s.items.items
  pub few_pages : length s.pages.items ≤ length s.items.items
  pub room_for_pages : s.most ≤ vec_capacity s.pages
  pub rows : s.rows.items ≡ rows_in [] s.items.items
  pub few_rows : length s.rows.items ≤ length s.items.items
  pub room_for_rows : s.most ≤ vec_capacity s.rows
