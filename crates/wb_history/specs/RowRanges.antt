-- Rows as ranges of consecutive numbers.
use Rattle.std.specs.Prelude.{◌≡◌, ℕ, ◌+◌, ◌-◌, ◌^◌, ◌<◌, List, [], ◌∷◌, ◌++◌, length, All, vec_len, vec_capacity}
use Rattle.std.specs.List.{range_with_len}
use Rattle.wb_history.specs.declared.ranges.RowRange.{RowRange}
use Rattle.wb_history.specs.declared.ranges.Rows.TheInside.{Inside}

-- the rows, in how many ranges they are kept, and how many ranges more can be put in with no memory
pub record RowsValue : Type 0 where
  pub items : List ℕ
  pub parts : ℕ
  pub room : ℕ

abbrev pub rows_of : RowRange → List ℕ
rows_of r = range_with_len r.first r.count

abbrev pub rows_in : List RowRange → List ℕ
rows_in [] = []
rows_in (r ∷ rs) = rows_of r ++ rows_in rs

-- no range is empty, or ends past the numbers of 32 bits
abbrev pub IsRange : RowRange → Type 0
IsRange r = (0 < r.count) × (r.first + r.count < 2 ^ 32)

abbrev pub rows_value : Inside → RowsValue
rows_value r = record { items = rows_in r.ranges.items; parts = vec_len r.ranges; room = vec_capacity r.ranges - vec_len r.ranges }

abbrev pub AreCounted : Inside → Type 0
AreCounted r = (r.count ≡ length (rows_in r.ranges.items)) × All IsRange r.ranges.items
