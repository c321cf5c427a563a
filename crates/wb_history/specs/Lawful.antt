-- The rule of the table. Words 0 to cells - 1 are the cells, and as many rows follow, each of row_stride words. A cell holds 0 while
-- it is free, and else a row number plus one.
use Rattle.wb_history.specs.Sizes.{row_words, row_stride}
use Rattle.std.specs.Prelude.{◌≡◌, ℕ, suc, ◌+◌, ◌-◌, ◌*◌, ◌<◌, ◌≤◌, List, length, slice_index, All, Contains}
use mathlib.Core.Option.{some}
use lib.ListN.{get_elem?}
use Rattle.atomic_table.specs.Table.{State}
use Rattle.wb_history.specs.declared.knowledge.Knowledge.{Knowledge}
use Rattle.wb_names.specs.Values.{DrawopValue}
use mathlib.Core.List.{IsPrefix}
use Rattle.wb_history.specs.Lists.{Once}
use Rattle.wb_names.specs.History.{IsHistory}
use Rattle.wb_codec.specs.Ranges.{IsDrawop}
use Rattle.wb_codec.specs.Rows.{row}
use Rattle.wb_history.specs.Views.{HasAllRows}

-- The word k of a row. A pass uses its row of the greatest number first, so that row stands first
abbrev pub address : ℕ → ℕ → ℕ → ℕ
address cells r k = cells + (cells - 1 - r) * row_stride + k

-- what a pass with `own_cells` cells has seen, and the shorter list of its last join, are beginnings of the history
pub record Sees (cells : ℕ) (log : List DrawopValue) (own_cells : ℕ) (seen joined : List DrawopValue) : Type 0 where
  pub sized : 0 < own_cells → own_cells ≡ cells
  pub begins : IsPrefix seen log
  pub joined_begins : IsPrefix joined log

-- The free rows of the pass j, and its places among so many that it has seen, are its own and all of them. `rows` are the row
-- numbers of the filled cells, and `owner` says whose a row is
pub record Owns (cells : ℕ) (rows : List ℕ) (owner : ℕ → ℕ) (j seen : ℕ) (free mine : List ℕ) : Type 0 where
  pub free_is : (i r : ℕ) → get_elem? free i ≡ some r → (r < cells) × (owner r ≡ j) × ((p : ℕ) → get_elem? rows p ≡ some r → ⊥)
  pub free_once : Once free
  pub mine_is : (i p : ℕ) → get_elem? mine i ≡ some p → (p < seen) × ((r : ℕ) → get_elem? rows p ≡ some r → owner r ≡ j)
  pub mine_once : Once mine
  pub mine_all : (p r : ℕ) → get_elem? rows p ≡ some r → owner r ≡ j → Contains mine p

-- what a pass remembers inside a call is so: the cell after those that it has seen, as it found it; what it has read of the row that
-- this cell names; and what it has stored in its last free row
pub record Remembers (cells : ℕ) (words rows : List ℕ) (seen : ℕ) (free : List ℕ) (looking : ℕ) (read stored : List ℕ) : Type 0 where
  pub looks : 0 < looking → get_elem? rows seen ≡ some (looking - 1)
  pub reads : (k n : ℕ) → get_elem? read k ≡ some n → (0 < looking) × (k < row_words) × (slice_index words (address cells (looking - 1) k) ≡ n)
  pub stores : (k n r : ℕ) → get_elem? stored k ≡ some n → get_elem? free (length free - 1) ≡ some r → (k < row_words) × (slice_index words (address cells r k) ≡ n)

-- what the pass j knows is so
pub record Knows (cells : ℕ) (words : List ℕ) (log : List DrawopValue) (rows : List ℕ) (owner : ℕ → ℕ) (j : ℕ) (v : Knowledge) : Type 0 where
  pub sees : Sees cells log v.cells v.seen v.joined
  pub open sees use *
  pub owns : Owns cells rows owner j (length v.seen) v.free v.mine
  pub open owns use *
  pub remembers : Remembers cells words rows (length v.seen) v.free v.looking v.read v.stored
  pub open remembers use *

-- the words have this history: each filled cell names the row that has the record of its drawop
pub record HasHistory (cells : ℕ) (words : List ℕ) (log : List DrawopValue) (rows : List ℕ) : Type 0 where
  pub wide : length words ≡ cells + cells * row_stride
  pub long : length rows ≡ length log
  pub filled : (p r : ℕ) → get_elem? rows p ≡ some r → (r < cells) × (slice_index words p ≡ suc r)
  pub unfilled : (p : ℕ) → length rows ≤ p → p < cells → slice_index words p ≡ 0
  pub rows_once : Once rows
  pub records : (p r : ℕ) (d : DrawopValue) → get_elem? rows p ≡ some r → get_elem? log p ≡ some d → (k n : ℕ) → get_elem? (row d) k ≡ some n → slice_index words (address cells r k) ≡ n
  pub valid : All IsDrawop log
  pub names_once : IsHistory log

pub record Lawful (cells : ℕ) (s : State DrawopValue Knowledge) : Type 0 where
  pub log : List DrawopValue
  pub rows : List ℕ
  pub owner : ℕ → ℕ
  pub history : HasHistory cells s.words log rows
  pub open history use *
  pub seated : (r : ℕ) → owner r < length s.views
  pub each_pass : (j : ℕ) (v : Knowledge) → get_elem? s.views j ≡ some v → Knows cells s.words log rows owner j v

-- what is so of what one pass knows, by itself
pub record IsConsistent (v : Knowledge) : Type 0 where
  pub valid : All IsDrawop v.seen
  pub names_once : IsHistory v.seen
  pub room : length v.seen + length v.free ≤ v.cells
  pub own : length v.free + length v.mine ≤ v.cells
  pub rows : (i r : ℕ) → get_elem? v.free i ≡ some r → r < v.cells
  pub mine_is : (i p : ℕ) → get_elem? v.mine i ≡ some p → p < length v.seen
  pub mine_once : Once v.mine
  pub whole : HasAllRows v → (p : ℕ) → p < length v.seen → Contains v.mine p
