-- What a caller sees of a history and of its passes.
use Rattle.std.specs.Prelude.{◌≡◌, ◌≢◌, ◌⊎◌, ℕ, ◌+◌, ◌-◌, ◌*◌, ◌<◌, ◌≤◌, List, [], length, All, AllPairs, Contains}
use mathlib.Core.List.{IsPrefix}
use Rattle.atomic_table.specs.Seated.{TableId}
use Rattle.wb_names.specs.Values.{DrawopValue}
use Rattle.wb_names.specs.History.{IsHistory}
use Rattle.wb_codec.specs.Ranges.{IsDrawop}
use Rattle.wb_history.specs.Sizes.{drawop_steps}
use Rattle.wb_history.specs.declared.history.TheConstants.{MAX_CELLS}

-- a history: which table it is, and how many cells it has, which is also the number of its rows
pub record HistoryValue : Type 0 where
  pub table : TableId
  pub cells : ℕ

-- A pass: the table and the number of cells of its history; the drawops that it has seen, in order of place; the places of those
-- that it added, as they were gained; how many free rows it has; how many steps on words it has made, with the word of the last
-- one and what was found there; and the steps of its last claim or refresh.
pub record PassValue : Type 0 where
  pub table : TableId
  pub cells : ℕ
  pub seen : List DrawopValue
  pub mine : List ℕ
  pub free : ℕ
  pub made : ℕ
  pub last_word : ℕ
  pub last_found : ℕ
  pub steps : ℕ

-- The pass came from this history. Then it has as many cells, as a claim and a refresh tell.
abbrev pub IsPassOf : HistoryValue → PassValue → Type 0
IsPassOf h p = p.table ≡ h.table

-- it is a pass of the history that it was a pass of
abbrev pub IsSamePass : PassValue → PassValue → Type 0
IsSamePass p q = (q.table ≡ p.table) × (q.cells ≡ p.cells)

-- its places and the number of its free rows stay
abbrev pub KeepsRows : PassValue → PassValue → Type 0
KeepsRows p q = (q.mine ≡ p.mine) × (q.free ≡ p.free)

-- all rows of the history are its own
abbrev pub IsWhole : PassValue → Type 0
IsWhole p = p.free + length p.mine ≡ p.cells

-- a call that added nothing: the rows stay, and a pass that has all of them learned of no drawop
abbrev pub AddsNothing : PassValue → PassValue → Type 0
AddsNothing p q = KeepsRows p q × (IsWhole p → q.seen ≡ p.seen)

-- What is true of every pass
pub record IsSound (p : PassValue) : Type 0 where
  pub history : IsHistory p.seen
  pub lawful : All IsDrawop p.seen
  pub some_cells : 0 < p.cells
  pub few_cells : p.cells ≤ MAX_CELLS
  pub room : length p.seen + p.free ≤ p.cells  -- a free row has a free cell before it
  pub rows : p.free + length p.mine ≤ p.cells
  pub own : All (λ i. i < length p.seen) p.mine
  pub once : AllPairs (λ i k. i ≢ k) p.mine
  pub all : IsWhole p → (i : ℕ) → i < length p.seen → Contains p.mine i  -- all that a whole pass has seen is its own
  pub as_many : IsWhole p → length p.mine ≡ length p.seen

-- the list was the whole history at a step of the call: the last one, a load that found the cell after the list free. Or the list
-- fills all cells
abbrev pub IsCaughtUp : PassValue → PassValue → Type 0
IsCaughtUp p q = ((p.made < q.made) × (q.last_word ≡ length q.seen) × (q.last_found ≡ 0)) ⊎ (length q.seen ≡ q.cells)

-- a history of `cells` cells, which has no drawop, and the pass that owns all its rows
pub record IsOpened (cells : ℕ) (h : HistoryValue) (p : PassValue) : Type 0 where
  pub pass : IsPassOf h p
  pub sound : IsSound p
  pub sized : (h.cells ≡ cells) × (p.cells ≡ cells)
  pub seen : p.seen ≡ []
  pub mine : p.mine ≡ []
  pub free : p.free ≡ cells
  pub steps : p.steps ≡ 0

-- the pass may have heard of more, and is otherwise as it was
pub record HearsMore (p q : PassValue) : Type 0 where
  pub same : IsSamePass p q
  pub rows : KeepsRows p q
  pub grows : IsPrefix p.seen q.seen
  pub steps : q.steps ≡ p.steps

-- how many drawops more the pass has seen
abbrev pub brought : PassValue → PassValue → ℕ
brought p q = length q.seen - length p.seen

-- the pass may have read on, and is otherwise as it was; one that owns all rows learned of nothing
pub record ReadsOn (p q : PassValue) : Type 0 where
  pub same : IsSamePass p q
  pub sound : IsSound q
  pub grows : IsPrefix p.seen q.seen
  pub nothing : AddsNothing p q
  pub steps : q.made ≡ p.made + q.steps
  pub few_steps : q.steps ≤ drawop_steps * brought p q + 1
