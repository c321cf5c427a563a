-- What accepts leave of a desk: p is the desk before them, q the desk after them.
use Rattle.std.specs.Prelude.{◌≡◌, ℕ, ◌+◌, List, [], ◌∷◌, ◌++◌, length, map, slice_get, Some, All, Contains}
use mathlib.Core.List.{IsPrefix}
use Rattle.wb_names.specs.Values.{DrawopValue}
use Rattle.wb_names.specs.Arrivals.{Outcome, Counts, counts_of}
use Rattle.wb_board.specs.Desks.{PassValue, IsSamePass, IsSound, Becomes}

-- whatever is answered, the desk is of the same board, and its list begins with what it was
pub record Keeps (p q : PassValue) : Type 0 where
  pub same : IsSamePass p q
  pub seen : IsPrefix p.seen q.seen

-- at this place of the history stands one of the given drawops
abbrev pub HasOneOf : List DrawopValue → List DrawopValue → ℕ → Type 0
HasOneOf given history place = (d : DrawopValue) × (slice_get history place ≡ Some d) × Contains given d

-- besides, the desk gained places of given drawops alone, each for a row, and this many rows are lost
pub record Loses (lost : ℕ) (given : List DrawopValue) (p q : PassValue) : Type 0 where
  pub kept : Keeps p q
  pub gained : List ℕ
  pub mine : q.mine ≡ p.mine ++ gained
  pub each : All (HasOneOf given q.seen) gained
  pub rows : p.free ≡ q.free + length gained + lost

-- one accept, in which d had this outcome
pub record Accepts (p : PassValue) (d : DrawopValue) (o : Outcome) (q : PassValue) : Type 0 where
  pub kept : Keeps p q
  pub sound : IsSound q
  pub becomes : Becomes p d o q

-- a drawop and its outcome
abbrev pub Entry : Type 0
Entry = DrawopValue × Outcome

abbrev pub drawops : List Entry → List DrawopValue
drawops es = map (λ e. e.0) es

abbrev pub outcomes : List Entry → List Outcome
outcomes es = map (λ e. e.1) es

-- how many entries have each outcome
abbrev pub tally : List Entry → Counts
tally es = counts_of (outcomes es)

-- one accept after another, while other desks of the board may accept too
abbrev pub Runs : PassValue → List Entry → PassValue → Type 0
Runs p [] q = q ≡ p
Runs p (e ∷ es) q = (r : PassValue) × Accepts p e.0 e.1 r × Runs r es q
