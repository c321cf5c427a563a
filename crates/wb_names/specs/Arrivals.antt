-- What becomes of arrivals at a whiteboard of one thread, whose board has `cells` cells.
use Rattle.std.specs.Prelude.{◌≡◌, ℕ, ◌+◌, ◌<◌, ◌≤◌, List, [], ◌∷◌, ◌++◌, length, nat_lt, if◌then◌else◌}
use Rattle.wb_names.specs.Values.{DrawopValue}
use Rattle.wb_names.specs.Orders.{same_name}
use Rattle.wb_names.specs.Same.{same_drawop}
use Rattle.wb_names.specs.History.{HoldsName, IsNewAt, IsAgainAt, IsClashAt}

pub data Outcome : Type 0 where
  New : (place : ℕ) → Outcome
  Again : (place : ℕ) → Outcome
  Clash : (place : ℕ) → Outcome
  Left : Outcome

-- a new drawop is left where all cells are filled
abbrev pub IsTaken : ℕ → List DrawopValue → DrawopValue → Outcome → Type 0
IsTaken cells history d (New i) = IsNewAt history d i × (length history < cells)
IsTaken cells history d (Again i) = IsAgainAt history d i
IsTaken cells history d (Clash i) = IsClashAt history d i
IsTaken cells history d Left = (cells ≤ length history) × ¬ HoldsName history d.name

-- only a new drawop joins the history, at its end
abbrev pub history_with : List DrawopValue → DrawopValue → Outcome → List DrawopValue
history_with history d (New i) = history ++ d ∷ []
history_with history d (Again i) = history
history_with history d (Clash i) = history
history_with history d Left = history

-- one arrival after another: what became of each, and the history after them
abbrev pub AreTaken : ℕ → List DrawopValue → List DrawopValue → List Outcome → List DrawopValue → Type 0
AreTaken cells history [] [] after = after ≡ history
AreTaken cells history (d ∷ ds) (o ∷ os) after = IsTaken cells history d o × AreTaken cells (history_with history d o) ds os after
AreTaken cells history [] (o ∷ os) after = ⊥
AreTaken cells history (d ∷ ds) [] after = ⊥

-- how many arrivals became each
pub record Counts : Type 0 where
  pub fresh : ℕ
  pub again : ℕ
  pub clash : ℕ
  pub left : ℕ

abbrev pub counts : ℕ → ℕ → ℕ → ℕ → Counts
counts fresh again clash left = record { fresh = fresh; again = again; clash = clash; left = left }

-- one outcome more
abbrev pub counted : Outcome → Counts → Counts
counted (New i) n = record n { fresh = n.fresh + 1 }
counted (Again i) n = record n { again = n.again + 1 }
counted (Clash i) n = record n { clash = n.clash + 1 }
counted Left n = record n { left = n.left + 1 }

abbrev pub counts_of : List Outcome → Counts
counts_of [] = counts 0 0 0 0
counts_of (o ∷ os) = counted o (counts_of os)

-- A batch: one thread takes the arrivals in this order, which leads to the history after them, and counts their outcomes.
abbrev pub IsBatch : ℕ → List DrawopValue → List DrawopValue → List DrawopValue → Counts → Type 0
IsBatch cells history arrivals after n = (os : List Outcome) × AreTaken cells history arrivals os after × (counts_of os ≡ n)

-- The outcome of d is that of the first member with its name, which is looked for from place i on.
abbrev pub outcome_from : ℕ → ℕ → List DrawopValue → DrawopValue → Outcome
outcome_from cells i [] d = if nat_lt i cells then New i else Left
outcome_from cells i (e ∷ es) d = if same_name e.name d.name then (if same_drawop e d then Again i else Clash i) else outcome_from cells (i + 1) es d

abbrev pub outcome_of : ℕ → List DrawopValue → DrawopValue → Outcome
outcome_of cells history d = outcome_from cells 0 history d

abbrev pub outcomes_of : ℕ → List DrawopValue → List DrawopValue → List Outcome
outcomes_of cells history [] = []
outcomes_of cells history (d ∷ ds) = let o = outcome_of cells history d in o ∷ outcomes_of cells (history_with history d o) ds

-- the history after all arrivals
abbrev pub history_after : ℕ → List DrawopValue → List DrawopValue → List DrawopValue
history_after cells history [] = history
history_after cells history (d ∷ ds) = history_after cells (history_with history d (outcome_of cells history d)) ds
