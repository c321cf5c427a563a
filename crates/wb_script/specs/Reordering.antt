-- Scripts whose arrivals change places inside their batches.
use Rattle.std.specs.Prelude.{◌≡◌, ℕ, ◌+◌, ◌≤◌, List, [], ◌∷◌, ◌++◌, map, Bool, Option, Some, None, IsPermutation}
use Rattle.wb_script.specs.declared.fault.RunFault.{RunFault}
use Rattle.wb_lines.specs.Input.{InputLine, input_lines, content}
use Rattle.wb_script.specs.Script.{Part, Arrival, Nothing, part_in, RunOutcome, run_outcome, fault_at, IsOutcome}
use Rattle.wb_script.specs.ScriptLaws.{EachEnds}

-- What a line is to its batch: nothing, if it passes a limit or is cut off.
abbrev pub part_unless : Option RunFault → InputLine → Option Part
part_unless None line = Some (part_in line)
part_unless (Some e) line = None

-- what the line after `n` lines is to its batch
abbrev pub part_at : Bool → ℕ → InputLine → Option Part
part_at cut n line = part_unless (fault_at cut n line) line

-- the line, unless it is an arrival
abbrev pub other_than : Option Part → InputLine → Option InputLine
other_than (Some (Arrival d)) line = None
other_than part line = Some line

-- the lines, with None in the place of each arrival
abbrev pub others_of : Bool → ℕ → List InputLine → List (Option InputLine)
others_of cut n [] = []
others_of cut n (line ∷ lines) = other_than (part_at cut n line) line ∷ others_of cut (n + 1) lines

-- these come in front of the first batch
abbrev pub onto_batch : {X : Type 0} → List X → List (List X) → List (List X)
onto_batch xs [] = []
onto_batch xs (batch ∷ batches) = (xs ++ batch) ∷ batches

-- an arrival joins the first batch, and a line that ends a batch begins another in front of it
abbrev pub batches_with : {X : Type 0} → Option Part → X → List (List X) → List (List X)
batches_with (Some (Arrival d)) x batches = onto_batch (x ∷ []) batches
batches_with (Some Nothing) x batches = batches
batches_with part x batches = [] ∷ batches

-- the arrivals of each batch, each as `form` shows it; the last batch may have none
abbrev pub batches_of : {X : Type 0} → (InputLine → X) → Bool → ℕ → List InputLine → List (List X)
batches_of form cut n [] = [] ∷ []
batches_of form cut n (line ∷ lines) = batches_with (part_at cut n line) (form line) (batches_of form cut (n + 1) lines)

-- as many batches, each with the same in some order
abbrev pub AreRearranged : {X : Type 0} → List (List X) → List (List X) → Type 0
AreRearranged [] [] = Unit {0}
AreRearranged (batch ∷ batches) (other ∷ others) = IsPermutation batch other × AreRearranged batches others
AreRearranged batches others = ⊥

-- Arrivals change places inside their batch, as far as `form` shows them. Every other line stays where it is.
pub record IsReorderedBy {X : Type 0} (form : InputLine → X) (cut : Bool) (lines reordered : List InputLine) : Type 0 where
  pub others : others_of cut 0 reordered ≡ others_of cut 0 lines
  pub batches : AreRearranged (batches_of form cut 0 lines) (batches_of form cut 0 reordered)

-- The contents of arrivals change places, and line feeds stay. If each line ends with a line feed, whole lines change places: their carriage
-- returns go with them.
pub record IsReordered (cut : Bool) (input other : List ℕ) : Type 0 where
  pub contents : IsReorderedBy content cut (input_lines input) (input_lines other)
  pub ends : map (λ line. line.ended) (input_lines other) ≡ map (λ line. line.ended) (input_lines input)
  pub whole : EachEnds (input_lines input) → IsReorderedBy (λ line. line) cut (input_lines input) (input_lines other)

-- Each outcome, by any number of workers, is what one thread prints for the script with its arrivals reordered inside their batches.
abbrev pub WorkersAreOneThread : Type 0
WorkersAreOneThread = (workers : Option ℕ) (cut : Bool) (input : List ℕ) (o : RunOutcome) → IsOutcome workers cut input o
    → (other : List ℕ) × IsReordered cut input other × (o ≡ run_outcome workers cut other)

-- Whatever one thread prints for a reordered script, two workers or more may print for the script.
abbrev pub EachReorderingIsOutcome : Type 0
EachReorderingIsOutcome = (workers : ℕ) (cut : Bool) (input other : List ℕ) → 2 ≤ workers → IsReorderedBy content cut (input_lines input) (input_lines other)
    → IsOutcome (Some workers) cut input (run_outcome (Some workers) cut other)
