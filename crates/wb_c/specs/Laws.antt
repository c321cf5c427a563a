-- Laws of the calls by lines.
use Rattle.std.specs.Prelude.{◌≡◌, ℕ, List, [], ◌∷◌, Bool, map}
use Rattle.std.specs.List.{concat}
use Rattle.wb_lines.specs.Input.{input_lines}
use Rattle.wb_dialog.specs.Doing.{DialogValue}
use Rattle.wb_dialog.specs.Kinds.{transcript}
use Rattle.wb_c.specs.Blocks.{Took, ended, fresh, usual}

-- Lines that a host took one after another, and the block of each.
abbrev pub TookEach : DialogValue → List (List ℕ) → List (List ℕ) → DialogValue → Type 0
TookEach old [] [] new = new ≡ old
TookEach old [] (block ∷ blocks) new = ⊥
TookEach old (line ∷ lines) [] new = ⊥
TookEach old (line ∷ lines) (block ∷ blocks) new = (mid : DialogValue) × Took old mid line block × TookEach mid lines blocks new

-- The blocks of a host from its opening on are, one after another, what the host of a program writes for an input of the same lines, whether
-- it is judged or not.
abbrev pub BlocksAreATranscript : Type 0
BlocksAreATranscript = (cut : Bool) (input : List ℕ) (lines blocks : List (List ℕ)) (new : DialogValue) → input_lines input ≡ map ended lines → TookEach fresh lines blocks new → concat blocks ≡ transcript usual cut input
