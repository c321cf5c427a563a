-- What becomes of a batch that is read as it is taken.
use Rattle.std.specs.Prelude.{◌≡◌, ℕ, List, [], ◌∷◌, Bool, true, false, Some, Result, Ok, Err}
use Rattle.wb_names.specs.Arrivals.{Counts, counts_of, outcomes_of}
use Rattle.wb_names.specs.Values.{DrawopValue}
use Rattle.wb_lines.specs.Input.{InputLine}
use Rattle.wb_lines.specs.Moments.{LinesValue, IsBehind, is_broken}
use Rattle.wb_feed.specs.declared.batch.Batch.{Batch}
use Rattle.wb_feed.specs.Batches.{counts_in}
use Rattle.wb_commands.specs.Answers.{batch_line}
use Rattle.wb_member.specs.Holding.{MemberValue, IsOpenAt}
use Rattle.wb_member.specs.Opened.{Opened, batched}
use Rattle.wb_script.specs.declared.said.Said.{Said}
use Rattle.wb_script.specs.declared.taking.BatchFault.{BatchFault}
use Rattle.wb_script.specs.Script.{MayBeTaken}
use Rattle.wb_script.specs.Shows.{arrivals_of}
use Rattle.wb_script.specs.Inside.Parts.{by_batches}

-- A member has taken a batch by `workers` workers: it counted what one thread makes of the batch in this order, and is what that leads to.
pub record TakesAll (member : MemberValue) (workers : ℕ) (batch : List DrawopValue) (counted : Counts) (after : MemberValue) : Type 0 where
  pub order : List DrawopValue
  pub may : MayBeTaken (Some workers) batch order
  pub counts : counted ≡ counts_of (outcomes_of member.board.cells member.board.drawops order)
  pub leads : (host : Opened) → IsOpenAt member host → IsOpenAt after (batched batch order host)

-- These came, and the batch is at its end.
abbrev pub TakesFrom : MemberValue → ℕ → List DrawopValue → Bool → Result (MemberValue × Batch) BatchFault → Type 0
TakesFrom member workers arrived over (Ok r) = TakesAll member workers arrived (counts_in r.1) r.0 × (over ≡ true)
TakesFrom member workers arrived over (Err e) = Unit {0}

-- The batch of a line that hands in an arrival, and of the lines that were read on, which are all that join it.
pub record TakesLines (member : MemberValue) (workers : ℕ) (first : DrawopValue) (joined : List InputLine) (lines : LinesValue Said) (counted : Counts) (after : MemberValue) : Type 0 where
  pub taken : TakesAll member workers (first ∷ arrivals_of joined) counted after
  pub behind : IsBehind by_batches lines.line lines.seen

abbrev pub TakesArrivals : MemberValue → ℕ → DrawopValue → List InputLine → LinesValue Said → Result (MemberValue × Batch) BatchFault → Type 0
TakesArrivals member workers first joined lines (Ok r) = TakesLines member workers first joined lines (counts_in r.1) r.0
TakesArrivals member workers first joined lines (Err e) = Unit {0}

-- The counts are printed, unless no more lines can be read.
abbrev pub Prints : Bool → List ℕ → Counts → Type 0
Prints true printed counted = printed ≡ []
Prints false printed counted = printed ≡ batch_line counted

abbrev pub TakesBatch : MemberValue → ℕ → DrawopValue → List InputLine → List ℕ → LinesValue Said → Result MemberValue BatchFault → Type 0
TakesBatch member workers first joined printed lines (Ok after) =
    (counted : Counts) × TakesLines member workers first joined lines counted after × Prints (is_broken lines.seen) printed counted
TakesBatch member workers first joined printed lines (Err e) = printed ≡ []

-- What is printed of a batch, where the member is answered that took it: nothing, unless it was taken.
abbrev pub PrintsTaken : Bool → List ℕ → Result MemberValue BatchFault → Result (MemberValue × Batch) BatchFault → Type 0
PrintsTaken broken printed (Ok after) (Ok taken) = (after ≡ taken.0) × Prints broken printed (counts_in taken.1)
PrintsTaken broken printed (Ok after) (Err e) = ⊥
PrintsTaken broken printed (Err e) taken = printed ≡ []
