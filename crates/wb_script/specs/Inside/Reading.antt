-- A script that is read on while a batch is taken: lines that are skipped, and arrivals.
use Rattle.std.specs.Prelude.{◌≡◌, ◌≤◌, ◌<◌, ◌+◌, ◌-◌, ℕ, length, List, [], ◌∷◌, ◌++◌, Bool, true, Option, Some, None}
use Rattle.wb_names.specs.Values.{DrawopValue}
use Rattle.wb_lines.specs.Input.{InputLine}
use Rattle.wb_lines.specs.Moments.{Moment, Reads, IsBehind}
use Rattle.wb_script.specs.declared.said.Said.{Said}
use Rattle.wb_script.specs.Script.{most_lines}
use Rattle.wb_script.specs.Shows.{arrivals_of}
use Rattle.wb_script.specs.Inside.Parts.{by_batches}

-- What reading up to the next arrival comes to: that arrival, or the end of the batch.
abbrev pub ReadsTo : Moment Said → Moment Said → Option DrawopValue → Type 0
ReadsTo old new (Some d) =
    (old.lines.done < new.lines.done) × (new.lines.done ≤ most_lines)
    × ((joined : List InputLine) × Reads by_batches old new [] joined × (arrivals_of joined ≡ d ∷ []))
ReadsTo old new None =
    (old.lines.done ≤ new.lines.done) × IsBehind by_batches new.lines.line new.lines.seen
    × ((joined : List InputLine) × Reads by_batches old new [] joined × (arrivals_of joined ≡ []))

-- ---- the arrivals of a batch, of which the first may not have been taken

abbrev pub listed : Option DrawopValue → List DrawopValue
listed None = []
listed (Some d) = d ∷ []

-- at most this many can still come
abbrev pub most_of : ℕ → Option DrawopValue → ℕ
most_of done first = (most_lines - done) + length (listed first)

-- Lines were read that join the batch, and these arrivals came of them, and of the first.
abbrev pub Gathers : Moment Said → Option DrawopValue → List DrawopValue → Moment Said → Option DrawopValue → Type 0
Gathers old first arrived new first' =
    (joined : List InputLine) × Reads by_batches old new [] joined × (listed first ++ arrivals_of joined ≡ arrived ++ listed first')

-- What the next arrival comes to: an arrival, or the end of the batch.
abbrev pub ArrivesTo : Moment Said → Option DrawopValue → Moment Said → Option DrawopValue → Option DrawopValue → Type 0
ArrivesTo old first new first' (Some d) =
    (most_of new.lines.done first' < most_of old.lines.done first) × Gathers old first (d ∷ []) new first'
ArrivesTo old first new first' None =
    (most_of new.lines.done first' ≤ most_of old.lines.done first) × (first' ≡ None) × IsBehind by_batches new.lines.line new.lines.seen
    × Gathers old first [] new first'

-- where the driver is, the first, and whether no more come
pub record BatchReading : Type 0 where
  pub at : Moment Said
  pub first : Option DrawopValue
  pub over : Bool

-- The script was read on, and these came. The first is not lost, and after the last no line joins the batch.
pub record ReadsOn (old : BatchReading) (arrived : List DrawopValue) (new : BatchReading) : Type 0 where
  pub gathers : Gathers old.at old.first arrived new.at new.first
  pub ended : new.over ≡ true → (new.first ≡ None) × IsBehind by_batches new.at.lines.line new.at.lines.seen

-- These come next: whatever led to the one leads on to the other.
abbrev pub Gives : BatchReading → List DrawopValue → BatchReading → Type 0
Gives old next new = (start : BatchReading) (arrived : List DrawopValue) → ReadsOn start arrived old → ReadsOn start (arrived ++ next) new
