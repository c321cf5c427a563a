-- At which state of a script a host is inside a run, and what it may do there with a line, or with a batch.
use Rattle.std.specs.Prelude.{Bool, ◌≡◌, ◌++◌, [], ◌∷◌, ℕ, List, Option, Some, Result, Ok, Err}
use Rattle.wb_names.specs.Values.{DrawopValue}
use Rattle.wb_lines.specs.declared.handler.Stop.{Stop}
use Rattle.wb_lines.specs.declared.handler.Stop.TheVariants as stops
use Rattle.wb_lines.specs.Input.{InputLine}
use Rattle.wb_lines.specs.Handling.{Met, whole, too_long, Step as LineStep, goes as goes_on, stops as stops_at, ends, Does}
use Rattle.wb_commands.specs.declared.fault.LineFault.{LineFault}
use Rattle.wb_commands.specs.declared.fault.Untaken.{Untaken}
use Rattle.wb_commands.specs.declared.fault.Untaken.TheVariants as untaken
use Rattle.wb_member.specs.Opened.{Opened}
use Rattle.wb_member.specs.Holding.{MemberValue, MayBeOpenAt}
use Rattle.wb_script.specs.Shows.{arrivals_of}
use Rattle.wb_script.specs.Script.{RunState, InSomeOrder, Part, Arrival, part_in, RunStep, moves_on, refused, part_step, closing_text, after_batch}

-- the host of a script: a member, once a board is open; how many workers take a batch, once that is known; and whether a thread was refused
pub record HostValue : Type 0 where
  pub member : Option MemberValue
  pub workers : Option ℕ
  pub refused : Bool

-- A host is at a state at which no arrivals wait: a batch is taken whole.
pub record IsRunAt (h : HostValue) (s : RunState) : Type 0 where
  pub member : MayBeOpenAt h.member s.host
  pub workers : h.workers ≡ s.workers
  pub waiting : s.waiting ≡ []

-- these arrivals wait
abbrev pub with_waiting : RunState → List DrawopValue → RunState
with_waiting s waiting = record { host = s.host; workers = s.workers; waiting = waiting }

-- these wait besides
abbrev pub with_more : RunState → List DrawopValue → RunState
with_more s more = with_waiting s (s.waiting ++ more)

-- what a line does, as a step of the driver
abbrev pub as_step : RunStep → LineStep RunState LineFault
as_step (moves_on t text) = goes_on text t
as_step (refused t text e) = stops_at text e

-- A line does this, in some order in which the present batch may be taken.
abbrev pub MayDo : RunState → Part → LineStep RunState LineFault → Type 0
MayDo s part step = InSomeOrder s (λ order. step ≡ as_step (part_step s order part))

-- These arrivals are a batch, and are taken in some order.
abbrev pub MayTakeBatch : RunState → List DrawopValue → LineStep RunState LineFault → Type 0
MayTakeBatch s batch step =
    InSomeOrder (with_more s batch) (λ order. step ≡ goes_on (closing_text (with_more s batch) order) (after_batch (with_more s batch) order))

-- If a board is open, a batch begins with an arrival, and these lines join it.
abbrev pub may_take_at : RunState → Option Opened → Part → List InputLine → LineStep RunState LineFault → Type 0
may_take_at s (Some host) (Arrival d) joined step = MayTakeBatch s (d ∷ arrivals_of joined) step
may_take_at s host part joined step = MayDo s part step

-- A script ends at a line that is too long.
abbrev pub may_take : RunState → ℕ → Met → List InputLine → LineStep RunState LineFault → Type 0
may_take s number (whole line) joined step = may_take_at s s.host (part_in line) joined step
may_take s number too_long joined step = step ≡ ends []

-- The code did what a line does in some order in which the present batch may be taken; or a front of that.
abbrev pub MayDoStep : {U : Type 0} → RunState → HostValue → List ℕ → Result U (Stop LineFault) → (List DrawopValue → RunStep) → Type 0
MayDoStep s new written result step = InSomeOrder s (λ order. Does (IsRunAt new) written result (as_step (step order)))

-- what became of a line
abbrev pub faulted : {U : Type 0} → Result U Untaken → Result U (Stop LineFault)
faulted (Ok u) = Ok u
faulted (Err (untaken.Line e)) = Err (stops.Fault e)
faulted (Err untaken.Memory) = Err stops.Memory
