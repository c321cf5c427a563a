-- What happens to a judged member by a call by bytes, and which events it gives.
use Rattle.std.specs.Prelude.{◌≡◌, ℕ, true, false, List, ◌++◌, Option, Some, None, Result, IfOk, MatchResult, map}
use Rattle.wb_judging.specs.Calling.{call_fault}
use Rattle.wb_judging.specs.Judged.{Judged}
use Rattle.wb_judging.specs.declared.call.Call.{Call}
use Rattle.wb_judging.specs.Performing.{IsJudgedAt, JudgedValue, after_judged, events_of}
use Rattle.wb_judging.specs.declared.event.Event.{Event as JudgedEvent}
use Rattle.wb_judging.specs.declared.judged_fault.JudgedFault.{JudgedFault}
use Rattle.wb_c.specs.Statuses.{done, is_memory_at_judged, judged_status}
use Rattle.wb_c.specs.declared.event.Event.{Event}
use Rattle.wb_c.specs.declared.event.Event.TheVariants as events

-- an event for each that it gives, in their order
abbrev pub given : List JudgedEvent → List Event
given told = map events.Judged told

-- Its events wait behind those that waited, and the member is where the call leads; or the call is refused, and nothing changes.
abbrev pub JudgesBy : Option JudgedFault → Call → Judged → JudgedValue → JudgedValue → List Event → List Event → ℕ → Type 0
JudgesBy None call h old new before after status = (status ≡ done) × IsJudgedAt new (after_judged call h) × (after ≡ before ++ given (events_of call h))
JudgesBy (Some fault) call h old new before after status = (status ≡ judged_status fault) × (new ≡ old) × (after ≡ before)

-- The same at each state at which the member may be.
abbrev pub Judges : Call → JudgedValue → JudgedValue → List Event → List Event → ℕ → Type 0
Judges call old new before after status = (h : Judged) → IsJudgedAt old h → JudgesBy (call_fault call h) call h old new before after status

-- ---- parts of a call

-- The events of what a member did wait behind those that waited, unless an allocation failed.
abbrev pub Gives : {E : Type 0} → List JudgedEvent → List Event → List Event → Result ℕ E → Type 0
Gives told before after result = IfOk result (λ status. (status ≡ done) × (after ≡ before ++ given told))

-- The status of a call that a member refuses. Without memory there is none.
abbrev pub Says : {E : Type 0} → JudgedFault → Result ℕ E → Type 0
Says fault result = MatchResult result (λ status. (is_memory_at_judged fault ≡ false) × (status ≡ judged_status fault)) (λ _. is_memory_at_judged fault ≡ true)

-- Nothing is added, and a status says why.
abbrev pub Denies : {E : Type 0} → JudgedFault → List Event → List Event → Result ℕ E → Type 0
Denies fault before after result = (after ≡ before) × Says fault result
