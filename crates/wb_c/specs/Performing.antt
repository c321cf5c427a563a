-- What a self-managing member does for a call by bytes, and which events it gives.
use Rattle.std.specs.Prelude.{◌≡◌, ℕ, List, [], ◌∷◌, ◌++◌, Option, Some, None, map}
use Rattle.wb_names.specs.Arrivals.{Outcome}
use Rattle.wb_member.specs.Questions.{answer_to}
use Rattle.wb_member.specs.declared.questions.Query.{Query}
use Rattle.wb_keeping.specs.Calls.{KeptLine, Added, Came, Ticked, Tuned, became_of, doing_of, fault_of}
use Rattle.wb_keeping.specs.Performing.{IsKeptAt, Keeping, KeptValue, after_doing, sent_by_doing}
use Rattle.wb_keeping.specs.declared.kept_fault.KeptFault.{KeptFault}
use Rattle.wb_c.specs.Events.{came_events, outcome_event, told_events}
use Rattle.wb_c.specs.Statuses.{done, kept_status}
use Rattle.wb_c.specs.declared.event.Event.{Event}
use Rattle.wb_c.specs.declared.event.Event.TheVariants.{Sent}

-- the event of what became of the drawop that came in or was drawn, if there is one
abbrev pub became_events : KeptLine → Outcome → List Event
became_events (Came now v) outcome = came_events v outcome
became_events (Ticked now) outcome = []
became_events (Added now page time op) outcome = outcome_event outcome ∷ []
became_events (Tuned constants) outcome = []

abbrev pub became : KeptLine → Keeping → List Event
became line k = became_events line (became_of line k.host)

-- What a member gives for a line: each datagram that it sends for it, in order, and then what became of a drawop.
abbrev pub given : KeptLine → Keeping → List Event
given line k = map Sent (sent_by_doing (doing_of line) k) ++ became line k

-- It performs the line, and its events wait behind those that waited; or it refuses the line, and nothing changes.
abbrev pub PerformsBy : Option KeptFault → KeptLine → Keeping → KeptValue → KeptValue → List Event → List Event → ℕ → Type 0
PerformsBy None line k old new before after status = (status ≡ done) × IsKeptAt new (after_doing (doing_of line) k) × (after ≡ before ++ given line k)
PerformsBy (Some fault) line k old new before after status = (status ≡ kept_status fault) × (new ≡ old) × (after ≡ before)

-- The same at each state at which the member may be.
abbrev pub Performs : KeptLine → KeptValue → KeptValue → List Event → List Event → ℕ → Type 0
Performs line old new before after status = (k : Keeping) → IsKeptAt old k → PerformsBy (fault_of line k) line k old new before after status

-- It answers a question, an event for each item, and stays as it is.
abbrev pub Answers : Query → KeptValue → KeptValue → List Event → List Event → ℕ → Type 0
Answers query old new before after status = (status ≡ done) × (new ≡ old) × ((k : Keeping) → IsKeptAt old k → after ≡ before ++ told_events (answer_to query k.host))
