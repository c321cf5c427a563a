-- The events of a line, in their order.
use Rattle.std.specs.Prelude.{ℕ, Bool, true, false, List, [], ◌∷◌, ◌++◌, Option, Some, None, map}
use Rattle.wb_names.specs.Arrivals.{Outcome, New, Again, Clash, Left}
use Rattle.wb_names.specs.Values.{DrawopValue}
use Rattle.wb_names.specs.declared.echo.Echo.{Echo}
use Rattle.wb_codec.specs.declared.datagram.Datagram.{Datagram}
use Rattle.wb_judge.specs.declared.origin.Origin.{Origin}
use Rattle.wb_judge.specs.declared.verdict.Verdict.{Verdict}
use Rattle.wb_judge.specs.declared.verdict.Warning.{Warning}
use Rattle.wb_judge.specs.declared.verdict.Why.{Why}
use Rattle.wb_judging.specs.Echoing.{echoing}
use Rattle.wb_judging.specs.declared.event.Event.{Event}
use Rattle.wb_judging.specs.declared.event.Event.TheVariants.{Became, Dropped, Drew, Fetch, Record, Send, Warn}
use Rattle.wb_judging.specs.declared.event.Fate.{Fate}
use Rattle.wb_judging.specs.declared.event.Fate.TheVariants as fates
use Rattle.wb_judging.specs.declared.record.RecordLine.{RecordLine}
use Rattle.wb_judging.specs.declared.record.RecordLine.TheVariants.{Tick}

-- what became of a drawop
abbrev pub fate_of : Outcome → Fate
fate_of (New place) = fates.New
fate_of (Again place) = fates.Again
fate_of (Clash place) = fates.Clash
fate_of Left = fates.Left

abbrev pub is_new : Option Fate → Bool
is_new None = false
is_new (Some fates.New) = true
is_new (Some fates.Again) = false
is_new (Some fates.Clash) = false
is_new (Some fates.Left) = false

abbrev pub dropped_events : Option Why → List Event
dropped_events None = []
dropped_events (Some why) = Dropped why ∷ []

-- a moment, and then the lines
abbrev pub record_events : ℕ → List RecordLine → List Event
record_events now [] = []
record_events now (line ∷ lines) = Record (Tick now) ∷ map Record (line ∷ lines)

abbrev pub drew_event : DrawopValue → Event
drew_event d = Drew d.name

abbrev pub send_event : Option Echo → Datagram → Event
send_event echo v = Send (echoing echo v)

abbrev pub became_events : Option Fate → List Event
became_events None = []
became_events (Some fate) = Became fate ∷ []

abbrev pub fetch_events : Option Origin → ℕ → List Event
fetch_events None lacking = []
fetch_events (Some o) lacking = Fetch o lacking ∷ []

abbrev pub warn_events : Option Warning → List Event
warn_events None = []
warn_events (Some warning) = Warn warning ∷ []

-- what is recorded, what the board gained, what is sent, and what became of a drawop
abbrev pub gain_events : ℕ → List RecordLine → List DrawopValue → List Event
gain_events now lines gained = record_events now lines ++ map drew_event gained

abbrev pub told : List Event → Option Echo → List Datagram → Option Fate → List Event
told gain echo sent fate = gain ++ (map (send_event echo) sent ++ became_events fate)

-- from where a stream is to be taken, and what people are to be warned of
abbrev pub advice : Verdict → ℕ → List Event
advice verdict lacking = fetch_events verdict.fetch lacking ++ warn_events verdict.warning
