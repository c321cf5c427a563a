-- A session of a driven host, a self-managing one, and a judged one, as an example; a drawop is forged on another page, new
-- constants are told, the driven host's program is followed by a self-managing one, and the judged host starts anew from
-- its file.
use Rattle.std.specs.Prelude.{◌≡◌, ℕ, List, [], ◌∷◌}
use Rattle.wb_names.specs.History.{name_of}
use Rattle.wb_names.specs.Values.{DrawopValue}
use Rattle.wb_codec.specs.declared.datagram.Datagram.TheVariants.{Draw}
use Rattle.wb_gaps.specs.Answers.{report_of}
use Rattle.wb_member.specs.Lines.{Says}
use Rattle.wb_member.specs.Opened.{Opened, gaps_at}
use Rattle.wb_keeping.specs.Laws.{Came}
use Rattle.wb_judging.specs.declared.call.Call.TheVariants.{CameFrom}
use Rattle.wb_judging.specs.declared.record.RecordLine.{RecordLine}
use Rattle.wb_judging.specs.declared.record.RecordLine.TheVariants.{Strange, Tick}
use Rattle.wb_laws_sessions.specs.Members.{Does, Opens}
use Rattle.wb_judged_sessions.specs.Examples.{deletes, numbers, page, somewhere, start}
use Rattle.wb_laws_machines.specs.Honest.{AreApart}
use Rattle.wb_host_sessions.specs.Hosts.{Drives, HostEvent, Judges, Keeps, hosts}
use Rattle.wb_judged_sessions.specs.Calls.{Starts, Takes, Tunes}
use Rattle.wb_laws_machines.specs.Machines.{AreTaken, At, member_at}
use Rattle.wb_host_sessions.specs.Records.{KeepRecords}
use Rattle.wb_laws_kept.specs.Calls.{Begins, Handed}

abbrev pub drawing : DrawopValue
drawing = record { name = name_of page 10 1; time = 5; op = deletes }

-- under the number of 10, who never drew it
abbrev pub forged : DrawopValue
forged = record { name = name_of (record { creator = 10; number = 2 }) 10 1; time = 5; op = deletes }

abbrev pub at : ℕ → ℕ → HostEvent → At HostEvent
at time place event = record { time = time; place = place; event = event }

abbrev pub started : List (At HostEvent)
started =
    at 2 2 (Judges (Starts (start 2 1) []))
    ∷ at 1 1 (Keeps (Begins (start 3 1).opening []))
    ∷ at 0 0 (Drives (Opens (record { c1 = 2; c2 = 2; d1 = 1; d2 = 1 }) 4 1))
    ∷ []

abbrev pub drawn : List (At HostEvent)
drawn = at 3 0 (Drives (Does (Says (Draw drawing)))) ∷ started

abbrev pub come : List (At HostEvent)
come = at 4 1 (Keeps (Handed (Came 4 (Draw drawing)))) ∷ drawn

abbrev pub lied : List (At HostEvent)
lied = at 5 1 (Keeps (Handed (Came 5 (Draw forged)))) ∷ come

abbrev pub heard : List (At HostEvent)
heard = at 6 2 (Judges (Takes (CameFrom 6 somewhere (Draw drawing)))) ∷ lied

abbrev pub tuned : List (At HostEvent)
tuned = at 7 2 (Judges (Tunes (record { c1 = 1; c2 = 1; d1 = 1; d2 = 1 }))) ∷ heard

abbrev pub followed : List (At HostEvent)
followed = at 8 0 (Keeps (Begins (start 4 1).opening (Draw drawing ∷ []))) ∷ tuned

-- what the judged host told its driver to record
abbrev pub file : List RecordLine
file = Tick 6 ∷ Strange drawing ∷ []

abbrev pub mixed : List (At HostEvent)
mixed = at 9 2 (Judges (Starts (start 3 7) file)) ∷ followed

abbrev pub there : ℕ → Opened
there i = member_at hosts numbers mixed i

-- It is such a session of this page; each of the three has the same report and no gaps, so each two of them agree; and one
-- holds what was forged.
pub record IsMixed : Type 0 where
  pub apart : AreApart numbers
  pub taken : AreTaken hosts numbers mixed
  pub records : KeepRecords page numbers mixed
  pub one : (there 0).is.held ≡ drawing ∷ []
  pub other : (there 1).is.held ≡ drawing ∷ forged ∷ []
  pub third : (there 2).is.held ≡ drawing ∷ []
  pub reports : report_of (there 0).is.held page ≡ report_of (there 1).is.held page
  pub reports' : report_of (there 1).is.held page ≡ report_of (there 2).is.held page
  pub gaps : gaps_at page (there 0) ≡ []
  pub gaps' : gaps_at page (there 1) ≡ []
  pub gaps'' : gaps_at page (there 2) ≡ []
