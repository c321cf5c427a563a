-- What each call by bytes does, by what was held before and what is held after it, and which status it gives.
use Rattle.std.specs.Prelude.{◌≡◌, ◌-◌, ◌^◌, ℕ, List, [], ◌∷◌, length, Bool, true, false, nat_lt, Option, Some, None, is_some, unwrap_or, Result, Ok, Err}
use Rattle.wb_names.specs.Values.{DrawopValue}
use Rattle.wb_names.specs.declared.moment.TheConstants.{MOMENT_LIMIT}
use Rattle.wb_names.specs.declared.name.PageId.{PageId}
use Rattle.wb_codec.specs.declared.datagram.Datagram.{Datagram}
use Rattle.wb_codec.specs.declared.datagram.Datagram.TheVariants as datagrams
use Rattle.wb_codec.specs.declared.fault.ReadFault.{ReadFault}
use Rattle.wb_member.specs.declared.questions.Query.{Query}
use Rattle.wb_keeping.specs.Laws.{Added, Came, Ticked}
use Rattle.wb_keeping.specs.Performing.{KeptValue}
use Rattle.wb_dialog.specs.Doing.{IsAt, judged_in, kept_in, with_kept, with_member}
use Rattle.wb_dialog.specs.Kinds.{Standing, due_of}
use Rattle.wb_judge.specs.declared.limits.TheConstants.{TIME_LIMIT}
use Rattle.wb_judge.specs.declared.origin.Origin.{Origin}
use Rattle.wb_judging.specs.declared.call.Call.{Call}
use Rattle.wb_judging.specs.declared.call.Call.TheVariants.{CameFrom, Passed, UserDrew}
use Rattle.wb_judging.specs.declared.news.News.TheVariants.{Day, Garbled, Gone, Nothing}
use Rattle.wb_judging.specs.Performing.{JudgedValue}
use Rattle.wb_c.specs.Asking.{query_of}
use Rattle.wb_c.specs.Blocks.{Writes}
use Rattle.wb_c.specs.Calls.{status_of}
use Rattle.wb_c.specs.Events.{bytes_of, kind_of}
use Rattle.wb_c.specs.Judging.{Judges}
use Rattle.wb_c.specs.Performing.{Answers, Performs}
use Rattle.wb_c.specs.Statuses.{closed, judged, memory, no_drawop, no_moment, no_question, no_time, not_judged, not_kept, nothing, read_status}
use Rattle.wb_c.specs.declared.event.Event.{Event}
use Rattle.wb_c.specs.declared.room.Room.{Room}

-- ---- at an open host

-- Nothing is done, and a status says why.
abbrev pub Refuses : ℕ → Room → Room → ℕ → Type 0
Refuses why old new status = (status ≡ why) × (new ≡ old)

-- what a member does, at a host that is self-managing and not judged
abbrev pub AtKept : (KeptValue → KeptValue → List Event → List Event → ℕ → Type 0) → Option KeptValue → Room → Room → ℕ → Type 0
AtKept does None old new status = Refuses not_kept old new status
AtKept does (Some kept) old new status =
    (after : KeptValue) × (new.dialog ≡ with_kept after old.dialog) × (new.block ≡ old.block) × does kept after old.events.items new.events.items status

abbrev pub AtMember : (KeptValue → KeptValue → List Event → List Event → ℕ → Type 0) → Room → Room → ℕ → Type 0
AtMember does old new status = AtKept does (kept_in old.dialog.host) old new status

-- what the self-managing member of a judged host does
abbrev pub AtOwn : (KeptValue → KeptValue → List Event → List Event → ℕ → Type 0) → Option JudgedValue → Room → Room → ℕ → Type 0
AtOwn does None old new status = Refuses not_kept old new status
AtOwn does (Some m) old new status =
    (after : KeptValue) × (new.dialog ≡ with_member (record { kept = after; judge = m.judge }) old.dialog) × (new.block ≡ old.block) × does m.kept after old.events.items new.events.items status

-- what the self-managing member of any host does
abbrev pub AtAny : Bool → (KeptValue → KeptValue → List Event → List Event → ℕ → Type 0) → Room → Room → ℕ → Type 0
AtAny true does old new status = AtOwn does (judged_in old.dialog.host) old new status
AtAny false does old new status = AtMember does old new status

-- A judged host takes no datagram without its origin.
abbrev pub Unjudged : Bool → (Room → Room → ℕ → Type 0) → Room → Room → ℕ → Type 0
Unjudged true does old new status = Refuses judged old new status
Unjudged false does old new status = does old new status

-- what happens to a judged member, at a host that is judged
abbrev pub AtJudgedBy : Call → Option JudgedValue → Room → Room → ℕ → Type 0
AtJudgedBy call None old new status = Refuses not_judged old new status
AtJudgedBy call (Some m) old new status =
    (after : JudgedValue) × (new.dialog ≡ with_member after old.dialog) × (new.block ≡ old.block) × Judges call m after old.events.items new.events.items status

abbrev pub AtJudged : Call → Room → Room → ℕ → Type 0
AtJudged call old new status = AtJudgedBy call (judged_in old.dialog.host) old new status

-- A judged host has its judged member do it, and another its self-managing one.
abbrev pub AtEither : Bool → Call → (KeptValue → KeptValue → List Event → List Event → ℕ → Type 0) → Room → Room → ℕ → Type 0
AtEither true call does old new status = AtJudged call old new status
AtEither false call does old new status = AtMember does old new status

-- a moment is below the limit
abbrev pub InTime : Bool → (Room → Room → ℕ → Type 0) → Room → Room → ℕ → Type 0
InTime true does old new status = does old new status
InTime false does old new status = Refuses no_moment old new status

-- the datagram that was read, or the status that says why there is none
abbrev pub read_by : Result Datagram ReadFault → Result Datagram ℕ
read_by (Ok v) = Ok v
read_by (Err fault) = Err (read_status fault)

-- A judged host has the time of day, and the drawop's does not matter there.
abbrev pub Draws : ℕ → DrawopValue → Room → Room → ℕ → Type 0
Draws now d old new status = AtEither (is_some (judged_in old.dialog.host)) (UserDrew now d.name.page d.op) (Performs (Added now d.name.page d.time d.op)) old new status

abbrev pub Takes : ℕ → Result Datagram ℕ → Room → Room → ℕ → Type 0
Takes now (Ok v) old new status = Unjudged (is_some (judged_in old.dialog.host)) (AtMember (Performs (Came now v))) old new status
Takes now (Err why) old new status = Refuses why old new status

-- What a drawop does is drawn; any other datagram is none.
abbrev pub Adds : ℕ → Result Datagram ℕ → Room → Room → ℕ → Type 0
Adds now (Ok (datagrams.Draw d)) old new status = Draws now d old new status
Adds now (Ok v) old new status = Refuses no_drawop old new status
Adds now (Err why) old new status = Refuses why old new status

abbrev pub Ticks : ℕ → Room → Room → ℕ → Type 0
Ticks now old new status = AtEither (is_some (judged_in old.dialog.host)) (Passed now Nothing) (Performs (Ticked now)) old new status

abbrev pub CameBy : ℕ → Result Datagram ReadFault → Room → Room → ℕ → Type 0
CameBy now read old new status = InTime (nat_lt now MOMENT_LIMIT) (Takes now (read_by read)) old new status

abbrev pub AddsBy : ℕ → Result Datagram ReadFault → Room → Room → ℕ → Type 0
AddsBy now read old new status = InTime (nat_lt now MOMENT_LIMIT) (Adds now (read_by read)) old new status

abbrev pub TicksBy : ℕ → Room → Room → ℕ → Type 0
TicksBy now old new status = InTime (nat_lt now MOMENT_LIMIT) (Ticks now) old new status

-- the origin of a place, and of its owner if it has one
abbrev pub origin_of : ℕ → ℕ → Bool → Origin
origin_of place owner true = record { place = place; owner = Some owner }
origin_of place owner false = record { place = place; owner = None }

-- What came from an origin, if it is not a datagram, is handed in as that.
abbrev pub arrival : ℕ → Origin → Result Datagram ReadFault → Call
arrival now o (Ok v) = CameFrom now o v
arrival now o (Err fault) = Passed now Garbled

abbrev pub CameFromBy : ℕ → Origin → Result Datagram ReadFault → Room → Room → ℕ → Type 0
CameFromBy now o read old new status = InTime (nat_lt now MOMENT_LIMIT) (AtJudged (arrival now o read)) old new status

-- a time of day is below its limit
abbrev pub OfDay : Bool → (Room → Room → ℕ → Type 0) → Room → Room → ℕ → Type 0
OfDay true does old new status = does old new status
OfDay false does old new status = Refuses no_time old new status

abbrev pub WallBy : ℕ → ℕ → Room → Room → ℕ → Type 0
WallBy now wall old new status = InTime (nat_lt now MOMENT_LIMIT) (OfDay (nat_lt wall TIME_LIMIT) (AtJudged (Passed now (Day wall)))) old new status

abbrev pub GoneBy : ℕ → Origin → Room → Room → ℕ → Type 0
GoneBy now o old new status = InTime (nat_lt now MOMENT_LIMIT) (AtJudged (Passed now (Gone o))) old new status

abbrev pub AsksBy : Option Query → Room → Room → ℕ → Type 0
AsksBy (Some query) old new status = AtAny (is_some (judged_in old.dialog.host)) (Answers query) old new status
AsksBy None old new status = Refuses no_question old new status

abbrev pub Asks : ℕ → PageId → ℕ → ℕ → Room → Room → ℕ → Type 0
Asks question page width height old new status = AsksBy (query_of question page width height) old new status

-- ---- at a host that is open or closed

-- The same; or an allocation failed, and the host is closed.
abbrev pub Serves : (Room → Room → ℕ → Type 0) → Option Room → Option Room → ℕ → Type 0
Serves does None new status = (status ≡ closed) × (new ≡ None)
Serves does (Some old) None status = status ≡ memory
Serves does (Some old) (Some new) status = does old new status

-- ---- events

-- The bytes of an event are at the front of the buffer, and it waits no more; or there is no room for them, and it waits.
abbrev pub HandsEvent : Event → List Event → List Event → Bool → Type 0
HandsEvent event rest left true = left ≡ rest
HandsEvent event rest left false = left ≡ event ∷ rest

-- The next event is handed over, if there is room for its bytes. The call answers its kind and its size in any case; 0 and 0 if no event waits.
abbrev pub GivesEvent : List Event → List Event → List ℕ → List ℕ → ℕ → ℕ → ℕ → Type 0
GivesEvent [] left before after kind size status = (status ≡ nothing) × (left ≡ []) × (after ≡ before) × (kind ≡ 0) × (size ≡ 0)
GivesEvent (event ∷ rest) left before after kind size status = (kind ≡ kind_of event) × (size ≡ length (bytes_of event))
    × ((whole : Bool) × (status ≡ status_of whole) × Writes (bytes_of event) before after whole × HandsEvent event rest left whole)

-- The same; or an allocation failed, and the host is closed.
abbrev pub FetchesEvent : Option Room → Option Room → List ℕ → List ℕ → ℕ → ℕ → ℕ → Type 0
FetchesEvent None new before after kind size status = (status ≡ closed) × (new ≡ None) × (after ≡ before) × (kind ≡ 0) × (size ≡ 0)
FetchesEvent (Some old) None before after kind size status = status ≡ memory
FetchesEvent (Some old) (Some new) before after kind size status = (new.dialog ≡ old.dialog) × (new.block ≡ old.block) × GivesEvent old.events.items new.events.items before after kind size status

-- ---- the next moment

abbrev pub never : ℕ
never = 2 ^ 64 - 1

-- the next moment at which a tick is due, or never
abbrev pub IsDue : Option Room → ℕ → Type 0
IsDue None due = due ≡ never
IsDue (Some room) due = (s : Standing) → IsAt room.dialog s → due ≡ unwrap_or (due_of s.kind) never
