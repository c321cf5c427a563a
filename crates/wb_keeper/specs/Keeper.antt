-- What a keeper knows, read off the list of its accepted calls, the newest first.
use Rattle.std.specs.Prelude.{ℕ, Bool, false, ◌||◌, List, [], ◌∷◌, length, map, max, zip, Option, Some, None, unwrap_or, nat_eq, nat_le, if◌then◌else◌}
use Rattle.std.specs.List.{list_any, find}
use Rattle.std.specs.Option.{option_or}
use Rattle.wb_names.specs.Values.{NameValue, DrawopValue}
use Rattle.wb_names.specs.Orders.{same_name, same_page}
use Rattle.wb_names.specs.Marks.{mark_of}
use Rattle.wb_names.specs.declared.entries.TheConstants.{MAX_ENTRIES}
use Rattle.wb_names.specs.declared.name.PageId.{PageId}
use Rattle.wb_names.specs.declared.echo.Echo.{Echo}
use Rattle.wb_codec.specs.declared.datagram.Datagram.{Datagram}
use Rattle.wb_codec.specs.declared.datagram.Datagram.TheVariants.{Draw, Session, Request, AskPages, PageState}
use Rattle.wb_recovery.specs.RoundTrip.{delay_from}
use Rattle.wb_recovery.specs.Events.{Event, Asked, Tick, Tune}
use Rattle.wb_recovery.specs.Noticing.{notices}
use Rattle.wb_recovery.specs.Stopping.{receipts}
use Rattle.wb_recovery.specs.declared.missed.Missed.{Missed}
use Rattle.wb_recovery.specs.declared.missed.Received.{Received}
use Rattle.wb_recovery.specs.declared.tuning.Tuning.{Tuning}
use Rattle.wb_keeper.specs.declared.keeper.Heard.{Heard}
use Rattle.wb_recovery.specs.declared.limits.TheConstants.{UNKNOWN_DELAY}

-- An accepted call, with what it found on the desk: whether a name that was asked for was held; which of the names
-- that arrived were held; which names with a request timer were; whether a name that is given up had a request timer.
pub data KeeperCall : Type 0 where
  SetDelay : (source micros : ℕ) → KeeperCall
  SetConstants : (constants : Tuning) → KeeperCall
  Hear : (now : ℕ) (datagram : Datagram) (word : ℕ) (held : Bool) → KeeperCall
  Arrive : (now : ℕ) (held : List NameValue) → KeeperCall
  Miss : (now : ℕ) (names : List NameValue) (words : List ℕ) → KeeperCall
  GoOn : (now : ℕ) (words : List ℕ) (stopped : List NameValue) → KeeperCall
  Report : (now : ℕ) → KeeperCall
  GiveUp : (now : ℕ) (name : NameValue) (asked : Bool) → KeeperCall

-- what the newest of the calls that tell a thing tells of it
abbrev pub newest : {X : Type 0} → (KeeperCall → Option X) → List KeeperCall → Option X
newest tells [] = None
newest tells (call ∷ calls) = option_or (tells call) (newest tells calls)

-- the greatest of the numbers that calls tell
abbrev pub greatest : (KeeperCall → ℕ) → List KeeperCall → ℕ
greatest tells [] = 0
greatest tells (call ∷ calls) = max (tells call) (greatest tells calls)

-- ---- the moment

abbrev pub now_of : KeeperCall → Option ℕ
now_of (SetDelay source micros) = None
now_of (SetConstants constants) = None
now_of (Hear now datagram word held) = Some now
now_of (Arrive now held) = Some now
now_of (Miss now names words) = Some now
now_of (GoOn now words stopped) = Some now
now_of (Report now) = Some now
now_of (GiveUp now name asked) = Some now

abbrev pub moment_at : List KeeperCall → ℕ
moment_at calls = unwrap_or (newest now_of calls) 0

-- ---- what is heard of others: who sent it, if the datagram says so

abbrev pub sender_of : Datagram → Option ℕ
sender_of (Draw d) = None
sender_of (Session sender sent page marks echoes) = Some sender
sender_of (Request asker name) = Some asker
sender_of (AskPages asker) = Some asker
sender_of (PageState sender page marks) = Some sender

-- sent by this member
abbrev pub is_from : ℕ → Option ℕ → Bool
is_from me None = false
is_from me (Some sender) = nat_eq sender me

abbrev pub is_own : ℕ → Datagram → Bool
is_own me datagram = is_from me (sender_of datagram)

-- ---- marks

-- the greatest number of a source on a page that a datagram tells, or 0
abbrev pub high_in : PageId → ℕ → Datagram → ℕ
high_in page source (Session sender sent p marks echoes) = if same_page p page then mark_of marks source else 0
high_in page source (PageState sender p marks) = if same_page p page then mark_of marks source else 0
high_in page source (Draw d) = 0
high_in page source (Request asker name) = 0
high_in page source (AskPages asker) = 0

abbrev pub high_reported : ℕ → PageId → ℕ → KeeperCall → ℕ
high_reported me page source (Hear now datagram word held) = if is_own me datagram then 0 else high_in page source datagram
high_reported me page source call = 0

-- the greatest number of a source on a page that was heard from others, or 0
abbrev pub high_heard : ℕ → List KeeperCall → PageId → ℕ → ℕ
high_heard me calls page source = greatest (high_reported me page source) calls

-- ---- delays

-- the delay that an echo tells, if it tells one
abbrev pub delay_by : ℕ → Option Echo → Option ℕ
delay_by now None = None
delay_by now (Some echo) = delay_from echo.sent echo.held now

-- the delay to a source that a session message of it tells, by its echo of me
abbrev pub delay_in : ℕ → ℕ → ℕ → Datagram → Option ℕ
delay_in me now source (Session sender sent page marks echoes) = if nat_eq sender source then delay_by now (find (λ e. nat_eq e.source me) echoes) else None
delay_in me now source (Draw d) = None
delay_in me now source (Request asker name) = None
delay_in me now source (AskPages asker) = None
delay_in me now source (PageState sender page marks) = None

abbrev pub delay_given : ℕ → ℕ → KeeperCall → Option ℕ
delay_given me source (SetDelay s micros) = if nat_eq s source then Some micros else None
delay_given me source (Hear now datagram word held) = if is_own me datagram then None else delay_in me now source datagram
delay_given me source call = None

-- the delay to a source that was last set or heard, else a tenth of a second
abbrev pub delay_to : ℕ → List KeeperCall → ℕ → ℕ
delay_to me calls source = unwrap_or (newest (delay_given me source) calls) UNKNOWN_DELAY

-- ---- the senders of session messages

-- whose session message it is, the moment that it names, and when it was heard
abbrev pub session_in : ℕ → Datagram → Option (ℕ × Heard)
session_in now (Session sender sent page marks echoes) = Some (sender, record { sent = sent; at = now })
session_in now (Draw d) = None
session_in now (Request asker name) = None
session_in now (AskPages asker) = None
session_in now (PageState sender page marks) = None

abbrev pub session_heard : ℕ → KeeperCall → Option (ℕ × Heard)
session_heard me (Hear now datagram word held) = if is_own me datagram then None else session_in now datagram
session_heard me call = None

-- the senders that are remembered: of those that were heard, the first 65,535
abbrev pub remember : Option (ℕ × Heard) → List ℕ → List ℕ
remember None senders = senders
remember (Some told) senders = if list_any (nat_eq told.0) senders || nat_le MAX_ENTRIES (length senders) then senders else told.0 ∷ senders

abbrev pub senders_of : ℕ → List KeeperCall → List ℕ
senders_of me [] = []
senders_of me (call ∷ calls) = remember (session_heard me call) (senders_of me calls)

abbrev pub heard_by : ℕ → Option (ℕ × Heard) → Option Heard
heard_by source None = None
heard_by source (Some told) = if nat_eq told.0 source then Some told.1 else None

-- of a sender that is remembered, what its last session message told
abbrev pub last_heard : ℕ → List KeeperCall → ℕ → Option Heard
last_heard me calls source = if list_any (nat_eq source) (senders_of me calls) then newest (λ call. heard_by source (session_heard me call)) calls else None

-- ---- the timers

-- names that come, and that are missed, with the delays to their sources
abbrev pub received_of : (ℕ → ℕ) → List NameValue → List Received
received_of delays names = map (λ n. record { name = n; delay = delays n.source }) names

abbrev pub missed_of : (ℕ → ℕ) → List NameValue → List ℕ → List Missed
missed_of delays names words = map (λ p. record { name = p.0; delay = delays p.0.source; word = p.1 }) (zip names words)

-- A request of another member: the delay that counts is that to the asker if the name is held, and else that to its source.
abbrev pub asked_by : ℕ → (ℕ → ℕ) → ℕ → Datagram → ℕ → Bool → List Event → List Event
asked_by me delays now (Request asker name) word held events = if nat_eq asker me then events else Asked name held now (delays (if held then asker else name.source)) word ∷ events
asked_by me delays now (Draw d) word held events = events
asked_by me delays now (Session sender sent page marks echoes) word held events = events
asked_by me delays now (AskPages asker) word held events = events
asked_by me delays now (PageState sender page marks) word held events = events

-- A name that is given up counts as one that has come from nearby, if it had a request timer.
abbrev pub given_up : ℕ → NameValue → Bool → List Event → List Event
given_up now name asked events = if asked then receipts now events (received_of (λ source. 0) (name ∷ [])) else events

-- the calls of the timers once a call is accepted, given the delays and the calls before it
abbrev pub timer_calls : ℕ → (ℕ → ℕ) → KeeperCall → List Event → List Event
timer_calls me delays (Hear now datagram word held) events = asked_by me delays now datagram word held events
timer_calls me delays (Arrive now held) events = receipts now events (received_of delays held)
timer_calls me delays (Miss now names words) events = notices now events (missed_of delays names words)
timer_calls me delays (GoOn now words stopped) events = Tick now words ∷ receipts now events (received_of delays stopped)
timer_calls me delays (GiveUp now name asked) events = given_up now name asked events
timer_calls me delays (SetConstants constants) events = Tune constants ∷ events
timer_calls me delays call events = events

-- the calls of the timers, the newest first
abbrev pub events_of : ℕ → List KeeperCall → List Event
events_of me [] = []
events_of me (call ∷ calls) = timer_calls me (delay_to me calls) call (events_of me calls)

-- ---- the desk

-- a member has the name
abbrev pub holds : List DrawopValue → NameValue → Bool
holds history name = list_any (λ d. same_name d.name name) history
