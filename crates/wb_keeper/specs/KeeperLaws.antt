-- Laws of keepers: what holds of any list of accepted calls.
use Rattle.std.specs.Prelude.{◌≡◌, ℕ, ◌≤◌, ◌↔◌, ◌⊎◌, Bool, true, false, List, [], ◌∷◌, ◌++◌, Contains, IsPermutation, Some, None, is_none, take, nat_eq, if◌then◌else◌}
use Rattle.std.specs.List.{list_any, filter_map}
use Rattle.std.specs.Option.{option_map}
use Rattle.wb_names.specs.Values.{NameValue, DrawopValue}
use Rattle.wb_names.specs.Ascending.{AreMarks}
use Rattle.wb_names.specs.History.{IsHistory}
use Rattle.wb_names.specs.Marks.{mark_of}
use Rattle.wb_names.specs.declared.entries.TheConstants.{MAX_ENTRIES}
use Rattle.wb_names.specs.declared.name.PageId.{PageId}
use Rattle.wb_codec.specs.declared.datagram.Datagram.{Datagram}
use Rattle.wb_codec.specs.declared.datagram.Datagram.TheVariants.{Draw, Request}
use Rattle.wb_recovery.specs.Timing.{is_ask_due, is_answer_due}
use Rattle.wb_recovery.specs.Events.{timers_of, actions_of}
use Rattle.wb_recovery.specs.Stopping.{receipts}
use Rattle.wb_recovery.specs.declared.tuning.Tuning.{Tuning}
use Rattle.wb_keeper.specs.Keeper.{KeeperCall, Hear, Arrive, moment_at, is_own, high_in, high_heard, delay_to, session_heard, senders_of, heard_by, last_heard, received_of, events_of, holds}
use Rattle.wb_keeper.specs.Hearing.{marks_in, marks_heard}
use Rattle.wb_keeper.specs.Keeping.{KeeperValue, StandsFor}
use Rattle.wb_keeper.specs.Ticks.{sends_for, stopped_in, stopped_after}
use Rattle.wb_keeper.specs.declared.keeper.Heard.{Heard}

-- ---- timers that a tick stops

-- if a keeper stands for some calls, these and the history tell which of its request timers a tick stops
abbrev pub StoppedByCalls : Type 0
StoppedByCalls = (me : ℕ) (constants : Tuning) (calls : List KeeperCall) (value : KeeperValue) → StandsFor me constants calls value → (history : List DrawopValue) → stopped_in history value.recovery ≡ stopped_after me constants calls history

-- ---- marks

-- a datagram of another member that was heard has this number as its mark of the source on the page
abbrev pub IsReported : ℕ → List KeeperCall → PageId → ℕ → ℕ → Type 0
IsReported me calls page source high = (now word : ℕ) × (datagram : Datagram) × (held : Bool) × Contains calls (Hear now datagram word held) × (is_own me datagram ≡ false) × (high_in page source datagram ≡ high)

-- it is the greatest of those numbers, or 0 if there is none
pub record IsGreatestReported (me : ℕ) (calls : List KeeperCall) (page : PageId) (source high : ℕ) : Type 0 where
  pub reported : (high ≡ 0) ⊎ IsReported me calls page source high
  pub greatest : (other : ℕ) → IsReported me calls page source other → other ≤ high

abbrev pub MarksAreGreatest : Type 0
MarksAreGreatest = (me : ℕ) (calls : List KeeperCall) (page : PageId) (source : ℕ) → IsGreatestReported me calls page source (high_heard me calls page source)

-- each datagram that was heard tells marks of the page in order, or none
abbrev pub AreOrderly : List KeeperCall → PageId → Type 0
AreOrderly calls page = (now word : ℕ) (datagram : Datagram) (held : Bool) → Contains calls (Hear now datagram word held) → AreMarks (marks_in page datagram)

-- Then the merged marks have the greatest number of each source.
abbrev pub MergedAreGreatest : Type 0
MergedAreGreatest = (me : ℕ) (calls : List KeeperCall) (page : PageId) → AreOrderly calls page → (source : ℕ) → mark_of (marks_heard me calls page) source ≡ high_heard me calls page source

-- ---- what is heard of oneself

-- the calls tell what they told without the last, but for the moment
pub record OnlyMoves (me now : ℕ) (call : KeeperCall) (calls : List KeeperCall) : Type 0 where
  pub moment : moment_at (call ∷ calls) ≡ now
  pub marks : (page : PageId) (source : ℕ) → high_heard me (call ∷ calls) page source ≡ high_heard me calls page source
  pub delays : (source : ℕ) → delay_to me (call ∷ calls) source ≡ delay_to me calls source
  pub senders : senders_of me (call ∷ calls) ≡ senders_of me calls
  pub heard : (source : ℕ) → last_heard me (call ∷ calls) source ≡ last_heard me calls source
  pub events : events_of me (call ∷ calls) ≡ events_of me calls

-- a datagram that comes from this member
abbrev pub OwnOnlyMoves : Type 0
OwnOnlyMoves = (me now : ℕ) (datagram : Datagram) (word : ℕ) (held : Bool) (calls : List KeeperCall) → is_own me datagram ≡ true → OnlyMoves me now (Hear now datagram word held) calls

-- a drawop, of whomever
abbrev pub DrawopsOnlyMove : Type 0
DrawopsOnlyMove = (me now : ℕ) (d : DrawopValue) (word : ℕ) (held : Bool) (calls : List KeeperCall) → OnlyMoves me now (Hear now (Draw d) word held) calls

-- ---- the senders of session messages

-- who sent the session messages that were heard of others, the newest first
abbrev pub all_senders : ℕ → List KeeperCall → List ℕ
all_senders me calls = filter_map (λ call. option_map (λ heard. heard.0) (session_heard me call)) calls

-- of a list whose first is the newest: each once, in the order in which they first came
abbrev pub by_first : List ℕ → List ℕ
by_first [] = []
by_first (s ∷ older) = if list_any (nat_eq s) (by_first older) then by_first older else by_first older ++ s ∷ []

-- the first 65,535 of them
abbrev pub first_senders : ℕ → List KeeperCall → List ℕ
first_senders me calls = take MAX_ENTRIES (by_first (all_senders me calls))

-- the last session message of a source says this
pub record IsLatest (me : ℕ) (calls : List KeeperCall) (source : ℕ) (h : Heard) : Type 0 where
  pub newer : List KeeperCall
  pub call : KeeperCall
  pub older : List KeeperCall
  pub split : calls ≡ newer ++ call ∷ older
  pub heard : session_heard me call ≡ Some (source, h)
  pub last : (c : KeeperCall) → Contains newer c → heard_by source (session_heard me c) ≡ None

abbrev pub FirstSendersAreEchoed : Type 0
FirstSendersAreEchoed = (me : ℕ) (calls : List KeeperCall) (source : ℕ) (h : Heard) → last_heard me calls source ≡ Some h ↔ (Contains (first_senders me calls) source × IsLatest me calls source h)

-- ---- ticks

-- what a tick at this moment sends, given the history and the calls before it
abbrev pub sent_at : ℕ → Tuning → List KeeperCall → KeeperValue → ℕ → List DrawopValue → List Datagram
sent_at me t calls value now history = sends_for me history (actions_of t (receipts now (events_of me calls) (received_of (delay_to me calls) (stopped_in history value.recovery))) now)

-- A tick asks, as me, for just the names whose request timer is due and that are not held.
abbrev pub AsksForNoneHeld : Type 0
AsksForNoneHeld = (me : ℕ) (t : Tuning) (calls : List KeeperCall) (value : KeeperValue) (now : ℕ) (history : List DrawopValue) → StandsFor me t calls value
    → (asker : ℕ) (name : NameValue) → Contains (sent_at me t calls value now history) (Request asker name) ↔ ((asker ≡ me) × (is_ask_due now (timers_of t (events_of me calls) name).ask ≡ true) × (holds history name ≡ false))

-- It answers with just the members of the history whose answer timer is due, if no request timer stands for their names.
abbrev pub AnswersWithHeld : Type 0
AnswersWithHeld = (me : ℕ) (t : Tuning) (calls : List KeeperCall) (value : KeeperValue) (now : ℕ) (history : List DrawopValue) → IsHistory history → StandsFor me t calls value
    → (d : DrawopValue) → Contains (sent_at me t calls value now history) (Draw d) ↔ (Contains history d × (is_answer_due now (timers_of t (events_of me calls) d.name).answer ≡ true) × (is_none (timers_of t (events_of me calls) d.name).ask ≡ true))

-- ---- arrivals

-- What stands for an arrival of names stands for one of the same names in another order.
abbrev pub OrderOfArrivalIsFree : Type 0
OrderOfArrivalIsFree = (me : ℕ) (t : Tuning) (calls : List KeeperCall) (value : KeeperValue) (now : ℕ) (names other : List NameValue) → IsPermutation names other → StandsFor me t (Arrive now names ∷ calls) value → StandsFor me t (Arrive now other ∷ calls) value
