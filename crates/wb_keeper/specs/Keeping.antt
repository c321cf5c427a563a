-- What a keeper holds, and what it stands for: the list of the calls that it accepted.
use Rattle.std.specs.Prelude.{◌≡◌, ℕ, ◌≤◌, List, [], ◌∷◌, length, Option, unwrap_or}
use Rattle.std.specs.BTreeMap.{BTreeMap, is_at}
use Rattle.std.specs.Map.{lookup}
use Rattle.std.specs.Ordering.{nat_cmp}
use Rattle.wb_names.specs.Moments.{IsMoment}
use Rattle.wb_recovery.specs.Delays.{IsDelay}
use Rattle.wb_names.specs.Values.{MarkValue}
use Rattle.wb_names.specs.Orders.{page_cmp}
use Rattle.wb_names.specs.Marks.{mark_of}
use Rattle.wb_names.specs.declared.entries.TheConstants.{MAX_ENTRIES}
use Rattle.wb_names.specs.declared.name.PageId.{PageId}
use Rattle.wb_recovery.specs.Values.{RecoveryValue}
use Rattle.wb_recovery.specs.Accepted as timers
use Rattle.wb_recovery.specs.declared.tuning.Tuning.{Tuning}
use Rattle.wb_keeper.specs.Keeper.{KeeperCall, moment_at, high_heard, delay_to, senders_of, last_heard, events_of}
use Rattle.wb_keeper.specs.Hearing.{marks_heard}
use Rattle.wb_keeper.specs.declared.keeper.Heard.{Heard}
use Rattle.wb_recovery.specs.declared.limits.TheConstants.{UNKNOWN_DELAY}

-- its member's number, the moment of its last call, its timers, and by source or page the delays, the session messages
-- and the marks that it heard
pub record KeeperValue : Type 0 where
  pub me : ℕ
  pub moment : ℕ
  pub recovery : RecoveryValue
  pub delays : List (ℕ × ℕ)
  pub heard : List (ℕ × Heard)
  pub marks : List (PageId × List MarkValue)

abbrev pub delay_at : List (ℕ × ℕ) → ℕ → ℕ
delay_at delays source = unwrap_or (lookup (is_at (nat_cmp source)) delays) UNKNOWN_DELAY

abbrev pub heard_at : List (ℕ × Heard) → ℕ → Option Heard
heard_at heard source = lookup (is_at (nat_cmp source)) heard

abbrev pub marks_at : List (PageId × List MarkValue) → PageId → List MarkValue
marks_at marks page = unwrap_or (lookup (is_at (page_cmp page)) marks) []

-- after these calls of the member me, with these constants
pub record StandsFor (me : ℕ) (tuning : Tuning) (calls : List KeeperCall) (value : KeeperValue) : Type 0 where
  pub me_is : value.me ≡ me
  pub moment : value.moment ≡ moment_at calls
  pub recovery : timers.StandsFor tuning (events_of me calls) value.recovery
  pub delays : (source : ℕ) → delay_at value.delays source ≡ delay_to me calls source
  pub heard : (source : ℕ) → heard_at value.heard source ≡ last_heard me calls source
  pub senders : length value.heard ≡ length (senders_of me calls)
  pub marks : (page : PageId) (source : ℕ) → mark_of (marks_at value.marks page) source ≡ high_heard me calls page source
  pub merged : (page : PageId) → marks_at value.marks page ≡ marks_heard me calls page

-- the call is accepted: what stood for some calls stands for these and this one
abbrev pub Keeps : KeeperCall → KeeperValue → KeeperValue → Type 0
Keeps call old new = (me : ℕ) (tuning : Tuning) (calls : List KeeperCall) → StandsFor me tuning calls old → StandsFor me tuning (call ∷ calls) new

-- what holds of every keeper
pub record IsWithinLimits (last : ℕ) (recovery : RecoveryValue) (delays : BTreeMap ℕ ℕ) (heard : BTreeMap ℕ Heard) (none : List MarkValue) : Type 0 where
  pub moment : IsMoment last
  pub before : recovery.moment ≤ last
  pub near : (source : ℕ) → IsDelay (delay_at delays.entries source)
  pub few : length heard.entries ≤ MAX_ENTRIES
  pub empty : none ≡ []
