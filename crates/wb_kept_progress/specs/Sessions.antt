-- Sessions of self-managing hosts. What one sends may be lost, and may be handed in to any of them, at any later point, any
-- number of times.
use Rattle.std.specs.Prelude.{◌≡◌, ℕ, true, List, [], ◌∷◌, ◌++◌, Contains, None, nat_eq, if◌then◌else◌}
use Rattle.wb_codec.specs.declared.datagram.Datagram.{Datagram}
use Rattle.wb_recovery.specs.Timing.{are_constants}
use Rattle.wb_recovery.specs.declared.tuning.Tuning.{Tuning}
use Rattle.wb_member.specs.Opened.{Opened, opened_with, present}
use Rattle.wb_keeping.specs.Kept.{ticks_at}
use Rattle.wb_keeping.specs.Laws.{KeptLine, Came, Ticked, Added, Tuned, doing_of, fault_of}
use Rattle.wb_keeping.specs.Performing.{Keeping, after_doing, after_lines, sent_by_doing}
use Rattle.wb_policy.specs.Policy.{begun}
pub use Rattle.wb_progress.specs.Traces.{At}
pub use Rattle.wb_laws_kept.specs.Openings.{DoNotGoBack}

-- ---- hosts and their lines

-- How a host becomes self-managing: it was opened so, took in these moments, and has a rate for reports and a time to listen.
pub record Opening : Type 0 where
  pub constants : Tuning
  pub number : ℕ
  pub cells : ℕ
  pub seed : ℕ
  pub moments : List ℕ
  pub rate : ℕ
  pub listen : ℕ

abbrev pub opened_host : Opening → Opened
opened_host o = after_lines (ticks_at o.moments) (opened_with o.constants o.number o.cells o.seed)

abbrev pub opened : Opening → Keeping
opened o = record { host = opened_host o; policy = begun (present (opened_host o)) o.rate o.listen o.seed }

-- the host at a place is handed a line, at whatever time
abbrev pub at : ℕ → KeptLine → At KeptLine
at place line = record { time = 0; place = place; event = line }

-- the host at a place after lines, of which the newest is the first
abbrev pub kept_at : (ℕ → Opening) → List (At KeptLine) → ℕ → Keeping
kept_at hosts [] i = opened (hosts i)
kept_at hosts (e ∷ older) i = if nat_eq e.place i then after_doing (doing_of e.event) (kept_at hosts older i) else kept_at hosts older i

-- all that anyone sent
abbrev pub sent : (ℕ → Opening) → List (At KeptLine) → List Datagram
sent hosts [] = []
sent hosts (e ∷ older) = sent_by_doing (doing_of e.event) (kept_at hosts older e.place) ++ sent hosts older

-- ---- what they keep to

-- No two hosts have one number, time went on at each before it was self-managing, and the constants of timers are 1 to 16.
pub record AreHosts (hosts : ℕ → Opening) : Type 0 where
  pub distinct : (i j : ℕ) → (hosts i).number ≡ (hosts j).number → i ≡ j
  pub moments : (i : ℕ) → DoNotGoBack 0 (hosts i).moments
  pub in_range : (i : ℕ) → are_constants (hosts i).constants ≡ true

-- No line is refused.
abbrev pub AreTaken : (ℕ → Opening) → List (At KeptLine) → Type 0
AreTaken hosts [] = Unit {0}
AreTaken hosts (e ∷ older) = (fault_of e.event (kept_at hosts older e.place) ≡ None) × AreTaken hosts older

-- all that is sent by the newer of some lines
abbrev pub sent_since : (ℕ → Opening) → List (At KeptLine) → List (At KeptLine) → List Datagram
sent_since hosts [] older = []
sent_since hosts (e ∷ newer) older = sent_by_doing (doing_of e.event) (kept_at hosts (newer ++ older) e.place) ++ sent_since hosts newer older

-- What comes was sent before.
abbrev pub WasSent : List Datagram → KeptLine → Type 0
WasSent before (Came now v) = Contains before v
WasSent before (Ticked now) = Unit {0}
WasSent before (Added now page time op) = Unit {0}
WasSent before (Tuned constants) = Unit {0}

-- What comes by the newer lines was sent before by them: nothing that was on its way is needed.
abbrev pub AreSent : (ℕ → Opening) → List (At KeptLine) → List (At KeptLine) → Type 0
AreSent hosts [] older = Unit {0}
AreSent hosts (e ∷ newer) older = WasSent (sent_since hosts newer older) e.event × AreSent hosts newer older
