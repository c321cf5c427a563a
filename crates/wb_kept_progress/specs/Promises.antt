-- What a policy promises of the hosts that it manages. That a session becomes whole is proved of these promises alone: for another policy they are
-- to be proved, and not the law.
use Rattle.std.specs.Prelude.{◌≡◌, ℕ, ◌+◌, ◌<◌, ◌≤◌, false, List, ◌∷◌, ◌++◌, Contains, Option, Some}
use Rattle.std.specs.declared.cmp.Ordering.TheVariants.{Less}
use Rattle.wb_names.specs.Orders.{name_cmp}
use Rattle.wb_names.specs.Values.{NameValue}
use Rattle.wb_recovery.specs.declared.timers.AskTimer.{AskTimer}
use Rattle.wb_progress.specs.InTime.{known_from, repairing}
use Rattle.wb_progress.specs.Turns.{Terms}
use Rattle.wb_member.specs.Judged.{holds}
use Rattle.wb_member.specs.Opened.{Opened}
use Rattle.wb_member.specs.declared.calls.Call.TheVariants.{Stop}
use Rattle.wb_keeping.specs.Kept.{Calls}
use Rattle.wb_kept_progress.specs.Sessions.{Opening}
use Rattle.wb_kept_progress.specs.Timed.{At, host_after, performed, start_of, time_of, timers_after}
use Rattle.wb_kept_progress.specs.Whole.{AreSoon, AreWithin, IsHeldBySome, IsTimelySession, LackAtMost, ReportsAreDue, SessionsBecomeWhole, Sizes, WaitAtMost, asked_within, minute, request_span, there}
use Rattle.wb_keeping.specs.Laws.{KeptLine}
use Rattle.wb_member.specs.Lines.{Line}

abbrev pub host_then : (ℕ → Opening) → List (At Line) → ℕ → Opened
host_then hosts back i = host_after (λ j. start_of (hosts j)) back i

abbrev pub timer_then : (ℕ → Opening) → List (At Line) → ℕ → NameValue → Option AskTimer
timer_then hosts back i n = (timers_after (λ j. start_of (hosts j)) back i n).ask

-- ---- where they are given

-- a session, its size, and how soon its hosts act
pub record Holds (hosts : ℕ → Opening) (terms : Terms) (trace : List (At KeptLine)) (sizes : Sizes) (wait most : ℕ) : Type 0 where
  pub session : IsTimelySession hosts terms trace
  pub within : AreWithin hosts terms trace sizes
  pub soon : AreSoon hosts terms trace sizes most
  pub waits : WaitAtMost hosts terms trace wait
  pub lacks : LackAtMost hosts terms trace most
  pub short : request_span terms + terms.drift ≤ minute

-- Nothing new comes to a live host in a window of calls, which begins late enough.
pub record IsStill (hosts : ℕ → Opening) (terms : Terms) (trace newest window base : List (At KeptLine)) : Type 0 where
  pub split : trace ≡ newest ++ (window ++ base)
  pub same : (front part : List (At KeptLine)) (i : ℕ) → window ≡ front ++ part → Contains terms.live i → (there hosts (part ++ base) i).host.is.held ≡ (there hosts base i).host.is.held

pub record IsLate (terms : Terms) (sizes : Sizes) (wait : ℕ) (base : List (At KeptLine)) : Type 0 where
  pub known : known_from terms + wait + repairing terms ≤ time_of base
  pub since : sizes.since ≤ time_of base

-- behind some lines a live host asks for what another holds
pub record IsAsking (hosts : ℕ → Opening) (terms : Terms) (trace part : List (At KeptLine)) (i : ℕ) (back : List (At Line)) : Type 0 where
  pub front : List (At Line)
  pub split : performed hosts part ≡ front ++ back
  pub name : NameValue
  pub ask : AskTimer
  pub stands : timer_then hosts back i name ≡ Some ask
  pub held : IsHeldBySome hosts terms trace name

-- ---- promises

-- While nothing new comes, a live host that lacks what another holds asks for something that another holds: within `asked_within`, and longer after
-- the beginning than a first request waits.
abbrev pub LackIsAsked : Type 0
LackIsAsked = (hosts : ℕ → Opening) (terms : Terms) (trace newest window base : List (At KeptLine)) (sizes : Sizes) (wait most i : ℕ) (n : NameValue) → Holds hosts terms trace sizes wait most → IsStill hosts terms trace newest window base → IsLate terms sizes wait base
    → Contains terms.live i → IsHeldBySome hosts terms trace n → holds (there hosts base i).host n ≡ false → time_of base + asked_within terms sizes < time_of (window ++ base)
    → (back : List (At Line)) × IsAsking hosts terms trace (window ++ base) i back × (time_of base + request_span terms < time_of back) × (time_of back ≤ time_of base + asked_within terms sizes)

-- behind some lines it asks for a greater name that another holds
pub record IsForAnother (hosts : ℕ → Opening) (terms : Terms) (trace : List (At KeptLine)) (i : ℕ) (back : List (At Line)) (n : NameValue) : Type 0 where
  pub name : NameValue
  pub greater : name_cmp n name ≡ Less
  pub held : IsHeldBySome hosts terms trace name
  pub ask : AskTimer
  pub stands : timer_then hosts back i name ≡ Some ask

-- While nothing new comes, a live host gives up a name before its timer was backed off only if it asks for a greater one that another holds.
abbrev pub GivesUpForAnother : Type 0
GivesUpForAnother = (hosts : ℕ → Opening) (terms : Terms) (trace newest window base : List (At KeptLine)) (sizes : Sizes) (wait most i : ℕ) (front back : List (At Line)) (x : At Line) (n : NameValue) (ask : AskTimer) → Holds hosts terms trace sizes wait most → IsStill hosts terms trace newest window base → IsLate terms sizes wait base
    → Contains terms.live i → performed hosts (window ++ base) ≡ front ++ x ∷ back → time_of base + request_span terms < time_of back → x.place ≡ i → x.event ≡ Calls (Stop n) → timer_then hosts back i n ≡ Some ask → ask.level ≡ 0
    → IsForAnother hosts terms trace i back n

-- And the next report of a live host is due within 96 seconds.
pub record Promises : Type 0 where
  pub asks : LackIsAsked
  pub keeps : GivesUpForAnother
  pub reports : ReportsAreDue

-- ---- what follows from them

abbrev pub PromisesSuffice : Type 0
PromisesSuffice = Promises → SessionsBecomeWhole
