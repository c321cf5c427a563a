-- Self-managing members, and judged ones, in real time.
use Rattle.std.specs.Prelude.{◌≡◌, ℕ, List, [], ◌∷◌}
use Rattle.wb_codec.specs.declared.datagram.Datagram.{Datagram}
use Rattle.wb_progress.specs.Turns.{Terms}
use Rattle.wb_keeping.specs.Laws.{Added, Came, KeptLine, Ticked, Tuned}
use Rattle.wb_keeping.specs.Performing.{due}
use Rattle.wb_judging.specs.Handing.{handed}
use Rattle.wb_judging.specs.Judged.{Judged}
use Rattle.wb_judging.specs.declared.call.Call.{Call}
use Rattle.wb_judging.specs.declared.call.Call.TheVariants.{CameFrom, Held, Passed, UserDrew}
use Rattle.wb_judged_sessions.specs.Calls.{JudgedCall, Starts, Takes, Tunes}
use Rattle.wb_judged_sessions.specs.Judged.{judged}
use Rattle.wb_laws_kept.specs.Kept.{kept}
use Rattle.wb_laws_machines.specs.Machines.{At, member_at}
use Rattle.wb_laws_machines.specs.Times.{Clocked, KeepsTime}
use Rattle.wb_laws_kept.specs.Calls.{Begins, Call as KeptCall, Handed}

abbrev pub heard_in : KeptLine → List Datagram
heard_in (Came now v) = v ∷ []
heard_in (Ticked now) = []
heard_in (Added now page time op) = []
heard_in (Tuned constants) = []

abbrev pub kept_hears : KeptCall → List Datagram
kept_hears (Begins o given) = given
kept_hears (Handed line) = heard_in line

abbrev pub IsKeptLine : KeptCall → Type 0
IsKeptLine (Begins o given) = ⊥
IsKeptLine (Handed line) = Unit {0}

abbrev pub kept_clock : Clocked kept
kept_clock = record { hears = λ call k. kept_hears call; due = due; IsSteady = λ call k. IsKeptLine call }

-- what the judge lets in
abbrev pub judged_hears : JudgedCall → Judged → List Datagram
judged_hears (Starts start given) h = []
judged_hears (Takes line) h = heard_in (handed line h)
judged_hears (Tunes constants) h = []

-- no start, and no line of a record
abbrev pub IsSteadyLine : Call → Type 0
IsSteadyLine (CameFrom now o v) = Unit {0}
IsSteadyLine (Passed now news) = Unit {0}
IsSteadyLine (UserDrew now page op) = Unit {0}
IsSteadyLine (Held line) = ⊥

abbrev pub IsSteady : JudgedCall → Type 0
IsSteady (Starts start given) = ⊥
IsSteady (Takes line) = IsSteadyLine line
IsSteady (Tunes constants) = Unit {0}

abbrev pub judged_clock : Clocked judged
judged_clock = record { hears = judged_hears; due = λ h. due h.kept; IsSteady = λ call h. IsSteady call }

-- ---- law

-- A session of judged members that keeps time is one of self-managing members, and that keeps time.
abbrev pub JudgedKeepTime : Type 0
JudgedKeepTime = (numbers : ℕ → ℕ) (terms : Terms) (trace : List (At JudgedCall)) → KeepsTime judged judged_clock numbers terms trace
    → (low : List (At KeptCall)) × KeepsTime kept kept_clock numbers terms low
    × ((i : ℕ) → member_at kept numbers low i ≡ member_at judged numbers trace i)
