-- Sessions of self-managing members, as people run them. The program of a member starts, and
-- is handed what its record has (`came`); then it is called. It starts as often as one likes: after
-- it ended, or with another build, or as a new member that is handed what an older one held. A line
-- that is refused changes nothing (wb_keeping, clause `refused`), so it is left out.
use Rattle.std.specs.Prelude.{◌≡◌, ℕ, List, [], ◌∷◌, ◌++◌, Contains, map}
use Rattle.wb_names.specs.Values.{DrawopValue}
use Rattle.wb_codec.specs.declared.datagram.Datagram.{Datagram}
use Rattle.wb_codec.specs.declared.datagram.Datagram.TheVariants.{Draw}
use Rattle.wb_keeping.specs.Laws.{Came}
use Rattle.wb_keeping.specs.Performing.{Keeping}
use Rattle.wb_laws_machines.specs.Machines as of
pub use Rattle.wb_laws_machines.specs.Machines.{At}
use Rattle.wb_laws_sessions.specs.Drawn.{WasHeld}
use Rattle.wb_laws_sessions.specs.Members.{Does}
use Rattle.wb_laws_sessions.specs.Sessions.{Step, host_at, steps_then}
use Rattle.wb_laws_kept.specs.Calls.{Begins, Call, Handed, lines_of_call, opens_of_call}
use Rattle.wb_laws_kept.specs.Kept.{kept}
use Rattle.wb_laws_kept.specs.Openings.{Opening}

-- the member at a place after some calls, of which the newest is the first
abbrev pub kept_at : (ℕ → ℕ) → List (At Call) → ℕ → Keeping
kept_at = of.state_at kept

-- all that members did by some calls
abbrev pub steps_of : (ℕ → ℕ) → List (At Call) → List Step
steps_of numbers [] = []
steps_of numbers (e ∷ older) =
    let lines = lines_of_call e.event (kept_at numbers older e.place) in
    steps_then e.time e.place (opens_of_call e.event ++ map Does lines) (steps_of numbers older)

-- ---- what is asked of them

-- each call is taken
abbrev pub AreTaken : (ℕ → ℕ) → List (At Call) → Type 0
AreTaken = of.AreTaken kept

-- Each drawop that a call brings, from others or from the record, some member held before: members
-- send, hand on and record only what they hold (tests/live/test_keeping.py: check_old;
-- tests/live/test_joins.py: check_join). Under a key nobody else can speak; without one it is asked of
-- people.
pub record WereHeld (numbers : ℕ → ℕ) (older : List (At Call)) (e : At Call) : Type 0 where
  pub handed : (now : ℕ) (d : DrawopValue) → e.event ≡ Handed (Came now (Draw d))
      → WasHeld numbers (steps_of numbers older) d
  pub given : (o : Opening) (given : List Datagram) (d : DrawopValue) → e.event ≡ Begins o given
      → Contains given (Draw d) → WasHeld numbers (steps_of numbers older) d

abbrev pub DrawopsWereHeld : (ℕ → ℕ) → List (At Call) → Type 0
DrawopsWereHeld numbers [] = Unit {0}
DrawopsWereHeld numbers (e ∷ older) = WereHeld numbers older e × DrawopsWereHeld numbers older

-- ---- law

-- The member at a place is that of the session of steps.
abbrev pub KeptIsSession : Type 0
KeptIsSession = (numbers : ℕ → ℕ) (calls : List (At Call)) (i : ℕ)
    → host_at numbers (steps_of numbers calls) i ≡ (kept_at numbers calls i).host
