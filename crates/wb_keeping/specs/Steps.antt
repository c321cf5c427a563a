-- The parts of a transition, as a member performs them one by one.
use Rattle.std.specs.Prelude.{◌≡◌, ◌⊎◌, Bool, ℕ, ◌-◌, true, max, All, IsTrue, List, [], ◌∷◌, Option, Some, None, nat_eq, if◌then◌else◌}
use Rattle.wb_names.specs.History.{highest}
use Rattle.wb_names.specs.Values.{NameValue}
use Rattle.wb_gaps.specs.Holes.{hole_after}
use Rattle.wb_gaps.specs.declared.holes.Hole.{Hole}
use Rattle.wb_policy.specs.Choices.{near_names}
use Rattle.wb_recovery.specs.declared.limits.TheConstants.{UNKNOWN_DELAY}
use Rattle.wb_policy.specs.declared.limits.TheConstants.{REACH}
use Rattle.wb_member.specs.declared.calls.Call.TheVariants.{SetDelay}
use Rattle.wb_keeping.specs.Kept.{Line, Transition, leap_to, room_lines, turn_to, want, and_then, performs, Calls}
use Rattle.wb_keeping.specs.Views.{View, holds}
use Rattle.wb_policy.specs.Leaps.{far_name}
use Rattle.wb_policy.specs.Policy.{after_leaping, after_turn}
use Rattle.wb_policy.specs.Turns.{name_in, nowhere}

-- the least number near one: 64 below it, and at least 1
abbrev pub lowest_near : NameValue → ℕ
lowest_near name = max 1 (name.seq - REACH)

-- these are the names near one, which may be left out if all of them are held
abbrev pub AreNear : View → NameValue → List NameValue → Type 0
AreNear v name names =
    let near = near_names name (highest name.page name.source v.held) in
    (names ≡ near) ⊎ ((names ≡ []) × All (λ n. IsTrue (holds v n)) near)

-- these lines, whatever is seen
abbrev pub performs_all : List Line → Transition
performs_all lines see p = record { policy = p; lines = lines }

-- there is room for the timer of a name
abbrev pub makes_room : NameValue → Bool → Transition
makes_room name covered see p = record { policy = p; lines = room_lines name covered (see []) }

-- what is lent to a source whose delay is this one, and the lines that lend it and take it back
abbrev pub lent_at : ℕ → ℕ → Option ℕ
lent_at delay usual = if nat_eq delay UNKNOWN_DELAY then Some usual else None

abbrev pub set_lines : ℕ → Option ℕ → List Line
set_lines source None = []
set_lines source (Some micros) = Calls (SetDelay source micros) ∷ []

abbrev pub back_lines : ℕ → Option ℕ → List Line
back_lines source None = []
back_lines source (Some micros) = Calls (SetDelay source UNKNOWN_DELAY) ∷ []

-- a line between these
abbrev pub lends_for : ℕ → Option ℕ → Line → Transition
lends_for source lent line = and_then (performs_all (set_lines source lent)) (and_then (performs line) (performs_all (back_lines source lent)))

-- another round begins, if no hole is left in this one
abbrev pub turn_again : Transition
turn_again see p = turn_to None (hole_after (see []).held nowhere 0 0) see p

-- a hole has its turn
abbrev pub want_in : Hole → Transition
want_in hole see p = want (name_in p.turns hole) true see (after_turn hole p)

-- the same of leaps
abbrev pub leap_again : Transition
leap_again see p = leap_to None (hole_after (see []).held nowhere 0 0) see p

abbrev pub leap_in : Hole → Transition
leap_in hole see p = want (far_name p.leaps hole) true see (after_leaping hole p)
