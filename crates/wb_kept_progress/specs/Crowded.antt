-- By when a session becomes whole while live hosts keep places filled, also if they give up names before their timers were backed off. One is given up so
-- only if 64 names were asked for shortly before. Credit pays for few of such crowds: for two names where one that was asked for comes, and for four a second.
use Rattle.std.specs.Prelude.{ℕ, ◌+◌, ◌*◌, ◌≤◌, List, max}
use Rattle.wb_names.specs.Values.{NameValue}
use Rattle.wb_progress.specs.InTime.{known_from, repairing}
use Rattle.wb_progress.specs.Turns.{Terms}
use Rattle.wb_recovery.specs.declared.limits.TheConstants.{MOST_TIMERS}
use Rattle.wb_policy.specs.declared.limits.TheConstants.{COST, PAYS, PLACES}
use Rattle.wb_kept_progress.specs.Rounds.{OneLacksAtMost, PlacesAreFilled}
use Rattle.wb_kept_progress.specs.Sessions.{Opening}
use Rattle.wb_kept_progress.specs.Timed.{AllKeptHoldBehind, At}
use Rattle.wb_kept_progress.specs.Whole.{IsHeldBySome, IsTimelySession, WaitAtMost, request_span, turn_span}
use Rattle.wb_keeping.specs.Laws.{KeptLine}

-- ---- spans, in microseconds

-- of a round, in which what a host asks for comes, or is given up in a crowd
abbrev pub round_span : Terms → ℕ
round_span terms = 2 * request_span terms + repairing terms

abbrev pub crowded_by : Terms → (since wait rounds : ℕ) → ℕ
crowded_by terms since wait rounds = max (known_from terms + wait + repairing terms) since + turn_span terms + rounds * round_span terms

-- ---- credit, in microseconds

-- the most that a host may spend in some rounds if it lacks at most `most` names
abbrev pub spent_in : Terms → (most rounds : ℕ) → ℕ
spent_in terms most rounds = (PLACES + PAYS * most) * COST + turn_span terms + rounds * round_span terms

-- ---- the law

-- In each round `places` names come to a host that lacks something, or a crowd of 64 is asked for. So if `bringing` rounds bring all, and
-- `crowded` crowds cost what it may spend, each live host holds what one of them held after these rounds.
abbrev pub SessionsBecomeWholeInCrowds : Type 0
SessionsBecomeWholeInCrowds = (hosts : ℕ → Opening) (terms : Terms) (trace : List (At KeptLine)) (since wait most places bringing crowded : ℕ) (n : NameValue)
    → IsTimelySession hosts terms trace → WaitAtMost hosts terms trace wait → OneLacksAtMost hosts terms trace most → PlacesAreFilled hosts terms trace since places
    → most ≤ bringing * places → spent_in terms most (bringing + crowded) ≤ crowded * (MOST_TIMERS * COST)
    → IsHeldBySome hosts terms trace n → AllKeptHoldBehind hosts terms trace (crowded_by terms since wait (bringing + crowded)) n
