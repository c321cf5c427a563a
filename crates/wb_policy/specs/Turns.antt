-- Whose turn it is by the clock: the holes one after the other, round after round, and of each a window of its numbers.
use Rattle.std.specs.Prelude.{ℕ, Bool, ◌||◌, ◌+◌, ◌-◌, ◌*◌, ◌/◌, ◌%◌, min, nat_le, if◌then◌else◌}
use Rattle.wb_names.specs.Values.{NameValue}
use Rattle.wb_names.specs.History.{name_of}
use Rattle.wb_names.specs.declared.gap.Gap.{Gap}
use Rattle.wb_names.specs.declared.name.PageId.{PageId}
use Rattle.wb_gaps.specs.declared.holes.Hole.{Hole}
use Rattle.wb_policy.specs.declared.limits.TheConstants.{ROUND_LIMIT, WINDOW}
use Rattle.wb_policy.specs.declared.turns.Turns.{Turns}

abbrev pub nowhere : PageId
nowhere = record { creator = 0; number = 0 }

-- A hole has a window of 64 numbers in each round, and the next one in the next round, so that a forged number takes 64 turns of a round at most.
abbrev pub windows_in : Gap → ℕ
windows_in gap = (gap.last - gap.first) / WINDOW + 1

abbrev pub window_in : ℕ → Gap → ℕ
window_in round gap = gap.first + WINDOW * (round % windows_in gap)

-- which of its numbers has its turn: those of the window one after the other
abbrev pub number_in : Turns → Gap → ℕ
number_in t gap = min (window_in t.round gap + t.step) gap.last

abbrev pub name_in : Turns → Hole → NameValue
name_in t hole = name_of hole.page hole.gap.source (number_in t hole.gap)

-- it was the last turn of a hole in this round
abbrev pub is_through : Turns → Gap → Bool
is_through t gap = nat_le WINDOW (t.step + 1) || nat_le gap.last (window_in t.round gap + t.step)

-- The next hole begins after the last number of one that is through; else the same hole has another turn.
abbrev pub after_hole : Turns → Hole → Turns
after_hole t hole =
    if is_through t hole.gap then record { page = hole.page; source = hole.gap.source; number = hole.gap.last; round = t.round; step = 0 } else record t { step = t.step + 1 }

-- after the last hole another round begins before all
abbrev pub next_round : Turns → Turns
next_round t = record { page = nowhere; source = 0; number = 0; round = (t.round + 1) % ROUND_LIMIT; step = 0 }
