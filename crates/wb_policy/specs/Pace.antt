-- How often a name has its turn: once a second while turns bring something, and less and less often while they do not.
use Rattle.std.specs.Prelude.{ℕ, ◌+◌, ◌/◌, max, min}
use Rattle.wb_policy.specs.declared.limits.TheConstants.{LONGEST_GAP, SHORTEST_GAP, STEADINESS}
use Rattle.wb_policy.specs.declared.pace.Pace.{Pace}

abbrev pub begun_pace : ℕ → Pace
begun_pace now = record { due = now + SHORTEST_GAP; gap = SHORTEST_GAP }

-- a time from one turn to the next, kept within 1 and 16 seconds
abbrev pub gap_within : ℕ → ℕ
gap_within gap = min (max gap SHORTEST_GAP) LONGEST_GAP

-- after a turn the next one is due after the gap, and the gap after that is longer by a 128th part
abbrev pub next_pace : ℕ → Pace → Pace
next_pace now p =
    let gap : ℕ = gap_within p.gap in
    record { due = now + gap; gap = gap + gap / STEADINESS }

-- what was asked for came: after the next turn, turns are a second apart again
abbrev pub hurried : Pace → Pace
hurried p = record p { gap = SHORTEST_GAP }
