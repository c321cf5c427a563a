-- Which name is asked for beside others when one came that was asked for: one of each hole, far from those before.
use Rattle.std.specs.Prelude.{ℕ, ◌+◌, ◌-◌, ◌*◌, ◌%◌}
use Rattle.wb_names.specs.Values.{NameValue}
use Rattle.wb_names.specs.History.{name_of}
use Rattle.wb_names.specs.declared.gap.Gap.{Gap}
use Rattle.wb_gaps.specs.declared.holes.Hole.{Hole}
use Rattle.wb_policy.specs.Turns.{nowhere}
use Rattle.wb_policy.specs.declared.leaps.Leaps.{Leaps}
use Rattle.wb_policy.specs.declared.limits.TheConstants.{ROUND_LIMIT, STRIDE}

-- 19 numbers on in each round, so that a part of a hole that others hold is met soon
abbrev pub far_in : ℕ → Gap → ℕ
far_in round gap = gap.first + STRIDE * round % (gap.last + 1 - gap.first)

abbrev pub far_name : Leaps → Hole → NameValue
far_name l hole = name_of hole.page hole.gap.source (far_in l.round hole.gap)

-- it goes on after the last number of a hole, and before all in another round
abbrev pub after_leap : Leaps → Hole → Leaps
after_leap l hole = record { page = hole.page; source = hole.gap.source; number = hole.gap.last; round = l.round }

abbrev pub next_leaps : Leaps → Leaps
next_leaps l = record { page = nowhere; source = 0; number = 0; round = (l.round + 1) % ROUND_LIMIT }
