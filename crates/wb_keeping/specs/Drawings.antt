-- The time of a drawing: it comes after all that its page shows, unless that is two days ahead.
use Rattle.std.specs.Prelude.{ℕ, ◌+◌, ◌-◌, ◌^◌, Bool, ◌&&◌, List, [], ◌∷◌, map, filter, max, min, nat_lt, if◌then◌else◌}
use Rattle.wb_names.specs.Orders.{same_page}
use Rattle.wb_names.specs.Values.{DrawopValue}
use Rattle.wb_names.specs.declared.name.PageId.{PageId}
use Rattle.wb_keeping.specs.declared.limits.TheConstants.{AHEAD}

-- on the page, with a time less than two days after this one
abbrev pub is_near : PageId → ℕ → DrawopValue → Bool
is_near page time d = same_page d.name.page page && nat_lt d.time (time + AHEAD)

-- one more than the greatest of some times, or 0 if there is none
abbrev pub after_all : List ℕ → ℕ
after_all [] = 0
after_all (time ∷ times) = max (time + 1) (after_all times)

-- the time that is asked for, or later than all near it, as far as 64 bits go
abbrev pub drawing_time : List DrawopValue → PageId → ℕ → ℕ
drawing_time history page time = min (max time (after_all (map (λ d. d.time) (filter (is_near page time) history)))) (2 ^ 64 - 1)

-- a time, and one drawop more
abbrev pub later : PageId → ℕ → ℕ → DrawopValue → ℕ
later page time latest d = if is_near page time d then max latest (min (d.time + 1) (2 ^ 64 - 1)) else latest
