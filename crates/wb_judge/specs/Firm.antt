-- Firm names: of a name that is firm here, nothing that others send hushes us.
use Rattle.std.specs.Prelude.{ℕ, ◌+◌, ◌-◌, ◌*◌, ◌/◌, ◌%◌, Bool, ◌&&◌, List, is_some, min, nat_eq, nat_le}
use Rattle.std.specs.List.{count_by}
use Rattle.wb_names.specs.Values.{NameValue}
use Rattle.wb_judge.specs.declared.limits.TheConstants.{FIRM_TIME, MOST_SHARING, PATIENCE}
use Rattle.wb_judge.specs.declared.others.Other.{Other}

-- a number that has answered us, and was heard lately
abbrev pub is_present : ℕ → Other → Bool
is_present now x = is_some x.answered && nat_le (now - x.at) PATIENCE

abbrev pub present : ℕ → List Other → ℕ
present now others = count_by (is_present now) others

-- How many turns there are beside others, in one of which a name is firm: one turn beside one other, and beside more as many as leave it firm, in each
-- turn, at a quarter of one of them.
abbrev pub turns : ℕ → ℕ
turns others = 4 * min (others - 1) MOST_SHARING + 1

-- the turn at a moment
abbrev pub turn_at : ℕ → ℕ
turn_at now = now / FIRM_TIME

-- At members of other numbers the same name is firm at other times.
unfoldable pub is_firm_beside : ℕ → ℕ → NameValue → ℕ → Bool
is_firm_beside others me name now = nat_eq ((name.source + name.seq + me + turn_at now) % turns others) 0
