-- Which part of what is heard or held a policy takes.
use Rattle.std.specs.Prelude.{ℕ, zero, suc, ◌+◌, ◌-◌, Bool, not, ◌&&◌, List, [], ◌∷◌, ◌++◌, Option, Some, None, filter, length, map, nat_eq, nat_le, nat_lt, slice_get, unwrap_or, if◌then◌else◌}
use Rattle.std.specs.List.{count_by, list_any}
use Rattle.std.specs.Option.{option_map}
use Rattle.std.specs.Ordering.{is_lt, nat_cmp, ordering_then}
use Rattle.wb_names.specs.History.{name_of}
use Rattle.wb_names.specs.Values.{DrawopValue, MarkValue, NameValue}
use Rattle.wb_names.specs.declared.echo.Echo.{Echo}
use Rattle.wb_names.specs.declared.name.PageId.{PageId}
use Rattle.wb_recovery.specs.RoundTrip.{delay_from}
use Rattle.wb_names.specs.declared.name.TheConstants.{FIRST_FORGED}
use Rattle.wb_policy.specs.declared.limits.TheConstants.{HEARD, MOST_ECHOES, MOST_FIRSTS, REACH}

-- the marks of this member that are believed: while it listens, below 2^31
abbrev pub own_marks : ℕ → Bool → List MarkValue → List MarkValue
own_marks me listens marks = filter (λ m. nat_eq m.source me && (listens && nat_lt m.high FIRST_FORGED)) marks

abbrev pub own_echo : ℕ → List Echo → List Echo
own_echo me echoes = filter (λ e. nat_eq e.source me) echoes

-- the delay that an echo of this member tells, if it tells one
abbrev pub echoed_delay : ℕ → List Echo → Option ℕ
echoed_delay now [] = None
echoed_delay now (e ∷ echoes) = delay_from e.sent e.held now

-- the names of the marks of a page, but for numbers of this member from 2^31 on
abbrev pub told_names : ℕ → PageId → List MarkValue → List NameValue
told_names me page marks = map (λ m. name_of page m.source m.high) (filter (λ m. not (nat_eq m.source me && nat_le FIRST_FORGED m.high)) marks)

-- ---- whom a report echoes

-- who was heard within 192 seconds
abbrev pub is_here : Echo → Bool
is_here e = nat_lt e.held HEARD

abbrev pub is_among : List Echo → Echo → Bool
is_among firsts e = list_any (λ f. nat_eq f.source e.source) firsts

-- First come some, then those that are here, and then those that are gone; of each kind those above a number, and then round.
abbrev pub rank_of : List Echo → ℕ → Echo → ℕ
rank_of firsts from e =
    let round = if nat_lt from e.source then 0 else 1 in
    if is_among firsts e then round else (if is_here e then 2 + round else 4 + round)

abbrev pub is_sooner : List Echo → ℕ → Echo → Echo → Bool
is_sooner firsts from e f = is_lt (ordering_then (nat_cmp (rank_of firsts from e) (rank_of firsts from f)) (nat_cmp e.source f.source))

-- those whose turn comes soonest, at most `most`, ascending
abbrev pub soonest : List Echo → ℕ → ℕ → List Echo → List Echo
soonest firsts from most es = filter (λ e. nat_lt (count_by (λ f. is_sooner firsts from f e) es) most) es

-- where turns go on: at the last of some that are here and not among the first
abbrev pub next_turn : List Echo → ℕ → List Echo → ℕ
next_turn firsts from [] = from
next_turn firsts from (e ∷ es) = next_turn firsts (if is_here e && not (is_among firsts e) then e.source else from) es

-- Whoever has answered, so that the delay to him is known, and is here, comes first: at most 24 of these, so that turns go on beside them.
abbrev pub have_answered : (ℕ → Bool) → List Echo → List Echo
have_answered known es = filter (λ e. known e.source && is_here e) es

abbrev pub firsts_of : (ℕ → Bool) → ℕ → List Echo → List Echo
firsts_of known from es = soonest [] from MOST_FIRSTS (have_answered known es)

-- the senders that a report echoes
abbrev pub echoed : (ℕ → Bool) → ℕ → List Echo → List Echo
echoed known from es = soonest (firsts_of known from es) from MOST_ECHOES es

-- a number of a source, if it is below the greatest that is held
abbrev pub if_below : ℕ → ℕ → List ℕ
if_below top number = if nat_le 1 number && nat_lt number top then number ∷ [] else []

-- the numbers that are at most so far from n, the nearest first
abbrev pub numbers_near : ℕ → ℕ → ℕ → List ℕ
numbers_near n top zero = []
numbers_near n top (suc far) = numbers_near n top far ++ (if_below top (n + suc far) ++ if_below top (n - suc far))

-- The names near one, up to 64 away: what others hold lies side by side, so the nearest come first.
unfoldable pub near_names : NameValue → ℕ → List NameValue
near_names name top = map (name_of name.page name.source) (numbers_near name.seq top REACH)

-- the last source of some marks, or this one if there are none
abbrev pub last_source : Option ℕ → List MarkValue → Option ℕ
last_source told [] = told
last_source told (m ∷ marks) = last_source (Some m.source) marks

-- the name of the newest of what is held
abbrev pub newest : List DrawopValue → Option NameValue
newest held = option_map (λ d. d.name) (slice_get held (length held - 1))

-- the source at which the telling of a page with these marks ends
abbrev pub until_in : List MarkValue → ℕ
until_in marks = unwrap_or (last_source None marks) 0
