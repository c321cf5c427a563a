-- The news that a judge hears as time goes on: what it may carry, what becomes of the judge, and which events it gives.
use Rattle.std.specs.Prelude.{◌≡◌, ◌<◌, ℕ, Bool, true, false, List, [], ◌∷◌}
use Rattle.wb_judge.specs.Judge.{Judge, after_leaving}
use Rattle.wb_judge.specs.Origins.{same_origin}
use Rattle.wb_judge.specs.declared.limits.TheConstants.{TIME_LIMIT}
use Rattle.wb_judge.specs.declared.origin.Origin.{Origin}
use Rattle.wb_judging.specs.declared.event.Event.{Event}
use Rattle.wb_judging.specs.declared.event.Event.TheVariants.{NoDatagram}
pub use Rattle.wb_judging.specs.declared.news.News.{News}
pub use Rattle.wb_judging.specs.declared.news.News.TheVariants.{Day, Garbled, Gone, Nothing}

-- a time of day is below its limit
abbrev pub IsTellable : News → Type 0
IsTellable (Day wall) = wall < TIME_LIMIT
IsTellable news = Unit {0}

-- what becomes of the judge that hears it at a moment
abbrev pub after_news : ℕ → News → Judge → Judge
after_news now (Day wall) j = record j { clock = record { wall = wall; at = now } }
after_news now (Gone o) j = after_leaving o j
after_news now news j = j

-- the events that it gives
abbrev pub news_events : News → List Event
news_events Garbled = NoDatagram ∷ []
news_events news = []

-- ---- what laws say of it

-- it tells the time of day
abbrev pub is_day : News → Bool
is_day (Day wall) = true
is_day news = false

-- Nobody at this origin is gone by it.
abbrev pub LeavesOrigin : Origin → News → Type 0
LeavesOrigin o (Gone p) = same_origin p o ≡ false
LeavesOrigin o news = Unit {0}
