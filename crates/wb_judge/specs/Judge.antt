-- What a judge remembers.
use Rattle.std.specs.Prelude.{ℕ, ◌-◌, ◌/◌, Bool, false, not, ◌&&◌, List, [], Option, Some, None, is_some, nat_eq, nat_le, if◌then◌else◌}
use Rattle.wb_names.specs.Values.{NameValue}
use Rattle.wb_judge.specs.Firm.{is_firm_beside, present}
use Rattle.wb_judge.specs.Known.{is_known, left}
use Rattle.wb_judge.specs.Others.{gone_from, other_of, recalled}
use Rattle.wb_judge.specs.Shares.{Shares}
use Rattle.wb_judge.specs.Strange.{no_shares, with_given}
use Rattle.wb_judge.specs.Days.{DayClock}
use Rattle.wb_judge.specs.declared.aliens.Alien.{Alien}
use Rattle.wb_judge.specs.declared.known.KnownOrigin.{KnownOrigin}
use Rattle.wb_judge.specs.declared.limits.TheConstants.{RESERVE}
use Rattle.wb_judge.specs.declared.origin.Origin.{Origin}
use Rattle.wb_judge.specs.declared.others.Other.{Other}
use Rattle.wb_judge.specs.declared.strange.Given.{Given}
use Rattle.wb_judge.specs.declared.told.ToldMark.{ToldMark}

-- Our number, the cells of our board and the owner of our own origin; the time of day; the moments of our reports; the origins that are known, the
-- numbers that were heard, what is held of strangers, and the marks that members told; the last reports under our number that are not ours; up to
-- which moments new numbers, new numbers that answer, questions of strangers and repairs for members are paid for, and for which of these the last
-- one was; before which moment no stream begins; and whether somebody has our number too.
pub record Judge : Type 0 where
  pub me : ℕ
  pub cells : ℕ
  pub here : Option ℕ
  pub clock : DayClock
  pub own : List ℕ
  pub known : List KnownOrigin
  pub others : List Other
  pub strange : Shares
  pub told : List ToldMark
  pub aliens : List Alien
  pub hearing : ℕ
  pub answering : ℕ
  pub asked : ℕ
  pub repairs : ℕ
  pub served : Option Origin
  pub fetch_at : ℕ
  pub has_twin : Bool

abbrev pub opened : ℕ → ℕ → ℕ → ℕ → Option ℕ → Option ℕ → Judge
opened me cells now wall here strangers = record {
  me = me;
  cells = cells;
  here = here;
  clock = record { wall = wall; at = now };
  own = [];
  known = [];
  others = [];
  strange = no_shares cells strangers;
  told = [];
  aliens = [];
  hearing = 0;
  answering = 0;
  asked = 0;
  repairs = 0;
  served = None;
  fetch_at = 0;
  has_twin = false;
}

-- ---- questions

abbrev pub knows : Origin → ℕ → Judge → Bool
knows o now j = is_known o now j.known

-- beside the members that are here, a name is firm
abbrev pub is_firm : NameValue → ℕ → Judge → Bool
is_firm name now j = is_firm_beside (present now j.others) j.me name now

-- what came from there may hush us: a member's, while the name is not firm
abbrev pub hushes : Origin → NameValue → ℕ → Judge → Bool
hushes o name now j = knows o now j && not (is_firm name now j)

-- who owns where a number has answered from: who only claims a number does not own it
abbrev pub owner_in : Option Other → Option ℕ
owner_in None = None
owner_in (Some x) = if is_some x.answered then x.origin.owner else None

abbrev pub owner_of : ℕ → Judge → Option ℕ
owner_of number j = if nat_eq number j.me then j.here else owner_in (other_of number j.others)

abbrev pub is_another : Option ℕ → Option ℕ → Bool
is_another (Some owner) (Some other) = not (nat_eq owner other)
is_another (Some owner) None = false
is_another None other = false

-- A number is theirs who answered under it first, and ours is ours, if the network keeps origins.
abbrev pub is_forged : ℕ → Origin → Judge → Bool
is_forged number o j = is_another o.owner (owner_of number j)

-- no cell is left for drawings, only for deletes and restores of members
abbrev pub is_full : ℕ → Judge → Bool
is_full held j = nat_le (j.cells - j.cells / RESERVE) held

-- ---- what its host tells it

-- the board has taken in a drawop that is new
abbrev pub after_taking : Given → Origin → ℕ → Judge → Judge
after_taking g o now j = if knows o now j then j else record j { strange = with_given g j.strange }

-- whoever spoke from there is gone
abbrev pub after_leaving : Origin → Judge → Judge
after_leaving o j = record j { known = left o j.known; others = gone_from o j.others }

-- the record says who answered under a number; ours is ours
abbrev pub after_recall : ℕ → Origin → Judge → Judge
after_recall number o j = record j { others = if nat_eq number j.me then j.others else recalled number o j.others }
