-- What a drawop leads to that is new to a self-managing host, whatever came in before, forged datagrams too: its missing neighbours are asked for as
-- far as credit goes; and if it was asked for, some missing number is asked for afterwards, so that its coming does not end requests while numbers
-- are missing.
use Rattle.std.specs.Prelude.{◌≡◌, ◌⊎◌, ℕ, ◌+◌, ◌-◌, ◌*◌, ◌<◌, ◌≤◌, true, false, List, [], ◌∷◌, ◌++◌}
use Rattle.wb_names.specs.Values.{DrawopValue, NameValue}
use Rattle.wb_codec.specs.declared.datagram.Datagram.TheVariants.{Draw}
use Rattle.wb_gaps.specs.Gaps.{IsMissing}
use Rattle.wb_member.specs.Judged.{holds, is_full}
use Rattle.wb_member.specs.Opened.{asks_for, present}
use Rattle.wb_policy.specs.declared.limits.TheConstants.{COST, PLACES_OF_LAST, REACH}
use Rattle.wb_keeping.specs.Kept.{Line}
use Rattle.wb_keeping.specs.Laws.{Came, KeptLine, doing_of}
use Rattle.wb_keeping.specs.Performing.{Keeping, after_lines, sees}
use Rattle.wb_kept_progress.specs.Repairs.{host_at}
use Rattle.wb_kept_progress.specs.Sessions.{AreTaken, At, Opening, at, kept_at}

-- the line with which a drawop comes to the host at a place, after others
abbrev pub with_drawop : ℕ → ℕ → DrawopValue → List (At KeptLine) → List (At KeptLine)
with_drawop i now d older = at i (Came now (Draw d)) ∷ older

-- It is new: no line was refused, the host lacked it, and its board has a free cell afterwards.
pub record IsNew (hosts : ℕ → Opening) (older : List (At KeptLine)) (i now : ℕ) (d : DrawopValue) : Type 0 where
  pub taken : AreTaken hosts (with_drawop i now d older)
  pub lacked : holds (host_at hosts older i) d.name ≡ false
  pub room : is_full (host_at hosts (with_drawop i now d older) i) ≡ false

-- the name is missing at a host: the host lacks it, and it is below the greatest number that the host holds of that source on that page
abbrev pub IsMissingAt : Keeping → NameValue → Type 0
IsMissingAt k n = IsMissing k.host.is.held n.page [] n.source n.seq

-- ---- its neighbours

-- of the same source on the same page, and at most 64 numbers away
pub record IsNeighbour (one other : NameValue) : Type 0 where
  pub page : other.page ≡ one.page
  pub source : other.source ≡ one.source
  pub above : one.seq ≤ other.seq + REACH
  pub under : other.seq ≤ one.seq + REACH

-- at some point of what a line has a host do, its start and its end too, a request timer of the name stands
pub record IsAskedBy (line : KeptLine) (k : Keeping) (n : NameValue) : Type 0 where
  pub before : List Line
  pub later : List Line
  pub lines : (doing_of line (sees k.host) k.policy).lines ≡ before ++ later
  pub stands : asks_for n (after_lines before k.host) ≡ true

-- of the 64 names that may be owed, more than 47 are
abbrev pub IsShort : Keeping → Type 0
IsShort k = (PLACES_OF_LAST - 1) * COST < k.policy.owed - present k.host

-- Each neighbour that is missing is asked for meanwhile, or credit is short.
abbrev pub NeighboursAreAskedFor : Type 0
NeighboursAreAskedFor = (hosts : ℕ → Opening) (older : List (At KeptLine)) (i now : ℕ) (d : DrawopValue) (n : NameValue) → IsNew hosts older i now d
    → let m = kept_at hosts (with_drawop i now d older) i in
    IsNeighbour d.name n → IsMissingAt m n → IsAskedBy (Came now (Draw d)) (kept_at hosts older i) n ⊎ IsShort m

-- ---- requests do not die out

-- some missing number is asked for
pub record AsksForMissing (k : Keeping) : Type 0 where
  pub name : NameValue
  pub missing : IsMissingAt k name
  pub asked : asks_for name k.host ≡ true

-- If it was asked for, and a number is missing then, some missing number is asked for.
abbrev pub AskedLeadsOn : Type 0
AskedLeadsOn = (hosts : ℕ → Opening) (older : List (At KeptLine)) (i now : ℕ) (d : DrawopValue) (n : NameValue) → IsNew hosts older i now d → asks_for d.name (host_at hosts older i) ≡ true
    → let m = kept_at hosts (with_drawop i now d older) i in
    IsMissingAt m n → AsksForMissing m
