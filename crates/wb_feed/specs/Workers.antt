-- Workers that each serve the channel.
use Rattle.std.specs.Prelude.{ℕ, zero, suc, ◌*◌, ◌/◌, if◌then◌else◌, nat_eq, List, [], ◌++◌}
use Rattle.wb_board.specs.Desks.{PassValue, IsSamePass, IsSound, IsSplit, IsJoined}
use Rattle.wb_feed.specs.declared.channel.Message.{Message}
use Rattle.wb_feed.specs.Served.{Spot, Serves}

-- the desk took back another one
pub record IsBack (p desk q : PassValue) : Type 0 where
  pub same : IsSamePass p q
  pub sound : IsSound q
  pub joined : IsJoined p desk q

-- From the desk p, n workers with `rows` rows each were started and came back to the desk q. The lists are what they did, and what
-- they received, as it was put together
pub data Workers (rows : ℕ) : ℕ → PassValue → List Spot → List Message → PassValue → Type 0 where
  nobody : {p : PassValue} → Workers rows zero p [] [] p
  worker : {n : ℕ} {p rest back q desk done : PassValue} (log others : List Spot) (got gots : List Message)
      → IsSplit p rows rest desk → Serves desk log got done → Workers rows n rest others gots back → IsBack back done q
      → Workers rows (suc n) p (log ++ others) (gots ++ got) q

-- how many of n workers are started: one is the caller, with the desk itself
abbrev pub started : ℕ → ℕ
started n = if nat_eq n 1 then 0 else n

-- those of n workers that are started, each with an equal part of the desk's free rows
abbrev pub Work : ℕ → PassValue → List Spot → List Message → PassValue → Type 0
Work n p log gots q = Workers (p.free / n) (started n) p log gots q

-- how many of the free rows they get
abbrev pub handed_out : ℕ → ℕ → ℕ
handed_out n free = started n * (free / n)
