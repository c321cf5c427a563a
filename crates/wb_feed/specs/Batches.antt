-- What a batch leaves: p is the desk before it, given the drawops that came, q the desk after it, and b the counts.
use Rattle.std.specs.Prelude.{◌≡◌, ℕ, ◌+◌, ◌<◌, ◌≤◌, Bool, List, ◌++◌, length, All, Result, Ok, Err}
use Rattle.std.specs.List.Sorted.{IsPermutation}
use Rattle.wb_names.specs.Values.{DrawopValue}
use Rattle.wb_names.specs.History.{HoldsName}
use Rattle.wb_names.specs.Arrivals.{Counts, counts, IsBatch}
use Rattle.wb_board.specs.Desks.{PassValue, IsWhole}
use Rattle.wb_feed.specs.declared.batch.Batch.{Batch}
use Rattle.wb_feed.specs.declared.fault.FeedFault.{FeedFault}
use Rattle.wb_feed.specs.declared.fault.FeedFault.TheVariants.{Workers, Start, Memory}
use Rattle.wb_feed.specs.declared.channel.Message.{Message}
use Rattle.wb_feed.specs.Accepts.{Entry, Runs, drawops, tally}
use Rattle.wb_feed.specs.Marks.{Marks, unmarked}
use Rattle.wb_feed.specs.Served.{once_below, Spot, accepted_at, entries, offered, OffersRight, times_offered}
use Rattle.wb_feed.specs.Workers.{Work}

abbrev pub counts_in : Batch → Counts
counts_in b = counts b.fresh b.again b.clash b.left

-- how many rows are lost, by the answer
abbrev pub lost_by : {X : Type 0} → Result X FeedFault → ℕ
lost_by (Ok x) = 0
lost_by (Err Workers) = 0
lost_by (Err Start) = 0
lost_by (Err (Memory lost)) = lost

-- one thread that takes the drawops in this order comes from the list of p to that of q, and to these counts
abbrev pub IsInOrder : PassValue → List DrawopValue → PassValue → Batch → Type 0
IsInOrder p order q b = IsBatch p.cells p.seen order q.seen (counts_in b)

-- the same for some order of the drawops
pub record IsInSomeOrder (p : PassValue) (given : List DrawopValue) (q : PassValue) (b : Batch) : Type 0 where
  pub order : List DrawopValue
  pub moved : IsPermutation given order
  pub taken : IsInOrder p order q b

-- the list has the names of all drawops but at most `left`
pub record HoldsNamesBut (left : ℕ) (history given : List DrawopValue) : Type 0 where
  pub held : List DrawopValue
  pub others : List DrawopValue
  pub moved : IsPermutation given (held ++ others)
  pub names : All (λ d. HoldsName history d.name) held
  pub few : length others ≡ left

pub record Takes (p : PassValue) (given : List DrawopValue) (workers : ℕ) (q : PassValue) (b : Batch) : Type 0 where
  pub counted : b.fresh + b.again + b.clash + b.left ≡ length given
  pub rows : q.free + b.fresh ≡ p.free
  pub named : HoldsNamesBut b.left q.seen given
  pub full : 0 < b.left → q.free ≡ 0
  -- of a desk that owned all rows
  pub whole : IsWhole p → IsWhole q
  pub settled : IsWhole p → IsInSomeOrder p given q b
  pub in_order : workers ≡ 1 → IsWhole p → IsInOrder p given q b

-- How the workers that were started shared what was given: they received the first ones, each once and by its position; their desks came
-- back into the desk `joined`, which took, in order, what none of them had accepted. One worker is the caller: the desk took all
pub record IsShared (workers : ℕ) (p : PassValue) (given : List DrawopValue) (q : PassValue) : Type 0 where
  pub log : List Spot
  pub right : OffersRight given (offered log)
  pub received : ℕ
  pub few : received ≤ length given
  pub once : (i : ℕ) → times_offered i (offered log) ≡ once_below i received
  pub gots : List Message
  pub joined : PassValue
  pub work : Work workers p log gots joined
  pub marks : List Bool
  pub marked : Marks (accepted_at log) (length given) marks
  pub left_over : List Entry
  pub rest : Runs joined left_over q
  pub all : drawops left_over ≡ unmarked marks given

-- What the workers accepted and what was taken after them, by its outcomes. What they left was taken then.
abbrev pub counted : {workers : ℕ} {p q : PassValue} {given : List DrawopValue} → IsShared workers p given q → Counts
counted s = let all = tally (entries s.log ++ s.left_over) in counts all.fresh all.again all.clash (tally s.left_over).left

-- it was shared so, and the counts are those of what was accepted
abbrev pub SharesAndCounts : ℕ → PassValue → List DrawopValue → PassValue → Batch → Type 0
SharesAndCounts workers p given q b = (s : IsShared workers p given q) × (counts_in b ≡ counted s)

-- what a batch did, and how it was shared
pub record IsSettled (workers : ℕ) (p : PassValue) (given : List DrawopValue) (q : PassValue) (b : Batch) : Type 0 where
  pub taken : Takes p given workers q b
  pub shared : SharesAndCounts workers p given q b
