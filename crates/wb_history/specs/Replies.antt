-- What the answer to a claim says: d is the drawop, p the pass before the call, and q the pass after it.
use Rattle.std.specs.Prelude.{◌≡◌, ℕ, ◌+◌, ◌-◌, ◌*◌, ◌≤◌, [], ◌∷◌, ◌++◌, length, take, slice_get, Some}
use Rattle.wb_names.specs.Values.{DrawopValue}
use Rattle.wb_names.specs.History.{HoldsName, IsNewAt, IsAgainAt, IsClashAt}
use Rattle.wb_names.specs.Arrivals.{Outcome, New, Again, Clash, Left}
use Rattle.wb_history.specs.Sizes.{row_words, drawop_steps}
use Rattle.wb_history.specs.Passes.{PassValue, IsWhole, AddsNothing, IsCaughtUp, brought}
use Rattle.wb_history.specs.declared.claim.Claim.{Claim}
use Rattle.wb_history.specs.declared.claim.Claim.TheVariants.{Added, Present}
use Rattle.wb_history.specs.declared.claim.Claim.TheVariants as claims
use Rattle.wb_history.specs.declared.claim.ClaimFault.{ClaimFault}
use Rattle.wb_history.specs.declared.claim.ClaimFault.TheVariants.{NoRow, Memory}

-- d was new to the history before place i, and is its drawop i. The pass gained that place for one of its rows
pub record IsAdded (p : PassValue) (d : DrawopValue) (i : ℕ) (q : PassValue) : Type 0 where
  pub new : IsNewAt (take i q.seen) d i
  pub drawop : slice_get q.seen i ≡ Some d
  pub last : length q.seen ≡ i + 1
  pub later : length p.seen ≤ i
  pub gains : q.mine ≡ p.mine ++ i ∷ []
  pub row : q.free + 1 ≡ p.free
  pub alone : IsWhole p → q.seen ≡ p.seen ++ d ∷ []

-- no row was left for d, whose name stands nowhere up to the end of the history
pub record HasNoRow (p : PassValue) (d : DrawopValue) (q : PassValue) : Type 0 where
  pub none_left : q.free ≡ 0
  pub absent : ¬ HoldsName q.seen d.name
  pub end : IsCaughtUp p q
  pub kept : AddsNothing p q

-- what taking d makes of the pass, by what became of d
abbrev pub Becomes : PassValue → DrawopValue → Outcome → PassValue → Type 0
Becomes p d (New i) q = IsAdded p d i q
Becomes p d (Again i) q = IsAgainAt q.seen d i × AddsNothing p q
Becomes p d (Clash i) q = IsClashAt q.seen d i × AddsNothing p q
Becomes p d Left q = HasNoRow p d q

-- A drawop of others is read by one load of its cell, or a lost exchange, and a load of each word of its row. A drawop is added by a
-- load that finds the end, a store of each word, and an exchange.
abbrev pub most_steps : ℕ → ℕ
most_steps others = drawop_steps * others + row_words + 2

-- how many steps on words it took, by what became of d
abbrev pub OutcomeSteps : PassValue → PassValue → Outcome → Type 0
OutcomeSteps p q (New i) = q.steps ≤ most_steps (i - length p.seen)
OutcomeSteps p q (Again i) = q.steps ≤ most_steps (brought p q)
OutcomeSteps p q (Clash i) = q.steps ≤ most_steps (brought p q)
OutcomeSteps p q Left = q.steps ≤ drawop_steps * brought p q + 1

-- ---- a claim

abbrev pub claimed : Claim → Outcome
claimed (Added i) = New i
claimed (Present i) = Again i
claimed (claims.Clash i) = Clash i

abbrev pub Claimed : PassValue → DrawopValue → PassValue → Claim → Type 0
Claimed p d q claim = Becomes p d (claimed claim) q

abbrev pub NotClaimed : PassValue → DrawopValue → PassValue → ClaimFault → Type 0
NotClaimed p d q NoRow = Becomes p d Left q
NotClaimed p d q Memory = AddsNothing p q

abbrev pub ClaimSteps : PassValue → PassValue → Claim → Type 0
ClaimSteps p q claim = OutcomeSteps p q (claimed claim)

abbrev pub FaultSteps : PassValue → PassValue → ClaimFault → Type 0
FaultSteps p q NoRow = OutcomeSteps p q Left
FaultSteps p q Memory = q.steps ≤ most_steps (brought p q)
