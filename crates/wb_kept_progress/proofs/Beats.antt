-- Reports and turns, which come one after the other by the clock: when the next is due, what it moves, and how.
use Rattle.std.proofs.Common.{◌≡◌, ℕ, ◌≤◌, List, inl, inr, ⊎_elim}
use Rattle.std.specs.Prelude.{◌⊎◌}
use Rattle.wb_names.specs.Values.{DrawopValue}
use Rattle.wb_policy.specs.Fairness.{after_reporting, after_reports, after_turn, after_turns}
use Rattle.wb_policy.specs.declared.reports.Told.{Told}
use Rattle.wb_policy.specs.Policy.{Policy}
use Rattle.wb_policy.specs.declared.turns.Turns.{Turns}
use Rattle.wb_keeping.specs.Kept.{Transition}
use Rattle.wb_keeping.specs.Performing.{Keeping, after_doing, due}
use Rattle.wb_kept_progress.proofs.CallParts.{due_by_report, due_by_turn}
use Rattle.wb_kept_progress.proofs.InTurn.{IsIdle, IsReporting, IsSilent, IsTimedCall, IsTurning, idle_or_turning, silent_or_reporting}
use Rattle.wb_kept_progress.proofs.Leaving.{told_of}

pub data Kind : Type 0 where
  ByReport : Kind
  ByTurn : Kind

-- what a policy remembers of them
abbrev pub State : Kind → Type 0
State ByReport = Told
State ByTurn = Turns

abbrev pub state_of : (b : Kind) → Policy → State b
state_of ByReport p = told_of p
state_of ByTurn p = p.turns

-- when the next is due
abbrev pub due_of : Kind → Policy → ℕ
due_of ByReport p = p.reports.due
due_of ByTurn p = p.pace.due

-- what is remembered after one, and after some
abbrev pub state_after : (b : Kind) → List DrawopValue → State b → State b
state_after ByReport held t = after_reporting held t
state_after ByTurn held t = after_turn held t

abbrev pub states_after : (b : Kind) → List DrawopValue → ℕ → State b → State b
states_after ByReport held count t = after_reports held count t
states_after ByTurn held count t = after_turns held count t

-- by a call at a moment one comes
abbrev pub Comes : Kind → Transition → Keeping → ℕ → Type 0
Comes ByReport does k now = IsReporting does k now
Comes ByTurn does k now = IsTurning does k now

-- what is remembered and when the next is due are the same
pub record IsAsBefore (b : Kind) (p q : Policy) : Type 0 where
  pub due : due_of b q ≡ due_of b p
  pub state : state_of b q ≡ state_of b p

pub moved : (b : Kind) (does : Transition) (k : Keeping) (now : ℕ) → Comes b does k now → state_of b (after_doing does k).policy ≡ state_after b k.host.is.held (state_of b k.policy)
moved ByReport does k now r = r.told
moved ByTurn does k now t = t.turns

pub comes_or_not : (b : Kind) (does : Transition) (k : Keeping) (now : ℕ) → IsTimedCall does k now → IsAsBefore b k.policy (after_doing does k).policy ⊎ Comes b does k now
comes_or_not ByReport does k now c = ⊎_elim
    (λ (s : IsSilent does k now). inl (record { due = s.due; state = s.told }))
    (λ (r : IsReporting does k now). inr r)
    (silent_or_reporting does k now c)
comes_or_not ByTurn does k now c = ⊎_elim
    (λ (s : IsIdle does k now). inl (record { due = s.due; state = s.turns }))
    (λ (t : IsTurning does k now). inr t)
    (idle_or_turning does k now c)

pub due_by : (b : Kind) (k : Keeping) → due k ≤ due_of b k.policy
due_by ByReport k = due_by_report k
due_by ByTurn k = due_by_turn k
