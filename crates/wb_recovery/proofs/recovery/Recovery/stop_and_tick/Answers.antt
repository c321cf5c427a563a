use Rattle.std.proofs.Common.{ℕ, ◌∷◌, ◌∙◌, ap, subst}
use Rattle.wb_recovery.specs.Events.{Tick}
use Rattle.wb_recovery.specs.Accepted.{StandsFor}
use Rattle.wb_recovery.specs.Stopping.{receipts}
use Rattle.wb_recovery.proofs.recovery.Recovery.stop_and_tick.Goals as goal

pub returns-clause-actions : goal.returns-clause-actions
returns-clause-actions c = λ constants events s. ap (λ v. v.items) c.commit.ensures.actions ∙ c.in_ok-plan.ensures.actions constants events s

pub returns-clause-ok : goal.returns-clause-ok
returns-clause-ok c = λ constants events s. subst (λ (now : ℕ). StandsFor constants (Tick now c.args.words.now ∷ receipts now events c.args.received.now) c.commit.new.self) c.in_ok-plan.ensures.moment
    (c.commit.ensures.ok c.args.words.now c.in_ok-plan.ensures.plan constants events s)
