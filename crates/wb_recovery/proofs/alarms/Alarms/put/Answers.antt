use Rattle.std.proofs.Common.{◌≡◌, ◌⊎◌, true, refl, ap, sym, ◌∙◌, Some, inl, inr}
use Rattle.wb_recovery.specs.Alarms.{earlier}
use Rattle.wb_recovery.proofs.Outcomes.{even_on_err}
use Rattle.wb_recovery.proofs.AlarmMoves.{keep_set, keep_unchanged}
use Rattle.wb_recovery.proofs.alarms.Alarms.put.Goals as goal
use Rattle.wb_recovery.proofs.alarms.Alarms.put.Goals.{then-soonest-due, else-soonest-due}

which : (c : goal.After-self-2-1) → c.if-soonest-due.self ≡ true → (earlier c.args.self.now.soonest c.args.due ≡ c.args.due) ⊎ ((c.args.self.now.is_exact ≡ true) × (c.in_ok-old.old ≡ c.args.self.now.soonest → ⊥))
which c e = elim c.if-soonest-due.branch [
  | then-soonest-due w ↦ inl (sym c.earlier-soonest.ensures ∙ w.if-soonest-due.true)
  | else-soonest-due w ↦ inr (w.is_exact_without-self.ensures.exact (sym w.self-is ∙ e), w.is_exact_without-self.ensures.other (sym w.self-is ∙ e))
]

pub returns-clause-ok : goal.returns-clause-ok
returns-clause-ok c = λ dues. keep_set dues c.args.name c.args.due c.in_ok-old.old c.args.self.now _ c.in_ok-old.ensures.updates.0 (ap Some c.earlier-soonest.ensures) c.in_ok-old.ensures.old (λ e. which c e)

pub returns-in_err-old-clause-err : goal.returns-in_err-old-clause-err
returns-in_err-old-clause-err c = even_on_err c.from_residual.result (λ dues keep. keep_unchanged dues c.args.self.now _ c.in_err-old.ensures.err refl refl keep)
