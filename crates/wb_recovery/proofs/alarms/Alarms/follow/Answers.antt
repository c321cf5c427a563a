use Rattle.std.proofs.Common.{ℕ, Option, Some, false, refl, ap, sym, subst, true≢false}
use Rattle.std.specs.BTreeMap.{get}
use Rattle.wb_names.specs.Orders.{name_cmp}
use Rattle.wb_recovery.specs.Alarms.{Keep, with_due}
use Rattle.wb_recovery.specs.declared.alarms.Alarms.{Alarms}
use Rattle.wb_recovery.proofs.Outcomes.{on_present}
use Rattle.wb_recovery.proofs.AlarmMoves.{keep_set}
use Rattle.wb_recovery.proofs.alarms.Alarms.follow.Goals as goal

pub returns-in-Some : goal.returns-in-Some
returns-in-Some c = λ dues keep.
    let old = c.args.self.now in
    let new : Alarms = record { dues = c.insert.new.self; soonest = Some c.earlier.result; is_exact = false } in
    let before = get name_cmp old.dues c.args.name in
    let updates = on_present c.insert.result before c.insert.ensures.absent c.requires c.insert.ensures.updates in
    subst (λ (o : Option ℕ). Keep (with_due dues c.args.name o) new) (sym c.in-Some.is)
    (keep_set dues c.args.name c.in-Some.due before old new updates.0 (ap Some c.earlier.ensures) refl (λ e. absurd (true≢false (sym e))) keep)
