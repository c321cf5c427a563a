use Rattle.std.proofs.Common.{rules, ◌≡◌, ℕ, List, [], Err, refl, ap, subst, sym, ◌∙◌}
use Rattle.wb_names.specs.Values.{DrawopValue}
use Rattle.wb_feed.specs.Batches.{SharesAndCounts}
use Rattle.wb_feed.specs.declared.workers.WorkFault.TheVariants.{Start}
use Rattle.wb_feed.proofs.Rules.{begins}
use Rattle.wb_feed.proofs.Rows.{loses_is}
use Rattle.wb_feed.proofs.Batching.{none_started}
use Rattle.wb_feed.proofs.batch.run_batch.Goals as goal

pub bounded_with-requires-clause-rule : goal.bounded_with-requires-clause-rule
bounded_with-requires-clause-rule g c = begins

pub returns-in-Ok-taken-clause-shared : goal.returns-in-Ok-taken-clause-shared
returns-in-Ok-taken-clause-shared g c =
    subst (λ (given : List DrawopValue). SharesAndCounts c.args.workers c.args.desk.now given c.take_batch-taken.new.desk c.in-Ok-taken.batch) (sym (ap (λ v. v.items) c.into_arrived.ensures))
    c.in-Ok-taken.ensures.settled.shared

pub returns-in-Ok-clause-shared : goal.returns-in-Ok-clause-shared
returns-in-Ok-clause-shared g c =
    subst (λ (n : ℕ). SharesAndCounts n c.args.desk.now c.take_alone-taken.new.arrived.items c.take_alone-taken.new.desk c.in-Ok.batch) (sym c.if-workers-eq1.true) c.in-Ok.ensures.settled.shared

pub returns-then-workers-eq0-clause-gained : goal.returns-then-workers-eq0-clause-gained
returns-then-workers-eq0-clause-gained g c = ([], g.met.S.Arrivals.gives_none _, loses_is _ _ _ refl)

pub returns-in_default-clause-gained : goal.returns-in_default-clause-gained
returns-in_default-clause-gained g c = ([], g.met.S.Arrivals.gives_none _, loses_is _ _ _ refl)

pub returns-in-Err-Start-clause-started : goal.returns-in-Err-Start-clause-started
returns-in-Err-Start-clause-started g c = λ _.
    let start : c.take_batch-taken.result ≡ Err Start = search rules in
    let same = c.take_batch-taken.ensures.fed.untouched start in
    (same.0, none_started _ _ _ _ c.take_batch-taken.result c.rows_left-sound.ensures.sound c.rows_left-sound-2.ensures.sound start (same.1 ∙ c.new-feeding.ensures.open.0) c.take_batch-taken.ensures.kept)
