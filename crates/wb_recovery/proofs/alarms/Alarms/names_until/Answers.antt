use Rattle.std.proofs.Common.{◌≡◌, ◌∙◌, true, sym, subst}
use Rattle.std.specs.Prelude.{not, ◌&&◌}
use Rattle.std.specs.BTreeSet.{contains}
use Rattle.std.proofs.lemmas.Result.{IfOk-weaker}
use Rattle.wb_names.specs.Orders.{name_cmp}
use Rattle.wb_names.specs.Listing.{Lists}
use Rattle.wb_recovery.specs.Alarms.{is_until}
use Rattle.wb_recovery.proofs.AlarmNames.{names_due, no_names_until}
use Rattle.wb_recovery.proofs.alarms.Alarms.names_until.Goals as goal

pub returns : goal.returns
returns c = λ dues keep.
    IfOk-weaker c.due_names.result _ _ (λ v same. names_due dues c.args.self.now keep c.due_names.ensures.ordered (contains name_cmp c.args.stopped.now) c.args.now v.items same) c.due_names.ensures.names

pub returns-then-is_ahead_of : goal.returns-then-is_ahead_of
returns-then-is_ahead_of c = λ dues keep.
    subst (Lists name_cmp (λ n. (not (contains name_cmp c.args.stopped.now n) && is_until c.args.now (dues n)) ≡ true)) (sym c.new.ensures.items) (no_names_until dues c.args.self.now keep c.args.now (contains name_cmp c.args.stopped.now) (sym c.is_ahead_of.ensures ∙ c.if-is_ahead_of.true))
