use Rattle.std.proofs.Common.{◌∙◌, sym, ap, cond, refl, Some, None}
use Rattle.std.specs.Ordering.{nat_cmp}
use Rattle.std.specs.BTreeMap.{is_at}
use Rattle.std.specs.Map.{lookup}
use Rattle.wb_keeper.specs.Keeping.{KeeperValue}
use Rattle.wb_recovery.proofs.Outcomes.{on_no_err}
use Rattle.wb_keeper.proofs.KeptCalls.{keeps_delay}
use Rattle.wb_keeper.proofs.keeper.Keeper.set_delay.Goals as goal

pub returns-clause-ok : goal.returns-clause-ok
returns-clause-ok c =
    let updates = on_no_err c.insert.result (sym c.is_err.ensures.value ∙ c.if-is_err.false) c.insert.ensures.updates in
    keeps_delay c.args.source c.args.micros (Some c.args.micros) c.args.self.now _ c.insert.new.self.entries refl (ap (λ (v : KeeperValue). record v { delays = c.insert.new.self.entries }) c.self.view_is)
    (λ q. updates.0 q ∙ ap (λ (v : KeeperValue). cond (is_at (nat_cmp c.args.source) q) (Some c.args.micros) (lookup (is_at (nat_cmp q)) v.delays)) c.self.view_is)

pub returns-then-micros-eq-UNKNOWN_DELAY-clause-ok : goal.returns-then-micros-eq-UNKNOWN_DELAY-clause-ok
returns-then-micros-eq-UNKNOWN_DELAY-clause-ok c =
    keeps_delay c.args.source c.args.micros None c.args.self.now _ c.remove.new.self.entries (sym c.if-micros-eq-UNKNOWN_DELAY.true) (ap (λ (v : KeeperValue). record v { delays = c.remove.new.self.entries }) c.self.view_is)
    (λ q. c.remove.ensures.updates.0 q ∙ ap (λ (v : KeeperValue). cond (is_at (nat_cmp c.args.source) q) None (lookup (is_at (nat_cmp q)) v.delays)) c.self.view_is)
