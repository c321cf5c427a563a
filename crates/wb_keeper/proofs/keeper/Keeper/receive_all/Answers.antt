use Rattle.std.proofs.Common.{List, take, ◌+◌, arith, ap, sym, ◌∙◌, subst}
use Rattle.std.specs.Prelude.{filter}
use Rattle.std.proofs.lemmas.List.{take_all}
use Rattle.wb_names.specs.Values.{NameValue}
use Rattle.wb_recovery.specs.Accepted as timers
use Rattle.wb_recovery.specs.Stopping.{receipts}
use Rattle.wb_keeper.specs.Keeper.{received_of, holds}
use Rattle.wb_keeper.specs.Keeping.{KeeperValue, delay_at}
use Rattle.wb_keeper.proofs.KeptCalls.{received_step, received_same}
use Rattle.wb_keeper.proofs.keeper.Keeper.receive_all.Goals as goal
use Rattle.wb_keeper.proofs.keeper.Keeper.receive_all.Goals.{then-is_held, else-is_held}

pub loop-name-preserved : goal.loop-name-preserved
loop-name-preserved c =
    let a = c.args in
    let inv = c.loop-name.invariant in
    let p = holds a.desk.now.seen in
    elim c.if-is_held.branch [
      | then-is_held w ↦
          let rest = w.self-is ∙ w.receive.ensures.rest ∙ ap (λ (v : KeeperValue). record v { recovery = w.receive.new.self.recovery }) inv.rest in
          record {
            rest = rest ∙ ap (λ (v : KeeperValue). record a.self.now { recovery = v.recovery }) (sym w.self-is);
            came = λ constants events s. subst (λ (v : KeeperValue). timers.StandsFor constants (receipts a.self.now.moment events (received_of (delay_at a.self.now.delays) (filter p (take (c.loop-name.name-index + 1) a.names.now)))) v.recovery) (sym w.self-is)
                (received_step a.self.now c.loop-name.self w.receive.new.self p a.names.now c.loop-name.name-index c.name-item.result (omega arith) c.name-item.is (sym c.is_held.ensures ∙ w.if-is_held.true) inv.rest w.receive.ensures.rest w.receive.ensures.came inv.came constants events s);
          }
      | else-is_held w ↦ record {
        rest = w.self-is ∙ inv.rest ∙ ap (λ (v : KeeperValue). record a.self.now { recovery = v.recovery }) (sym w.self-is);
        came = λ constants events s. subst (λ (v : KeeperValue). timers.StandsFor constants (receipts a.self.now.moment events (received_of (delay_at a.self.now.delays) (filter p (take (c.loop-name.name-index + 1) a.names.now)))) v.recovery) (sym w.self-is)
            (subst (λ (names : List NameValue). timers.StandsFor constants (receipts a.self.now.moment events (received_of (delay_at a.self.now.delays) names)) c.loop-name.self.recovery)
            (sym (received_same p a.names.now c.loop-name.name-index c.name-item.result (omega arith) c.name-item.is (sym c.is_held.ensures ∙ w.if-is_held.false))) (inv.came constants events s));
      }
    ]

pub returns-clause-came : goal.returns-clause-came
returns-clause-came c = λ constants events s.
    subst (λ (names : List NameValue). timers.StandsFor constants (receipts c.args.self.now.moment events (received_of (delay_at c.args.self.now.delays) (filter (holds c.args.desk.now.seen) names))) c.loop-name.self.recovery)
    (take_all c.loop-name.name-index c.args.names.now (omega arith)) (c.loop-name.invariant.came constants events s)
