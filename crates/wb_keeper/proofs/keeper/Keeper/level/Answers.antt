use Rattle.std.proofs.Common.{◌∙◌, ap, sym}
use Rattle.wb_recovery.specs.Values.{timers_in}
use Rattle.wb_keeper.specs.GivingUp.{level}
use Rattle.wb_keeper.specs.Keeping.{KeeperValue}
use Rattle.wb_keeper.proofs.keeper.Keeper.level.Goals as goal

pub returns-in-Some : goal.returns-in-Some
returns-in-Some c = ap level (sym c.in-Some.is ∙ c.ask_of.ensures ∙ ap (λ (v : KeeperValue). (timers_in v.recovery c.args.name.now).ask) c.self.view_is)

pub returns-in-None : goal.returns-in-None
returns-in-None c = ap level (sym c.in-None.is ∙ c.ask_of.ensures ∙ ap (λ (v : KeeperValue). (timers_in v.recovery c.args.name.now).ask) c.self.view_is)
