use Rattle.std.proofs.Common.{◌∙◌, ap, rules}
use Rattle.std.specs.Prelude.{true}
use Rattle.std.proofs.lemmas.Result.{IfOk-weaker}
use Rattle.wb_recovery.specs.Events.{asking}
use Rattle.wb_recovery.specs.Values.{names_in, timers_in}
use Rattle.wb_keeper.specs.Keeping.{KeeperValue}
use Rattle.wb_keeper.proofs.AskedNames.{all_pass, asked_after}
use Rattle.wb_keeper.proofs.keeper.Keeper.asked_names.Goals as goal

pub returns-clause-names : goal.returns-clause-names
returns-clause-names c =
    IfOk-weaker c.asked_where.result _ _ (λ names is. is ∙ all_pass _ ∙ ap (λ (v : KeeperValue). asking (names_in v.recovery) (timers_in v.recovery)) c.self.view_is)
    (c.asked_where.ensures (λ n. true) (λ n b told. search rules))

pub returns-clause-calls : goal.returns-clause-calls
returns-clause-calls c =
    IfOk-weaker c.asked_where.result _ _ (λ names is. λ me constants calls stands. is ∙ all_pass _ ∙ ap (λ (v : KeeperValue). asking (names_in v.recovery) (timers_in v.recovery)) c.self.view_is ∙ asked_after me constants calls c.args.self.now stands)
    (c.asked_where.ensures (λ n. true) (λ n b told. search rules))
