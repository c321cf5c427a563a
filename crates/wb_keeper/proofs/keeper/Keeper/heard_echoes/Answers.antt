use Rattle.std.proofs.Common.{◌≡◌, ◌∙◌, length, rules, ap}
use Rattle.std.proofs.lemmas.Iterator.{YieldsList-from_map}
use Rattle.std.proofs.lemmas.Iterator.Adapters.{fact_from_collect}
use Rattle.std.proofs.lemmas.Iterator.Consumers.{YieldsList-at, YieldsList-from_rest}
use Rattle.std.proofs.lemmas.Result.{IfOk-weaker}
use Rattle.wb_keeper.specs.Keeping.{KeeperValue}
use Rattle.wb_keeper.specs.Sessions.{echoes_at}
use Rattle.wb_keeper.proofs.SentEchoes.{echo_at}
use Rattle.wb_keeper.proofs.keeper.Keeper.heard_echoes.Goals as goal

pub returns-clause-echoes : goal.returns-clause-echoes
returns-clause-echoes c =
    let all = echoes_at c.args.now c.self.inside.heard.entries in
    IfOk-weaker c.collect.result (λ v. (v.items ≡ all) × (v.len ≡ length all)) _ (λ v q. q.0 ∙ ap (λ (k : KeeperValue). echoes_at c.args.now k.heard) c.self.view_is)
    (fact_from_collect (λ xs v. (v.items ≡ xs) × (v.len ≡ length xs)) c.collect.result c.collect.ensures.ran
    (YieldsList-from_map _ (echo_at c.args.now) (YieldsList-at c.map-heard.ensures.source (YieldsList-from_rest c.self.inside.heard.entries c.iter.ensures.rest)) c.map-heard.ensures.closure (λ x r q k. search rules)))
