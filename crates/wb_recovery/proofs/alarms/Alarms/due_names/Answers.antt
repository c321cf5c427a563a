use Rattle.std.proofs.Common.{◌≡◌, List, ℕ, length, rules}
use Rattle.std.specs.BTreeSet.{contains}
use Rattle.std.specs.List.{filter_map}
use Rattle.std.proofs.lemmas.Iterator.Adapters.{fact_from_collect}
use Rattle.std.proofs.lemmas.Iterator.Consumers.{YieldsList-at, YieldsList-from_rest, YieldsList-from_filter_map}
use Rattle.std.proofs.lemmas.Result.{IfOk-weaker}
use Rattle.wb_names.specs.Values.{NameValue}
use Rattle.wb_names.specs.Orders.{name_cmp}
use Rattle.wb_recovery.specs.Alarms.{due_name}
use Rattle.wb_recovery.proofs.alarms.Alarms.due_names.Goals as goal

pub returns-clause-names : goal.returns-clause-names
returns-clause-names c =
    let entries = c.args.self.now.dues.entries in
    let pick = λ (e : NameValue × ℕ). due_name (contains name_cmp c.args.stopped.now) c.args.now e.0 e.1 in
    let all : List NameValue = filter_map pick entries in
    IfOk-weaker c.collect.result (λ v. (v.items ≡ all) × (v.len ≡ length all)) _ (λ v q. q.0)
    (fact_from_collect (λ xs v. (v.items ≡ xs) × (v.len ≡ length xs)) c.collect.result c.collect.ensures.ran
    (YieldsList-from_filter_map _ pick (YieldsList-at c.filter_map-names.ensures.source (YieldsList-from_rest entries c.iter-dues.ensures.rest)) c.filter_map-names.ensures.closure (λ x r q k. search rules)))
