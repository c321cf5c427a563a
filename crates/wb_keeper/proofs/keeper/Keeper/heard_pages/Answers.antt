use Rattle.std.proofs.Common.{◌≡◌, ◌≢◌, List, [], length, rules, subst, sym}
use Rattle.std.specs.Prelude.{Contains, ◌↔◌}
use Rattle.std.specs.List.{filter_map}
use Rattle.std.proofs.lemmas.Iterator.Adapters.{fact_from_collect}
use Rattle.std.proofs.lemmas.Iterator.Consumers.{YieldsList-at, YieldsList-from_rest, YieldsList-from_filter_map}
use Rattle.std.proofs.lemmas.Result.{IfOk-weaker}
use Rattle.wb_names.specs.declared.name.PageId.{PageId}
use Rattle.wb_keeper.specs.Keeping.{KeeperValue, marks_at}
use Rattle.wb_keeper.proofs.KnownThings.{page_at, marked}
use Rattle.wb_keeper.proofs.keeper.Keeper.heard_pages.Goals as goal

pub returns-clause-pages : goal.returns-clause-pages
returns-clause-pages c =
    let entries = c.self.inside.marks.entries in
    let all : List PageId = filter_map page_at entries in
    IfOk-weaker c.collect.result (λ v. (v.items ≡ all) × (v.len ≡ length all)) _
    (λ v q. λ page. subst (λ (ps : List PageId). Contains ps page ↔ (marks_at c.args.self.now.marks page ≢ [])) (sym q.0)
    (subst (λ (k : KeeperValue). Contains all page ↔ (marks_at k.marks page ≢ [])) c.self.view_is (marked entries c.iter.ensures.ordered page)))
    (fact_from_collect (λ xs v. (v.items ≡ xs) × (v.len ≡ length xs)) c.collect.result c.collect.ensures.ran
    (YieldsList-from_filter_map _ page_at (YieldsList-at c.filter_map-heard.ensures.source (YieldsList-from_rest entries c.iter.ensures.rest)) c.filter_map-heard.ensures.closure (λ x r q k. search rules)))
