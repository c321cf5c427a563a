use Rattle.std.proofs.Common.{◌≡◌, ℕ, length, rules, List, map}
use Rattle.std.proofs.lemmas.Iterator.{YieldsList-from_map}
use Rattle.std.proofs.lemmas.Iterator.Adapters.{fact_from_collect, YieldsList-from_vec}
use Rattle.std.proofs.lemmas.Result.{IfOk-weaker}
use Rattle.wb_codec.specs.declared.datagram.Datagram.{Datagram}
use Rattle.wb_codec.specs.declared.datagram.Datagram.TheVariants.{PageState}
use Rattle.wb_gaps.specs.declared.page_reports.PageReport.{PageReport}
use Rattle.wb_keeper.proofs.keeper.Keeper.page_states.Goals as goal

abbrev state_of : ℕ → PageReport → Datagram
state_of me r = PageState me r.page r.marks

pub returns-clause-sent : goal.returns-clause-sent
returns-clause-sent c =
    let all : List Datagram = map (state_of c.args.self.now.me) c.in_ok-reports.reports.items in
    IfOk-weaker c.collect.result (λ v. (v.items ≡ all) × (v.len ≡ length all)) _ (λ v q. (c.in_ok-reports.reports.items, c.in_ok-reports.ensures c.args.desk.now.seen c.in_ok-holdings.ensures.holds, q.0))
    (fact_from_collect (λ xs v. (v.items ≡ xs) × (v.len ≡ length xs)) c.collect.result c.collect.ensures.ran
    (YieldsList-from_map _ (state_of c.args.self.now.me) (YieldsList-from_vec c.in_ok-reports.reports.items (search rules) (search rules)) c.map-sent.ensures.closure (λ x r q k. search rules)))
