use Rattle.std.proofs.Common.{◌≡◌, ◌∙◌, ap, subst}
use Rattle.std.proofs.lemmas.Result.{on_ok_weaker}
use Rattle.std.specs.Prelude.{List}
use Rattle.wb_names.specs.History.{name_of}
use Rattle.wb_names.specs.Values.{NameValue}
use Rattle.wb_names.proofs.Orders.{name_parts}
use Rattle.wb_gaps.specs.Holdings.{HeldRange, HoldsToo}
use Rattle.wb_gaps.specs.Starts.{ranges_of}
use Rattle.wb_gaps.proofs.HeldRanges.{one_more}
use Rattle.wb_gaps.proofs.holdings.Holdings.put.Goals as goal

pub returns-clause-ok : goal.returns-clause-ok
returns-clause-ok c =
    let after = ranges_of c.add.new.ranges.entries in
    let name : name_of c.page.result c.source.result c.seq.result ≡ c.args.drawop.now.name = name_parts _ _ _ _ _ _ (c.source.ensures ∙ ap (λ (n : NameValue). n.source) c.name-name.ensures) (c.page.ensures ∙ ap (λ (n : NameValue). n.page) c.name-name.ensures) (c.seq.ensures.seq ∙ ap (λ (n : NameValue). n.seq) c.name-name.ensures) in
    on_ok_weaker c.add.result
    (λ too. one_more c.args.self.now after c.args.drawop.now (subst (λ (rs : List HeldRange). HoldsToo rs c.args.drawop.now.name after) c.self.view_is (subst (λ (n : NameValue). HoldsToo (ranges_of c.self.inside.ranges.entries) n after) name too)))
    c.add.ensures.ok
