use Rattle.std.proofs.Common.{◌∙◌, List, None, ap, map, subst, sym}
use Rattle.std.specs.List.{last_or}
use Rattle.wb_names.specs.Values.{MarkValue}
use Rattle.wb_gaps.specs.Holdings.{HeldRange, HoldNamesOf}
use Rattle.wb_gaps.proofs.NextMarks.{are_told, are_tops, at_end, tops}
use Rattle.wb_gaps.proofs.holdings.Holdings.last_source.Goals as goal

pub returns : goal.returns
returns c = λ history held.
    let ranges = c.self.inside.ranges in
    let ordered = c.source_at_end.ensures.ordered in
    let all = tops ranges ordered c.self.invariant.ranges c.args.page in
    let top = are_tops ranges ordered c.self.invariant.ranges c.args.page in
    let here = subst (λ (rs : List HeldRange). HoldNamesOf history rs) (sym c.self.view_is) held in
    at_end ranges ordered c.self.invariant.ranges c.args.page all top c.source_at_end.result c.source_at_end.ensures.last
    ∙ ap (λ (ms : List MarkValue). last_or None (map (λ (m : MarkValue). m.source) ms)) (are_told ranges ordered c.self.invariant.ranges c.args.page all top history here)
