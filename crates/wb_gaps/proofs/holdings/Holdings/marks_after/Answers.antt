use Rattle.std.proofs.Common.{◌∙◌, List, ap, filter, subst, sym, take}
use Rattle.wb_names.specs.Ascending.{AreMarks, is_above}
use Rattle.wb_names.specs.Values.{MarkValue}
use Rattle.wb_gaps.specs.Holdings.{HeldRange, HoldNamesOf}
use Rattle.wb_gaps.proofs.NextMarks.{are_told, are_tops, part_of_marks, tops}
use Rattle.wb_gaps.proofs.holdings.Holdings.marks_after.Goals as goal

pub from_ascending-requires : goal.from_ascending-requires
from_ascending-requires c =
    let ranges = c.self.inside.ranges in
    let ordered = c.in_ok-marks.ensures.ordered in
    let all = tops ranges ordered c.self.invariant.ranges c.args.page in
    let top = are_tops ranges ordered c.self.invariant.ranges c.args.page in
    let above = λ (m : MarkValue). is_above c.args.last m.source in
    subst AreMarks (sym (c.in_ok-marks.ensures.marks all top)) (part_of_marks above c.args.most all top.ascending top.positive c.requires)

pub returns : goal.returns
returns c = λ history held.
    let ranges = c.self.inside.ranges in
    let ordered = c.in_ok-marks.ensures.ordered in
    let all = tops ranges ordered c.self.invariant.ranges c.args.page in
    let top = are_tops ranges ordered c.self.invariant.ranges c.args.page in
    let here = subst (λ (rs : List HeldRange). HoldNamesOf history rs) (sym c.self.view_is) held in
    c.from_ascending.ensures
    ∙ c.in_ok-marks.ensures.marks all top
    ∙ ap (λ (ms : List MarkValue). take c.args.most (filter (λ (m : MarkValue). is_above c.args.last m.source) ms)) (are_told ranges ordered c.self.invariant.ranges c.args.page all top history here)
