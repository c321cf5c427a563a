use Rattle.std.proofs.Common.{List, ap, arith, length, subst, sym}
use Rattle.wb_names.specs.Marks.{IsReport}
use Rattle.wb_gaps.specs.Holdings.{HeldRange, HoldNamesOf}
use Rattle.wb_gaps.specs.Runs.{AreRuns, AreRunsOf}
use Rattle.wb_gaps.proofs.PageRanges.{few_runs, runs_are, runs_hold}
use Rattle.wb_gaps.proofs.Reports.{report_of_runs}
use Rattle.wb_gaps.proofs.holdings.Holdings.report.Goals as goal

pub highs-requires : goal.highs-requires
highs-requires c = subst AreRuns (sym c.runs_of.ensures.runs) (runs_are c.self.inside.ranges c.runs_of.ensures.ordered c.self.invariant.ranges c.args.page)

pub from_ascending-requires : goal.from_ascending-requires
from_ascending-requires c =
    let tops = c.in_ok-marks.ensures in
    let fewer = tops.few in
    let runs = ap length c.runs_of.ensures.runs in
    let on = few_runs c.args.page c.self.inside.ranges.entries in
    let all = ap length c.self.view_is in
    let few = c.requires in
    record { ascending = tops.ascending; positive = tops.positive; few = omega arith }

pub returns : goal.returns
returns c = λ history held.
    let runs = ap length c.runs_of.ensures.runs in
    let on = few_runs c.args.page c.self.inside.ranges.entries in
    let all = ap length c.self.view_is in
    let few = c.requires in
    subst (IsReport history c.args.page) (sym c.from_ascending.ensures)
    (report_of_runs history c.args.page _ c.in_ok-marks.marks.items
    (subst (AreRunsOf history c.args.page) (sym c.runs_of.ensures.runs)
    (runs_hold c.self.inside.ranges c.runs_of.ensures.ordered c.self.invariant.ranges history (subst (λ (rs : List HeldRange). HoldNamesOf history rs) (sym c.self.view_is) held) c.args.page))
    c.in_ok-marks.ensures (omega arith))
