use Rattle.std.proofs.Common.{◌∙◌, ap, map}
use Rattle.std.specs.BTreeMap.Range.{entries_between}
use Rattle.std.specs.declared.ops.Bound.TheVariants.{Included}
use Rattle.wb_gaps.specs.Starts.{run_of, start, start_cmp}
use Rattle.wb_gaps.specs.declared.holdings.Start.{Start}
use Rattle.wb_gaps.proofs.PageRanges.{between_starts}
use Rattle.wb_gaps.proofs.asked.runs_of.Goals as goal

pub returns-clause-runs : goal.returns-clause-runs
returns-clause-runs c =
    let entries = c.args.ranges.now.entries in
    let page = c.args.page in
    let ends = ap (λ (s : Start). entries_between start_cmp (Included s) (Included c.new.result.end) entries) c.new.ensures.start ∙ ap (λ (s : Start). entries_between start_cmp (Included (start page 0 0)) (Included s) entries) c.new.ensures.end in
    ap (map run_of) (c.range.ensures.between c.new.ensures.exhausted ∙ ends ∙ between_starts c.args.ranges.now c.range.ensures.ordered c.requires page)
