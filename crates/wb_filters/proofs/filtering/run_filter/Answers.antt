use Rattle.std.proofs.Common.{refl}
use Rattle.wb_filters.proofs.KeepingOn.{answers_no_line}
use Rattle.wb_filters.proofs.filtering.run_filter.Goals as goal

pub returns-clause-keeps : goal.returns-clause-keeps
returns-clause-keeps g c =
    let l = c.drive.ensures.lines in
    answers_no_line c.args.filter (g.R.Source.has_failed c.drive.new.source) l.0 l.1 c.drive.result (l.4 c.args.filter refl)
