use Rattle.wb_filters.proofs.KeepingOn.{no_line_is_refused}
use Rattle.wb_filters.proofs.laws.kept_filters_refuse_no_line.Goals as goal

pub returns : goal.returns
returns c = no_line_is_refused
