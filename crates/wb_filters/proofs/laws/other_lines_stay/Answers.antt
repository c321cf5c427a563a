use Rattle.wb_filters.proofs.OtherLines.{other_lines_stay}
use Rattle.wb_filters.proofs.laws.other_lines_stay.Goals as goal

pub returns : goal.returns
returns c = other_lines_stay
