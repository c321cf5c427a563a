use Rattle.wb_codec.proofs.RowLaws.{one_row}
use Rattle.wb_codec.proofs.laws.records_tell_drawops_apart.Goals as goal

pub returns : goal.returns
returns c = one_row
