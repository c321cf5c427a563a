use Rattle.wb_judging.proofs.Again.{the_record_is_the_board}
use Rattle.wb_judging.proofs.Recorded.{records_come_first}
use Rattle.wb_judging.proofs.laws.the_record_is_the_board.Goals as goal

pub returns : goal.returns
returns c = record { board = the_record_is_the_board; first = records_come_first }
