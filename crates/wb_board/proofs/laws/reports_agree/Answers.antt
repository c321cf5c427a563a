use Rattle.wb_board.proofs.Agreement.{reports_agree}
use Rattle.wb_board.proofs.laws.reports_agree.Goals as goal

pub returns : goal.returns
returns c = reports_agree
