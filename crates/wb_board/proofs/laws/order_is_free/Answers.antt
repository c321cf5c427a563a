use Rattle.wb_board.proofs.Agreement.{answers_converge, canvases_converge}
use Rattle.wb_board.proofs.laws.order_is_free.Goals as goal

pub returns : goal.returns
returns c = record { answers = answers_converge; canvases = canvases_converge }
