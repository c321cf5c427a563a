use Rattle.wb_member.proofs.KeptBoards.{calls_keep_boards}
use Rattle.wb_member.proofs.laws.calls_keep_boards.Goals as goal

pub returns : goal.returns
returns c = calls_keep_boards
