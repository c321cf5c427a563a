-- The numbers of the faults.
use Rattle.std.specs.Prelude.{ℕ}
use Rattle.wb_board.specs.declared.reply.BoardFault.{BoardFault}
use Rattle.wb_board.specs.declared.reply.BoardFault.TheVariants.{NoRow, Memory}

abbrev pub board_code : BoardFault → ℕ
board_code NoRow = 1
board_code Memory = 2
