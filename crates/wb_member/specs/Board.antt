-- The board of a member.
use Rattle.std.specs.Prelude.{ℕ, List}
use Rattle.wb_names.specs.Values.{DrawopValue}
use Rattle.wb_board.specs.Desks.{HistoryValue, PassValue, IsPassOf, IsWhole, IsSound}

-- how many drawops a board holds at most, and those that it holds
pub record Held : Type 0 where
  pub cells : ℕ
  pub drawops : List DrawopValue

-- as a desk sees it
abbrev pub held_of : PassValue → Held
held_of desk = record { cells = desk.cells; drawops = desk.seen }

-- the desk owns all rows of the board, so that nobody else adds a drawop
pub record OwnsAll (board : HistoryValue) (desk : PassValue) : Type 0 where
  pub from : IsPassOf board desk
  pub whole : IsWhole desk
  pub sound : IsSound desk
