-- What becomes of a desk from which a list is borrowed.
use Rattle.std.specs.Prelude.{⊤}
use Rattle.std.specs.Borrow.{Fml, GName, follows_so}
use mathlib.Core.Option.{none}
use Rattle.wb_history.specs.Passes.{PassValue}
use Rattle.wb_board.specs.contracts.desk.Desk.{the_row}

-- when what was borrowed is let go of, the desk is one of which P holds
abbrev pub EndsAs : GName → (PassValue → Type 0) → Fml
EndsAs name P = follows_so the_row the_row name none (λ _ _. ⊤) P
