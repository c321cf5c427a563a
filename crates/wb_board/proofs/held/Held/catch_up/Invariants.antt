use Rattle.std.proofs.Common.{◌≡◌}
use Rattle.wb_board.specs.Held.{HoldsFirst}
use Rattle.wb_board.proofs.held.Held.catch_up.Given as goal

abbrev pub invariant-loop-place : goal.invariant-loop-place
invariant-loop-place l = record {
  holds : HoldsFirst l.list l.self;
  place : l.self.taken ≡ l.place;
}
