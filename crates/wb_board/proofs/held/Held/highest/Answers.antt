use Rattle.std.proofs.Common.{ℕ, ◌∙◌, ap, take}
use Rattle.std.specs.Prelude.{max}
use Rattle.wb_board.proofs.LastNumbers.{highest_split}
use Rattle.wb_board.proofs.held.Held.highest.Goals as goal

pub returns : goal.returns
returns c =
    let list = c.args.list.now in
    let taken = c.args.self.now.taken in
    c.max.ensures
    ∙ ap (λ (n : ℕ). max n c.highest.result) (c.highest-taken.ensures (take taken list) c.requires.names)
    ∙ ap (max _) c.highest.ensures
    ∙ highest_split c.args.page c.args.source list taken
