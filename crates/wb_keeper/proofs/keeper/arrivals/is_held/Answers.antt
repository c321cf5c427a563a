use Rattle.std.proofs.Common.{◌∙◌}
use Rattle.wb_keeper.specs.Keeper.{holds}
use Rattle.wb_keeper.proofs.KeptCalls.{found_by, holds_from, holds_not}
use Rattle.wb_keeper.proofs.keeper.arrivals.is_held.Goals as goal

pub returns : goal.returns
returns c =
    let history = c.args.desk.now.seen in
    let name = c.args.name.now in
    c.is_some.ensures ∙ found_by c.find.result _ _ (holds history name) c.find.ensures (holds_not history name) (λ d h. holds_from history name d.now h.0 h.1)
