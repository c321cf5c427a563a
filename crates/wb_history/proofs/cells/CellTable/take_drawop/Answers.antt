use Rattle.std.proofs.Common.{ap, sym, ◌∙◌, subst, List, [], ◌∷◌, ◌++◌}
use Rattle.wb_names.specs.Values.{DrawopValue}
use Rattle.wb_names.specs.History.{IsHistory}
use Rattle.wb_history.proofs.Walks.{new_name}
use Rattle.wb_history.proofs.cells.CellTable.take_drawop.Goals as goal

pub put-requires-clause-new : goal.put-requires-clause-new
put-requires-clause-new c =
    let r = c.read_row-drawop.ensures.drawop in
    let seen = c.requires.cursor.1.seen ∙ sym c.reserve.ensures.items in
    new_name c.reserve.new.self.items c.read_row-drawop.result (subst IsHistory (r.0.seen ∙ ap (λ (l : List DrawopValue). l ++ c.read_row-drawop.result ∷ []) seen) r.2.names_once)
