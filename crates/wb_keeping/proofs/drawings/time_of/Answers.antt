use Rattle.std.proofs.Common.{◌≡◌, ◌+◌, ◌++◌, ◌∷◌, ◌∙◌, List, [], ap, sym, take}
use Rattle.std.proofs.lemmas.List.{take_more}
use Rattle.wb_names.specs.Values.{DrawopValue}
use Rattle.wb_keeping.specs.Drawings.{drawing_time}
use Rattle.wb_keeping.proofs.DrawingTimes.{one_more}
use Rattle.wb_keeping.proofs.drawings.time_of.Goals as goal

pub loop-drawop-preserved : goal.loop-drawop-preserved
loop-drawop-preserved c =
    let list = c.args.list.now in
    let i = c.loop-drawop.drawop-index in
    let d = c.drawop-item.result in
    let next : take (i + 1) list ≡ take i list ++ d ∷ [] = take_more list i d c.loop-drawop-test.true ∙ ap (λ (e : DrawopValue). take i list ++ e ∷ []) (sym c.drawop-item.is) in
    c.later-latest.ensures ∙ one_more c.args.page c.args.time (take i list) d c.loop-drawop.latest c.loop-drawop.invariant ∙ ap (λ (ds : List DrawopValue). drawing_time ds c.args.page c.args.time) (sym next)
