use Rattle.std.proofs.Common.{◌∙◌, ap, filter, rules}
use Rattle.std.proofs.lemmas.Fn.{filter_same}
use Rattle.wb_judge.specs.Aliens.{beside}
use Rattle.wb_judge.proofs.aliens.Aliens.forget.Goals as goal

pub returns : goal.returns
returns c =
    let kept = filter_same _ (beside c.args.alien) _ (λ x b f' k. (search rules, search rules)) _ _ c.retain.ensures.filtered in
    kept ∙ ap (filter (beside c.args.alien)) c.self.view_is
