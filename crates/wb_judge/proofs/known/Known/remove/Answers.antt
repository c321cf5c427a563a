use Rattle.std.proofs.Common.{◌∙◌, ap, not, rules}
use Rattle.std.proofs.lemmas.Fn.{filter_same}
use Rattle.wb_judge.specs.Known.{left}
use Rattle.wb_judge.specs.Origins.{same_origin}
use Rattle.wb_judge.proofs.known.Known.remove.Goals as goal

pub returns : goal.returns
returns c =
    let kept = filter_same _ (λ k. not (same_origin k.origin c.args.origin)) _ (λ x b f' k. (search rules, search rules)) _ _ c.retain.ensures.filtered in
    kept ∙ ap (left c.args.origin) c.self.view_is
