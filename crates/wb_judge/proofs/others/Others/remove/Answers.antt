use Rattle.std.proofs.Common.{◌∙◌, ap, not, rules}
use Rattle.std.proofs.lemmas.Fn.{filter_same}
use Rattle.wb_judge.specs.Origins.{same_origin}
use Rattle.wb_judge.specs.Others.{gone_from}
use Rattle.wb_judge.proofs.others.Others.remove.Goals as goal

pub returns : goal.returns
returns c =
    let kept = filter_same _ (λ x. not (same_origin x.origin c.args.origin)) _ (λ x b f' k. (search rules, search rules)) _ _ c.retain.ensures.filtered in
    kept ∙ ap (gone_from c.args.origin) c.self.view_is
