use Rattle.std.proofs.Common.{◌∙◌, ap, nat_eq, not, rules}
use Rattle.std.proofs.lemmas.Fn.{filter_same}
use Rattle.wb_judge.specs.Others.{without}
use Rattle.wb_judge.proofs.others.Others.forget.Goals as goal

pub returns : goal.returns
returns c =
    let kept = filter_same _ (λ x. not (nat_eq x.number c.args.number)) _ (λ x b f' k. (search rules, search rules)) _ _ c.retain.ensures.filtered in
    kept ∙ ap (without c.args.number) c.self.view_is
