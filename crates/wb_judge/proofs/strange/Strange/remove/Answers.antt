use Rattle.std.proofs.Common.{◌∙◌, ap, not, rules}
use Rattle.std.proofs.lemmas.Fn.{filter_same}
use Rattle.wb_names.specs.Orders.{same_name}
use Rattle.wb_judge.specs.Strange.{without_name}
use Rattle.wb_judge.proofs.Sharing.{shares_of}
use Rattle.wb_judge.proofs.strange.Strange.remove.Goals as goal

pub returns : goal.returns
unfolding without_name
returns c =
    let kept = filter_same _ (λ g. not (same_name g.name c.args.name.now)) _ (λ x b f' k. (search rules, search rules)) _ _ c.retain.ensures.filtered in
    ap (shares_of c.self.inside.most c.self.inside.most_of_origin) kept ∙ ap (without_name c.args.name.now) c.self.view_is
