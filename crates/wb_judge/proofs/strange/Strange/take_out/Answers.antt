use Rattle.std.proofs.Common.{◌∙◌, ap, not, rules}
use Rattle.std.proofs.lemmas.Fn.{filter_same}
use Rattle.wb_judge.specs.Strange.{is_given_by, without_origin}
use Rattle.wb_judge.proofs.Sharing.{shares_of}
use Rattle.wb_judge.proofs.strange.Strange.take_out.Goals as goal

pub returns : goal.returns
unfolding without_origin
returns c =
    let kept = filter_same _ (λ g. not (is_given_by c.args.origin g)) _ (λ x b f' k. (search rules, search rules)) _ _ c.retain.ensures.filtered in
    ap (shares_of c.self.inside.most c.self.inside.most_of_origin) kept ∙ ap (without_origin c.args.origin) c.self.view_is
