use Rattle.std.proofs.Common.{◌∙◌, ap, refl}
use Rattle.std.specs.List.{list_any}
use Rattle.wb_names.specs.Same.{same_target}
use Rattle.wb_judging.proofs.Patching.{same_test}
use Rattle.wb_judging.proofs.since.Touched.new.Goals as goal

pub returns : goal.returns
returns c = same_test c.args.page c.args.news.now (record { page = c.args.page; names = c.in_ok-names.names }) refl (λ t. c.in_ok-names.ensures t ∙ ap (list_any (same_target t)) (c.as_slice.ensures.value ∙ c.in_ok-targets.ensures))
