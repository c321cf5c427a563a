use Rattle.std.proofs.Common.{◌∙◌, nat_eq, rules, tests}
use Rattle.std.proofs.lemmas.Iterator.{YieldsList-from_slice}
use Rattle.std.proofs.lemmas.Iterator.Search.{find_from_yields_List}
use Rattle.wb_judging.proofs.weighing.mark_in.Goals as goal

pub returns : goal.returns
returns c = c.copied.ensures ∙ find_from_yields_List (λ x. nat_eq x.source c.args.source) _ _ _ c.find.ensures.ran (YieldsList-from_slice c.args.marks.now (cc)) (λ x b q k. search (rules, tests))
