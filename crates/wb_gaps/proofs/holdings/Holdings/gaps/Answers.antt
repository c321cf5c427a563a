use Rattle.std.proofs.Common.{◌≡◌, List, length, refl, subst, sym}
use Rattle.std.proofs.lemmas.Iterator.Adapters.{fact_from_collect}
use Rattle.std.proofs.lemmas.Iterator.Consumers.{YieldsList-from_rest}
use Rattle.std.proofs.lemmas.Result.{IfOk-weaker}
use Rattle.wb_names.specs.declared.gap.Gap.{Gap}
use Rattle.wb_gaps.specs.Gaps.{AreGaps}
use Rattle.wb_gaps.proofs.holdings.Holdings.gaps.Goals as goal

pub returns : goal.returns
returns c = λ history held.
    let all = c.missing.result in
    IfOk-weaker c.collect.result (λ v. (v.items ≡ all) × (v.len ≡ length all)) _
    (λ v q. subst (λ (gaps : List Gap). AreGaps history c.args.page c.args.marks.now gaps) (sym q.0) (c.missing.ensures history held))
    (fact_from_collect (λ xs v. (v.items ≡ xs) × (v.len ≡ length xs)) c.collect.result c.collect.ensures.ran (YieldsList-from_rest all refl))
