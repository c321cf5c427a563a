use Rattle.std.proofs.Common.{◌≡◌, ◌+◌, ◌++◌, ◌∷◌, ◌∙◌, Some, [], ap, sym, take}
use Rattle.std.specs.List.{fold}
use Rattle.std.proofs.lemmas.List.{take_all, take_more}
use Rattle.std.proofs.lemmas.List.Sums.{fold-append}
use Rattle.wb_policy.specs.Wanting.{older, oldest}
use Rattle.wb_policy.specs.declared.wanting.AskedName.{AskedName}
use Rattle.wb_policy.proofs.wanting.oldest.Goals as goal

pub loop-other-preserved : goal.loop-other-preserved
loop-other-preserved c =
    let later = c.in-Some.later.now in
    let first = c.in-Some.first.now in
    let i = c.loop-other.other-index in
    let a = c.other-item.result in
    let next : take (i + 1) later ≡ take i later ++ a ∷ [] = take_more later i a c.loop-other-test.true ∙ ap (λ (b : AskedName). take i later ++ b ∷ []) (sym c.other-item.is) in
    c.older-oldest.ensures ∙ ap (λ (b : AskedName). older b a) c.loop-other.invariant ∙ sym (fold-append older first (take i later) (a ∷ [])) ∙ ap (fold older first) (sym next)

pub returns : goal.returns
returns c =
    let later = c.in-Some.later.now in
    let first = c.in-Some.first.now in
    ap Some (c.loop-other.invariant ∙ ap (fold older first) (take_all _ _ c.loop-other-test.false)) ∙ sym (ap oldest c.in-Some.ensures.cases.0)
