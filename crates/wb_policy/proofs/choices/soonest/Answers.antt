use Rattle.std.proofs.Common.{◌≡◌, IfOk, List, rules, subst}
use Rattle.wb_names.specs.declared.echo.Echo.{Echo}
use Rattle.wb_policy.proofs.Lasts.{few_are_soonest, soonest_are_not_after}
use Rattle.wb_policy.proofs.choices.soonest.Goals as goal

pub returns-then-all-most : goal.returns-then-all-most
returns-then-all-most c = search (rules, few_are_soonest c.args.firsts.now c.args.from c.args.most c.args.all.now c.if-all-most.true)

pub returns : goal.returns
returns c =
    let same = soonest_are_not_after c.args.firsts.now c.args.from c.args.most c.args.all.now c.in_ok-last.last c.in_ok-last.ensures.0 c.in_ok-last.ensures.1 in
    subst (λ (es : List Echo). IfOk c.not_after.result (λ some. some.items ≡ es)) same c.not_after.ensures
