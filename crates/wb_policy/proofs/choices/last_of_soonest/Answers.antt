use Rattle.std.proofs.Common.{◌≡◌, ◌<◌, ◌≤◌, List, arith, not, rules, subst}
use Rattle.std.proofs.lemmas.Fn.{always_returns_same}
use Rattle.std.specs.List.{count_by}
use Rattle.wb_names.specs.declared.echo.Echo.{Echo}
use Rattle.wb_policy.specs.Choices.{is_sooner}
use Rattle.wb_policy.proofs.Lasts.{few_later, others_are_many, turns_are_an_order}
use Rattle.wb_policy.proofs.choices.last_of_soonest.Goals as goal

pub returns : goal.returns
returns c =
    let firsts = c.args.firsts.now in
    let from = c.args.from in
    let most = c.args.most in
    let some = c.requires.some in
    let moved = c.select_nth_unstable_by-last.ensures.permutation in
    let split = c.select_nth_unstable_by-last.ensures.partitioned (is_sooner firsts from) (turns_are_an_order firsts from) (always_returns_same _ _ _ (λ a r q k. search rules)) in
    let place = c.select_nth_unstable_by-last.ensures.front_len in
    let few = few_later firsts from _ _ _ _ moved split in
    let many = others_are_many firsts from _ _ _ _ moved split in
    let same : c.deref_mut.result.now ≡ c.args.all.now = search rules in
    let last = c.select_nth_unstable_by-last.result.1.now in
    subst (λ (all : List Echo). (count_by (λ e. is_sooner firsts from e last) all < most) × (most ≤ count_by (λ e. not (is_sooner firsts from last e)) all)) same (omega (arith, few, place, some), omega (arith, many, place, some))
