use Rattle.std.proofs.Common.{◌∙◌, ap, nat_lt, subst, sym}
use Rattle.std.specs.Prelude.{count_by}
use Rattle.wb_names.specs.Ascending.{AreEchoes}
use Rattle.wb_names.specs.declared.echo.Echo.{Echo}
use Rattle.wb_policy.specs.Choices.{is_sooner, soonest}
use Rattle.wb_policy.proofs.Parts.{filtered}
use Rattle.wb_policy.proofs.choices.echoed.Goals as goal

pub from_ascending-requires : goal.from_ascending-requires
from_ascending-requires c =
    let all = c.args.all.now in
    let firsts = c.args.firsts.now in
    let from = c.args.from in
    let same = c.in_ok-some.ensures ∙ ap (soonest firsts from 32) c.as_slice.ensures.entries in
    subst AreEchoes (sym same) (filtered (λ (e : Echo). e.source) (λ (e : Echo). Unit {0}) all c.as_slice.ensures.lawful (λ (e : Echo). nat_lt (count_by (λ (f : Echo). is_sooner firsts from f e) all) 32))
