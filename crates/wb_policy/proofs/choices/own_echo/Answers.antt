use Rattle.std.proofs.Common.{◌∙◌, ap, nat_eq, subst, sym}
use Rattle.wb_names.specs.Ascending.{AreEchoes}
use Rattle.wb_names.specs.declared.echo.Echo.{Echo}
use Rattle.wb_policy.specs.Choices.{own_echo}
use Rattle.wb_policy.proofs.Parts.{filtered}
use Rattle.wb_policy.proofs.choices.own_echo.Goals as goal

pub from_ascending-requires : goal.from_ascending-requires
from_ascending-requires c =
    let all = c.args.echoes.now in
    let same = c.in_ok-own.ensures ∙ ap (own_echo c.args.me) c.as_slice.ensures.entries in
    subst AreEchoes (sym same) (filtered (λ (e : Echo). e.source) (λ (e : Echo). Unit {0}) all c.as_slice.ensures.lawful (λ (e : Echo). nat_eq e.source c.args.me))
