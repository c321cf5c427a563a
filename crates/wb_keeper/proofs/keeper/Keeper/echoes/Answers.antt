use Rattle.std.proofs.Common.{List, subst, map, ◌∙◌}
use Rattle.wb_names.specs.ListFaults.{IsListFault}
use Rattle.wb_names.specs.declared.echo.Echo.{Echo}
use Rattle.wb_keeper.proofs.MessageValue.{only_echoes}
use Rattle.wb_keeper.proofs.SentEchoes.{no_fault}
use Rattle.wb_keeper.proofs.keeper.Keeper.echoes.Goals as goal

pub unreachable-requires : goal.unreachable-requires
unreachable-requires c = no_fault c.args.now c.args.self.now.heard c.in-Err.field-0.0 c.heard_echoes.ensures.ordered c.heard_echoes.ensures.few
    (subst (λ (es : List Echo). IsListFault (map (λ (e : Echo). e.source) es) c.in-Err.field-0.0) c.in_ok-heard.ensures.echoes c.in-Err.ensures.fault)

pub returns-clause-value : goal.returns-clause-value
returns-clause-value c = λ me constants calls s.
    c.in-Ok.ensures.list ∙ c.in_ok-heard.ensures.echoes ∙ only_echoes me calls c.args.now c.args.self.now.heard c.heard_echoes.ensures.ordered s.heard
