use Rattle.std.proofs.Common.{◌||◌, ap, ap₂, ◌∙◌}
use Rattle.std.proofs.lemmas.Result.{IfOk-weaker}
use Rattle.clap.specs.Words.{App, with_subcommand}
use Rattle.wb.specs.CommandLine.{IsMade}
use Rattle.wb.proofs.Found.{at_ok}
use Rattle.wb.proofs.command.with_subcommand.Goals as goal

pub returns : goal.returns
returns c = λ app below h made.
    let s : IsMade below c.in_ok-subcommand.subcommand = at_ok (IsMade below) c.args.subcommand _ c.in_ok-subcommand.was made in
    IfOk-weaker c.subcommand.result _ _
    (λ r a. (a.shape s.1 ∙ ap₂ with_subcommand h.0 (ap (λ (x : App). x.top) s.0), a.globals ∙ ap₂ ◌||◌ h.1 s.1)) c.subcommand.ensures
