use Rattle.std.proofs.Common.{ap, ◌∙◌}
use Rattle.wb_commands.specs.declared.fault.LineFault.{LineFault}
use Rattle.wb_commands.specs.declared.command.Command.{Command}
use Rattle.std.specs.Prelude.{Result}
use Rattle.wb_script.specs.Script.{part_of}
use Rattle.wb_script.specs.Inside.Parts.{joins_batch}
use Rattle.wb_script.proofs.Reading.{joins_so}
use Rattle.wb_script.proofs.said.SaidSaying.joins.Goals as goal

pub returns : goal.returns
returns c = λ line says. c.joins.ensures ∙ joins_so c.part.result (part_of c.args.self.now.said) c.part.ensures ∙ ap (λ (x : Result Command LineFault). joins_batch (part_of x)) says.0
