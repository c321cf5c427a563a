-- A line that a script takes is read the same by a host.
use Rattle.std.proofs.Common.{◌++◌, Result, ap}
use Rattle.std.specs.Prelude.{codes}
use Rattle.wb_commands.specs.declared.command.Command.{Command}
use Rattle.wb_commands.specs.declared.fault.LineFault.{LineFault}
use Rattle.wb_commands.specs.Parsing.{handed_in}
use Rattle.wb_commands.specs.SentLines.{digits_of}
use Rattle.wb_commands.proofs.SentDigits.{taken}
use Rattle.wb_dialog.specs.Laws.{SaidIsRead, ScriptLinesAreRead}
use Rattle.wb_dialog.specs.Lines.{as_refusal, unjudged_line, unless_script}

pub script_lines_are_read : ScriptLinesAreRead
script_lines_are_read line read e = ap (λ (r : Result Command LineFault). as_refusal (unjudged_line (unless_script line r))) e

-- So is what was said and is printed as sent.
pub said_is_read : SaidIsRead
said_is_read v fits = script_lines_are_read (codes "datagram " ++ digits_of v) (handed_in v) (taken v fits).by_bytes
