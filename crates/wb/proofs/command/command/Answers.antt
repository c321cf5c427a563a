use Rattle.std.proofs.Common.{codes}
use Rattle.clap.specs.Words.{new_app}
use Rattle.wb.specs.CommandLine.{bare_app, command_line, filter_app, host_app, run_app}
use Rattle.wb.proofs.command.command.Goals as goal

pub returns : goal.returns
unfolding command_line
returns c =
    let runs = c.in_ok-program.ensures bare_app run_app c.in_ok-bare_command.ensures c.run_command.ensures in
    let checks = c.in_ok-program-2.ensures _ (new_app (codes "check")) runs c.check_command.ensures in
    let hexes = c.in_ok-program-3.ensures _ (filter_app (codes "hex")) checks c.hex_command.ensures in
    let words = c.in_ok-program-4.ensures _ (filter_app (codes "words")) hexes c.words_command.ensures in
    c.in_ok-program-5.ensures _ host_app words c.host_command.ensures
