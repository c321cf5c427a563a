use Rattle.std.proofs.Common.{◌≡◌, List, IfOk, OnErr, Option, Some, sym, subst}
use Rattle.std.specs.Box.{box_value}
use Rattle.clap.specs.Words.{Row, Text, found_of, rows_of, subcommand_rows_of}
use Rattle.clap.specs.declared.parser.matches.ArgMatches.TheViews.{out-ArgMatches, out-SubCommand}
use Rattle.wb.specs.CommandLine.{IsTaskFound}
use Rattle.wb.specs.declared.command.Task.{Task}
use Rattle.wb.proofs.Found.{joined, none_found}
use Rattle.wb.proofs.command.found_task.Goals as goal

pub returns-in-Some-clause-asked : goal.returns-in-Some-clause-asked
returns-in-Some-clause-asked c =
    let found : subcommand_rows_of c.args.matches.now ≡ Some (c.in-Some.name.now, rows_of (found_of c.in-Some.options.now)) =
    joined (λ b. (out-SubCommand (box_value b)).name.now) (λ b. rows_of (found_of (out-SubCommand (box_value b)).matches))
    (out-ArgMatches c.args.matches.now).subcommand c.in-Some.name.now (rows_of (found_of c.in-Some.options.now)) c.in-Some.ensures.name c.in-Some.ensures.rows in
    subst (λ (o : Option (Text × List Row)). IfOk c.named_task.result (IsTaskFound o)) (sym found) c.named_task.ensures.asked

pub returns-in-Some-clause-refused : goal.returns-in-Some-clause-refused
returns-in-Some-clause-refused c =
    let found : subcommand_rows_of c.args.matches.now ≡ Some (c.in-Some.name.now, rows_of (found_of c.in-Some.options.now)) =
    joined (λ b. (out-SubCommand (box_value b)).name.now) (λ b. rows_of (found_of (out-SubCommand (box_value b)).matches))
    (out-ArgMatches c.args.matches.now).subcommand c.in-Some.name.now (rows_of (found_of c.in-Some.options.now)) c.in-Some.ensures.name c.in-Some.ensures.rows in
    subst (λ (o : Option (Text × List Row)). OnErr c.named_task.result ((task : Task) → IsTaskFound o task → ⊥)) (sym found) c.named_task.ensures.refused

pub returns-in-None-clause-refused : goal.returns-in-None-clause-refused
returns-in-None-clause-refused c =
    none_found (λ b. ((out-SubCommand (box_value b)).name.now, rows_of (found_of (out-SubCommand (box_value b)).matches)))
    (out-ArgMatches c.args.matches.now).subcommand c.in-None.ensures.variant
