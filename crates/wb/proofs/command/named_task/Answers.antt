use Rattle.std.proofs.Common.{◌≡◌, ◌≢◌, codes, sym, subst, rules}
use Rattle.clap.specs.Words.{Text, found_of, rows_of}
use Rattle.wb.specs.CommandLine.{IsAsked}
use Rattle.wb.proofs.Found.{unnamed}
use Rattle.wb.proofs.command.named_task.Goals as goal

pub returns-then-eq-clause-asked : goal.returns-then-eq-clause-asked
returns-then-eq-clause-asked c =
    let is : c.args.name.now ≡ codes "run" = search rules in
    subst (λ (n : Text). IsAsked n (rows_of (found_of c.args.options.now)) c.run_task.result) (sym is) c.run_task.ensures

pub returns-then-eq-3-clause-asked : goal.returns-then-eq-3-clause-asked
returns-then-eq-3-clause-asked c =
    let is : c.args.name.now ≡ codes "hex" = search rules in
    subst (λ (n : Text). IsAsked n (rows_of (found_of c.args.options.now)) c.filter_task.result) (sym is) c.filter_task.ensures

pub returns-then-eq-4-clause-asked : goal.returns-then-eq-4-clause-asked
returns-then-eq-4-clause-asked c =
    let is : c.args.name.now ≡ codes "words" = search rules in
    subst (λ (n : Text). IsAsked n (rows_of (found_of c.args.options.now)) c.filter_task-then-eq-4.result) (sym is) c.filter_task-then-eq-4.ensures

pub returns-in-Ok-clause-asked : goal.returns-in-Ok-clause-asked
returns-in-Ok-clause-asked c =
    let is : c.args.name.now ≡ codes "host" = search rules in
    subst (λ (n : Text). IsAsked n (rows_of (found_of c.args.options.now)) c.in-Ok.task) (sym is) c.in-Ok.ensures

pub returns-in-Err-clause-refused : goal.returns-in-Err-clause-refused
returns-in-Err-clause-refused c = λ task h.
    let is : c.args.name.now ≡ codes "host" = search rules in
    c.in-Err.ensures task (subst (λ (n : Text). IsAsked n (rows_of (found_of c.args.options.now)) task) is h)

pub returns-else-eq-5-clause-refused : goal.returns-else-eq-5-clause-refused
returns-else-eq-5-clause-refused c =
    let run : c.args.name.now ≢ codes "run" = search rules in
    let check : c.args.name.now ≢ codes "check" = search rules in
    let hex : c.args.name.now ≢ codes "hex" = search rules in
    let words : c.args.name.now ≢ codes "words" = search rules in
    let host : c.args.name.now ≢ codes "host" = search rules in
    unnamed c.args.name.now (rows_of (found_of c.args.options.now)) run check hex words host
