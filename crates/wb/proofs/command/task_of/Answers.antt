use Rattle.std.proofs.Common.{inl, inr, map}
use Rattle.std.proofs.lemmas.Result.{err_from_is_err_and}
use Rattle.clap.specs.Words.{app_of, subcommand_rows_of}
use Rattle.wb.proofs.Found.{asks, asks_nothing, refuses}
use Rattle.wb.proofs.command.task_of.Goals as goal

pub returns-in_err-program-clause-refused : goal.returns-in_err-program-clause-refused
returns-in_err-program-clause-refused c =
    let p = err_from_is_err_and c.from_residual.result c.from_residual.ensures.1 in
    rw p.1 (inl p.2)

pub returns-in_err-matches-clause-refused : goal.returns-in_err-matches-clause-refused
returns-in_err-matches-clause-refused c =
    let p = err_from_is_err_and c.from_residual-in_err-matches.result c.from_residual-in_err-matches.ensures.1 in
    rw p.1 (refuses (app_of c.in_ok-program.program) (map (λ word. word.now) c.args.words.now) p.0 c.in_ok-program.ensures.0 (λ s. rw p.2 (c.in_err-matches.ensures.kinds s)))

pub returns-in-Ok-clause-asked : goal.returns-in-Ok-clause-asked
returns-in-Ok-clause-asked c =
    asks (app_of c.in_ok-program.program) (map (λ word. word.now) c.args.words.now) (subcommand_rows_of c.in_ok-matches.matches) c.in_ok-program.ensures.0
    c.in_ok-matches.ensures.kinds (λ e. (c.in_ok-matches.ensures.ok.2 e).1) c.in-Ok.task c.in-Ok.ensures.asked

pub returns-in_err-error-in-Err-clause-refused : goal.returns-in_err-error-in-Err-clause-refused
returns-in_err-error-in-Err-clause-refused c =
    let p = err_from_is_err_and c.from_residual-in_err-error-in-Err.result c.from_residual-in_err-error-in-Err.ensures.1 in
    rw p.1 (inl p.2)

pub returns-clause-refused : goal.returns-clause-refused
returns-clause-refused c =
    inr (asks_nothing (app_of c.in_ok-program.program) (map (λ word. word.now) c.args.words.now) (subcommand_rows_of c.in_ok-matches.matches) c.in_ok-program.ensures.0
    (λ e. (c.in_ok-matches.ensures.ok.2 e).1) c.in-Err.ensures.refused)
