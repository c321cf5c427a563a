use Rattle.std.proofs.Common.{[], ◌++◌, ◌∙◌, ap, refl, sym, List, ℕ, append-nil}
use Rattle.std.proofs.lemmas.Result.{err_from_is_err_and}
use Rattle.wb_feed.specs.Batches.{counts_in}
use Rattle.wb_commands.specs.Answers.{batch_line}
use Rattle.wb_script.proofs.taking.print_taken.Goals as goal

pub returns-in_err-member-clause-printed : goal.returns-in_err-member-clause-printed
returns-in_err-member-clause-printed c =
    let p = err_from_is_err_and c.from_residual.result c.from_residual.ensures.1 in
    ([], sym (append-nil c.args.progress.now.output), rw p.1 refl)

pub returns-then-is_broken-clause-printed : goal.returns-then-is_broken-clause-printed
returns-then-is_broken-clause-printed c =
    let broken = sym c.is_broken.ensures ∙ c.if-is_broken.true in
    ([], sym (append-nil c.args.progress.now.output), rw (c.in_ok-member.was, broken) (refl, refl))

pub returns-in_err-text-clause-printed : goal.returns-in_err-text-clause-printed
returns-in_err-text-clause-printed c =
    let p = err_from_is_err_and c.from_residual-in_err-text.result c.from_residual-in_err-text.ensures.1 in
    ([], sym (append-nil c.args.progress.now.output), rw p.1 refl)

pub returns-in_err-add-clause-printed : goal.returns-in_err-add-clause-printed
returns-in_err-add-clause-printed c =
    let p = err_from_is_err_and c.from_residual-in_err-add.result c.from_residual-in_err-add.ensures.1 in
    ([], c.in_err-add.ensures.err ∙ sym (append-nil c.args.progress.now.output), rw p.1 refl)

pub returns-clause-printed : goal.returns-clause-printed
returns-clause-printed c =
    let going = sym c.is_broken.ensures ∙ c.if-is_broken.false in
    let printed = c.in_ok-add.ensures.ok ∙ ap (λ (t : List ℕ). c.args.progress.now.output ++ t) (c.as_bytes.ensures.value ∙ c.in_ok-text.ensures) in
    (batch_line (counts_in c.in_ok-member.batch), printed, rw (c.in_ok-member.was, going) (refl, refl))
