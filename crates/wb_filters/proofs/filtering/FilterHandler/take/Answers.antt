use Rattle.std.proofs.Common.{[], refl, sym, ◌∙◌, append-nil}
use Rattle.std.proofs.lemmas.Result.{err_from_is_err_and}
use Rattle.wb_lines.specs.Handling.{step_text}
use Rattle.wb_filters.specs.Filtering.{said_of, written}
use Rattle.wb_filters.proofs.filtering.FilterHandler.take.Goals as goal

pub returns-in_err-add : goal.returns-in_err-add
returns-in_err-add c =
    let p = err_from_is_err_and c.from_residual-in_err-add.result c.from_residual-in_err-add.ensures.1 in (
      [],
      c.in_err-add.ensures.err ∙ sym (append-nil c.args.output.now),
      λ s at. rw (p.1, p.2) (step_text (written s (said_of s c.args.number (record { bytes = c.args.line.now; ended = c.args.ended }))), refl),
    )
