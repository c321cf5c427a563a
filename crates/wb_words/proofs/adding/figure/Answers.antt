use Rattle.std.proofs.Common.{Ok, sym, ap, ◌∙◌}
use Rattle.wb_words.specs.Adding.{numberless}
use Rattle.wb_words.specs.Rests.{words_left}
use Rattle.wb_words.proofs.AddingLaws.{of, figure_drawn, figure_wrong}
use Rattle.wb_words.proofs.adding.figure.Goals as goal

pub returns-in-Ok : goal.returns-in-Ok
returns-in-Ok c = λ page time.
    figure_drawn c.some_name.result (numberless page) 0 time c.args.figure (words_left c.args.rest) c.in-Ok.drawop (sym c.figure_of.ensures ∙ c.in-Ok.is)
    ∙ ap (λ op. Ok (of (numberless page) time op)) (sym c.op.ensures.op)

pub returns-in-Err : goal.returns-in-Err
returns-in-Err c = λ page time. figure_wrong c.some_name.result (numberless page) 0 time c.args.figure (words_left c.args.rest) c.in-Err.wrong (sym c.figure_of.ensures ∙ c.in-Err.is)
