use Rattle.std.proofs.Common.{Ok, sym, ap, ◌∙◌}
use Rattle.wb_words.specs.Adding.{numberless}
use Rattle.wb_words.specs.Rests.{words_left}
use Rattle.wb_words.proofs.AddingLaws.{of, written_drawn, written_wrong}
use Rattle.wb_words.proofs.adding.text.Goals as goal

pub returns-in-Ok : goal.returns-in-Ok
returns-in-Ok c = λ page time.
    written_drawn c.some_name.result (numberless page) 0 time (words_left c.args.rest) c.in-Ok.drawop (rw c.in-Ok.is at c.written_of.ensures)
    ∙ ap (λ op. Ok (of (numberless page) time op)) (sym c.op.ensures.op)

pub returns-in-Err-Word : goal.returns-in-Err-Word
returns-in-Err-Word c = λ page time. written_wrong c.some_name.result (numberless page) 0 time (words_left c.args.rest) c.in-Err-Word.wrong (rw c.in-Err-Word.field-0-is at rw c.in-Err-Word.is at c.written_of.ensures)
