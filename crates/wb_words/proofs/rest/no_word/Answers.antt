use Rattle.std.proofs.Common.{ap}
use Rattle.wb_words.specs.Reading.{end_at}
use Rattle.wb_words.proofs.Splitting.{has_word}
use Rattle.wb_words.proofs.rest.no_word.Goals as goal

pub returns-in-Words : goal.returns-in-Words
returns-in-Words c = rw (c.in-Words.is, c.at.ensures) (ap (λ ws. end_at c.args.place ws tt) (has_word c.in-Words.field-0.now).is)
