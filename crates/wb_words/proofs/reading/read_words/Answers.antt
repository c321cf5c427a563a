use Rattle.wb_words.proofs.SpellingLaws.{first_read, answer_same, answer_only}
use Rattle.wb_words.proofs.reading.read_words.Goals as goal

pub returns-clause-only : goal.returns-clause-only
returns-clause-only c = answer_only c.args.line.now _ (answer_same _ _ _ (first_read c.args.line.now _ _ c.first_word.ensures) c.datagram_of.ensures)
