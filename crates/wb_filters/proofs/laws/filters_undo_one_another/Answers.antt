use Rattle.wb_filters.proofs.TurningLaws.{words_are_turned, digits_are_turned}
use Rattle.wb_filters.proofs.laws.filters_undo_one_another.Goals as goal

pub returns-clause-hex : goal.returns-clause-hex
returns-clause-hex c = words_are_turned

pub returns-clause-words : goal.returns-clause-words
returns-clause-words c = digits_are_turned
