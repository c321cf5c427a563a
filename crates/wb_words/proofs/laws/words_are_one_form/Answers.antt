use Rattle.std.proofs.Common.{refl}
use Rattle.wb_words.specs.Spelling.{spelled}
use Rattle.wb_words.proofs.SpellingLaws.{read_again, one_spelling}
use Rattle.wb_words.proofs.laws.words_are_one_form.Goals as goal

pub returns-clause-again : goal.returns-clause-again
returns-clause-again c = λ v fits. read_again (spelled v) v (fits, refl)

pub returns-clause-one : goal.returns-clause-one
returns-clause-one c = one_spelling
