use Rattle.wb_random.proofs.SeedWords.{words_of-add, after_words-add, word_of-fits}
use Rattle.wb_random.proofs.laws.words_follow_words.Goals as goal

pub returns-clause-words : goal.returns-clause-words
returns-clause-words c = words_of-add

pub returns-clause-rest : goal.returns-clause-rest
returns-clause-rest c = after_words-add

pub returns-clause-fit : goal.returns-clause-fit
returns-clause-fit c = word_of-fits
