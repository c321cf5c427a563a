use Rattle.wb_filters.proofs.WholeScripts.{words_come_back, digits_come_back}
use Rattle.wb_filters.proofs.laws.scripts_come_back.Goals as goal

pub returns-clause-words : goal.returns-clause-words
returns-clause-words c = words_come_back

pub returns-clause-digits : goal.returns-clause-digits
returns-clause-digits c = digits_come_back
