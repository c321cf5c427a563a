use Rattle.wb_codec.proofs.GrammarLaws.{one_datagram, spells_below}
use Rattle.wb_codec.proofs.laws.reading_undoes_spelling.Goals as goal

pub returns-clause-spells : goal.returns-clause-spells
returns-clause-spells c = spells_below

pub returns-clause-one : goal.returns-clause-one
returns-clause-one c = one_datagram
