use Rattle.wb_script.proofs.EndingShows.{shows_arrivals, shows_are_free}
use Rattle.wb_script.proofs.laws.shows_are_free.Goals as goal

pub returns : goal.returns
returns c = record { arrivals = shows_arrivals; free = shows_are_free }
