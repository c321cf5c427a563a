use Rattle.wb_keeper.proofs.FirstSenders.{first_senders_are_echoed}
use Rattle.wb_keeper.proofs.laws.first_senders_are_echoed.Goals as goal

pub returns : goal.returns
returns c = first_senders_are_echoed
