use Rattle.wb_keeper.proofs.KeeperAnswers.{one_sent, one_wanted, answers_are_sent, wanted_of_page}
use Rattle.wb_keeper.proofs.laws.keepers_answer_alike.Goals as goal

pub returns : goal.returns
returns c = record { sent = one_sent; wanted = one_wanted; answers = answers_are_sent; names = wanted_of_page }
