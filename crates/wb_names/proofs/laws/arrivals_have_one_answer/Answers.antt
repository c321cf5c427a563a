use Rattle.wb_names.proofs.Arrivals.{batch_is}
use Rattle.wb_names.proofs.laws.arrivals_have_one_answer.Goals as goal

pub returns-clause-batch : goal.returns-clause-batch
returns-clause-batch c = batch_is
