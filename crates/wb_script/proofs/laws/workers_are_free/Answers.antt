use Rattle.wb_script.proofs.AlikeOutcomes.{orders_are_free, workers_are_free}
use Rattle.wb_script.proofs.laws.workers_are_free.Goals as goal

pub returns : goal.returns
returns c = record { orders = orders_are_free; workers = workers_are_free }
