use Rattle.wb_script.proofs.BatchLaws.{counts_add_up, held_stays}
use Rattle.wb_script.proofs.laws.batches_add_up.Goals as goal

pub returns : goal.returns
returns c = record { counts = counts_add_up; held = held_stays }
