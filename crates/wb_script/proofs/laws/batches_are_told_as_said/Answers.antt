use Rattle.wb_script.proofs.RetoldRuns.{batches_are_told_as_said}
use Rattle.wb_script.proofs.laws.batches_are_told_as_said.Goals as goal

pub returns : goal.returns
returns c = batches_are_told_as_said
