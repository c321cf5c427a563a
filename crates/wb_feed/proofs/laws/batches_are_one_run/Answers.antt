use Rattle.wb_feed.proofs.OneRun.{batch_is_one_run}
use Rattle.wb_feed.proofs.laws.batches_are_one_run.Goals as goal

pub returns : goal.returns
returns c = batch_is_one_run c.one_run.ensures
