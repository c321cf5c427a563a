use Rattle.std.proofs.Common.{rules}
use Rattle.wb_feed.proofs.Filing.{files_none, files_more}
use Rattle.wb_feed.proofs.batch.file.Goals as goal

pub loop-i-init : goal.loop-i-init
loop-i-init c = files_none _ _ (c.in_ok-filed.ensures.items_if_clones_equal (λ y k. search rules))

pub loop-i-preserved : goal.loop-i-preserved
loop-i-preserved c = files_more _ _ _ _ _ c.loop-i-test.true c.loop-i.invariant _ c.put.ensures
