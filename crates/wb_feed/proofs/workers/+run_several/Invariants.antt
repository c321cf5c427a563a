use Rattle.wb_feed.proofs.workers.+run_several.Given as goal

abbrev pub decreases-run_several : goal.decreases-run_several
decreases-run_several g l = l.left
