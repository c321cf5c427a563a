use Rattle.wb_script.proofs.AlikeHistories.{prints_are_free}
use Rattle.wb_script.proofs.FreeArrivals.{batches_are_one, arrivals_are_free}
use Rattle.wb_script.proofs.laws.arrivals_are_free.Goals as goal

pub returns : goal.returns
returns c = record { batches = batches_are_one; held = arrivals_are_free; prints = prints_are_free }
