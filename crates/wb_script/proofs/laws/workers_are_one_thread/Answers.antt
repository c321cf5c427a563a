use Rattle.wb_script.proofs.EachReordering.{each_reordering_is_outcome}
use Rattle.wb_script.proofs.ReorderedScripts.{workers_are_one_thread}
use Rattle.wb_script.proofs.laws.workers_are_one_thread.Goals as goal

pub returns : goal.returns
returns c = record { scripts = workers_are_one_thread; each = each_reordering_is_outcome }
