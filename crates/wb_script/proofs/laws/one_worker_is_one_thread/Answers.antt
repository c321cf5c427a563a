use Rattle.wb_script.proofs.OneWorker.{one_thread_is_outcome, one_worker_is_one_thread, one_thread_is_free}
use Rattle.wb_script.proofs.laws.one_worker_is_one_thread.Goals as goal

pub returns : goal.returns
returns c = record { some = one_thread_is_outcome; only = one_worker_is_one_thread; free = one_thread_is_free }
