use Rattle.wb_kept_progress.proofs.Coming.{marks_come_to_be_told}
use Rattle.wb_kept_progress.proofs.Starts.{no_state_is_a_dead_end}
use Rattle.wb_kept_progress.proofs.laws.what_is_lost_can_come.Goals as goal

pub returns : goal.returns
returns c = record { told = marks_come_to_be_told; comes = no_state_is_a_dead_end }
