use Rattle.wb_kept_progress.proofs.InCrowds.{sessions_become_whole_in_crowds}
use Rattle.wb_kept_progress.proofs.Rounds.{sessions_become_whole_by_rounds}
use Rattle.wb_kept_progress.proofs.laws.filled_places_bring_rounds.Goals as goal

pub returns : goal.returns
returns c = record { whole = sessions_become_whole_by_rounds; crowded = sessions_become_whole_in_crowds }
