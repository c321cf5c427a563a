use Rattle.wb_kept_progress.proofs.LastNumbers.{last_numbers_are_told}
use Rattle.wb_kept_progress.proofs.SoonSince.{restarted_become_whole_anyway, restarted_become_whole_soon}
use Rattle.wb_kept_progress.proofs.Topped.{sessions_become_whole_anyway, sessions_become_whole_soon, tops_are_held_anyway, tops_are_held_soon}
use Rattle.wb_kept_progress.proofs.laws.sessions_become_whole_soon.Goals as goal

pub returns : goal.returns
returns c = record {
  tops = tops_are_held_soon last_numbers_are_told;
  whole = sessions_become_whole_soon last_numbers_are_told;
  tops_anyway = tops_are_held_anyway last_numbers_are_told;
  whole_anyway = sessions_become_whole_anyway last_numbers_are_told;
  restarted = restarted_become_whole_soon last_numbers_are_told;
  restarted_anyway = restarted_become_whole_anyway last_numbers_are_told;
}
